use Rattle.bats_script.proofs.ValueLemmas.{among-below, among-above, among-inside}
use Rattle.std.proofs.Common.{arith}
use Rattle.bats_script.proofs.values.among.Goals as goal

pub returns-then-number-low : goal.returns-then-number-low
returns-then-number-low c = among-below _ _ _ c.if-number-low.true

pub returns-then-number-high : goal.returns-then-number-high
returns-then-number-high c = among-above _ _ _ c.if-number-high.true

pub returns : goal.returns
returns c = among-inside _ _ _ (let h' = c.if-number-low.false in omega arith) (let h' = c.if-number-high.false in omega arith)
