use Rattle.std.proofs.Common.{◌∙◌, ◌≡◌, length, ap, arith}
use Rattle.std.specs.Option.{option_zip}
use Rattle.toml.specs.View.{view}
use Rattle.bats_script.specs.ScriptValues.{number_between}
use Rattle.bats_script.proofs.ValueLemmas.{two_in-other, two_in-both}
use Rattle.bats_script.proofs.values.two_in.Goals as goal

pub returns-then-len-ne2 : goal.returns-then-len-ne2
returns-then-len-ne2 c =
    two_in-other c.args.first_high c.args.low c.args.high c.args.items.now.items
    (λ e. c.if-len-ne2.true (let n = c.len.ensures in omega (arith, e)))

pub returns : goal.returns
returns c =
    let two : length c.args.items.now.items ≡ 2 = let h' = c.if-len-ne2.false in omega arith in
    c.zip.ensures ∙ ap (λ a. option_zip a c.number_between-2.result) c.number_between.ensures
    ∙ ap (λ b. option_zip (number_between 0 c.args.first_high (view c.index.result.now)) b) c.number_between-2.ensures
    ∙ two_in-both c.args.first_high c.args.low c.args.high c.args.items.now.items c.index.result.now c.index-2.result.now two
    c.index.ensures c.index-2.ensures
