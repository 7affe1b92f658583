use Rattle.bats_format.proofs.BrokenFields.{none_broken}
use Rattle.bats_format.proofs.laws.header_breaks_no_rule.Goals as goal

pub returns : goal.returns
returns c = none_broken
