use Rattle.std.proofs.Common.{◌∙◌}
use Rattle.bats_script.specs.ScriptValues.{seed_of}
use Rattle.bats_script.proofs.ValueLemmas.{found, missing}
use Rattle.bats_script.proofs.parameters.seed_at.Goals as goal

pub returns-in-Some : goal.returns-in-Some
returns-in-Some c =
    c.seed_of.ensures ∙ found seed_of c.args.name.now c.args.table.now.entries c.get.result c.in-Some.value c.get.ensures.value c.in-Some.is

pub returns-in-None : goal.returns-in-None
returns-in-None c = missing seed_of c.args.name.now c.args.table.now.entries c.get.result c.get.ensures.value c.in-None.is
