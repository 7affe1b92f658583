use Rattle.std.proofs.Common.{subst, sym, inr, codes}
use Rattle.bats_script.specs.ScriptValues.{seeds_of}
use Rattle.bats_script.specs.Script.{needs, IsUnlessMemory}
use Rattle.bats_script.specs.declared.script_end.ScriptKey.TheVariants.{Relays}
use Rattle.bats_script.proofs.ValueLemmas.{found, missing}
use Rattle.bats_script.proofs.ScriptLemmas.{needs-none}
use Rattle.bats_script.proofs.reading.relays_in.Goals as goal

pub returns-in-Some : goal.returns-in-Some
returns-in-Some c =
    subst (λ o. IsUnlessMemory (needs Relays o) c.seeds_of.result)
    (found seeds_of (codes "relays") c.args.table.now.entries c.get.result c.in-Some.value c.get.ensures.value c.in-Some.is) c.seeds_of.ensures

pub returns-in-None : goal.returns-in-None
returns-in-None c =
    inr (needs-none Relays _ (sym (missing seeds_of (codes "relays") c.args.table.now.entries c.get.result c.get.ensures.value c.in-None.is)))
