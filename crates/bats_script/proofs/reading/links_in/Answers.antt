use Rattle.std.proofs.Common.{subst, sym, inr, codes}
use Rattle.bats_script.specs.ScriptValues.{links_of}
use Rattle.bats_script.specs.Script.{needs, IsUnlessMemory}
use Rattle.bats_script.specs.declared.script_end.ScriptKey.TheVariants.{Links}
use Rattle.bats_script.proofs.ValueLemmas.{found, missing}
use Rattle.bats_script.proofs.ScriptLemmas.{needs-none}
use Rattle.bats_script.proofs.reading.links_in.Goals as goal

pub returns-in-Some : goal.returns-in-Some
returns-in-Some c =
    subst (λ o. IsUnlessMemory (needs Links o) c.links_of.result)
    (found (links_of c.args.relays) (codes "links") c.args.table.now.entries c.get.result c.in-Some.value c.get.ensures.value c.in-Some.is) c.links_of.ensures

pub returns-in-None : goal.returns-in-None
returns-in-None c =
    inr (needs-none Links _ (sym (missing (links_of c.args.relays) (codes "links") c.args.table.now.entries c.get.result c.get.ensures.value c.in-None.is)))
