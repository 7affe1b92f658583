use Rattle.std.proofs.Common.{subst, sym, inr, codes}
use Rattle.bats_script.specs.ScriptValues.{hex_bytes}
use Rattle.bats_script.specs.Script.{needs, IsUnlessMemory}
use Rattle.bats_script.specs.declared.script_end.ScriptKey.TheVariants.{File}
use Rattle.bats_script.proofs.ValueLemmas.{found, missing}
use Rattle.bats_script.proofs.ScriptLemmas.{needs-none}
use Rattle.bats_script.proofs.reading.file_in.Goals as goal

pub returns-in-Some : goal.returns-in-Some
returns-in-Some c =
    subst (λ o. IsUnlessMemory (needs File o) c.hex_bytes.result)
    (found hex_bytes (codes "file") c.args.table.now.entries c.get.result c.in-Some.value c.get.ensures.value c.in-Some.is) c.hex_bytes.ensures

pub returns-in-None : goal.returns-in-None
returns-in-None c =
    inr (needs-none File _ (sym (missing hex_bytes (codes "file") c.args.table.now.entries c.get.result c.get.ensures.value c.in-None.is)))
