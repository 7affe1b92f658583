use Rattle.std.proofs.Common.{subst, sym, inr, arith}
use Rattle.std.proofs.lemmas.Grind.{common_steps}
use Rattle.toml.specs.View.{table_view}
use Rattle.bats_script.specs.Script.{IsUnlessMemory}
use Rattle.bats_script.proofs.ScriptLemmas.{text-some, text-none}
use Rattle.bats_script.proofs.SoundScripts.{result-sound}
use Rattle.bats_script.proofs.reading.read_script.Goals as goal

pub returns-in-Ok-clause-text : goal.returns-in-Ok-clause-text
returns-in-Ok-clause-text c = λ utf8.
    subst (λ a. IsUnlessMemory a c.script_in.result) (sym (text-some c.args.bytes.now (table_view c.in-Ok.table) c.in-Ok.ensures.ok.1))
    c.script_in.ensures

pub returns-else-is_memory-clause-text : goal.returns-else-is_memory-clause-text
returns-else-is_memory-clause-text c = λ utf8.
    inr (sym (text-none c.args.bytes.now (c.in-Err.ensures.refused (λ m. let t = c.is_memory.ensures.1 m in grind (arith, common_steps)) utf8)))

pub returns-in-Ok-clause-sound : goal.returns-in-Ok-clause-sound
returns-in-Ok-clause-sound c = result-sound (table_view c.in-Ok.table) c.script_in.result c.script_in.ensures
