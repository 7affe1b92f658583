use Rattle.std.proofs.Common.{Some, sym, ap, ◌∙◌, inl, inr}
use Rattle.std.specs.Result.{result_ok}
use Rattle.bats_script.specs.declared.script_end.ScriptKey.TheVariants.{File}
use Rattle.bats_script.proofs.ScriptLemmas.{needs-some, needs-none}
use Rattle.bats_script.proofs.reading.decoded.Goals as goal

pub returns-in-Ok : goal.returns-in-Ok
returns-in-Ok c = inr (needs-some File c.from.result _ (ap result_ok c.in-Ok.ensures.ok ∙ ap Some (sym c.from.ensures)))

pub returns-in_default : goal.returns-in_default
returns-in_default c =
    elim c.in-Err.ensures.err [
      | inl memory ↦ absurd (c.in_default.not-OutOfMemory memory)
      | inr refused ↦ inr (needs-none File _ (ap result_ok refused))
    ]
