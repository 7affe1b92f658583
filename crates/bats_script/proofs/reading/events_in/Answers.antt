use Rattle.std.proofs.Common.{Bor, Some, option_map, subst, sym, ap, ◌∙◌, inr, codes}
use Rattle.toml.specs.View.{view}
use Rattle.toml.specs.declared.value.Value.{Value}
use Rattle.toml.proofs.Views.{table_get}
use Rattle.bats_script.specs.Script.{needs, events_at, IsUnlessMemory}
use Rattle.bats_script.specs.declared.script_end.ScriptKey.TheVariants.{Event}
use Rattle.bats_script.proofs.ScriptLemmas.{needs-some}
use Rattle.bats_script.proofs.reading.events_in.Goals as goal

pub returns-in-Some : goal.returns-in-Some
unfolding events_at
returns-in-Some c =
    subst (λ o. IsUnlessMemory (needs Event o) c.events_of.result)
    (ap (λ o. events_at (option_map (λ (x : Bor Value). view x.now) o)) (sym c.in-Some.is)
    ∙ ap events_at (table_get c.get.result (codes "event") c.args.table.now.entries c.get.ensures.value)) c.events_of.ensures

pub returns-in-None : goal.returns-in-None
unfolding events_at
returns-in-None c =
    inr (needs-some Event c.new.result _ (sym (ap events_at (table_get c.get.result (codes "event") c.args.table.now.entries c.get.ensures.value))
    ∙ ap (λ o. events_at (option_map (λ (x : Bor Value). view x.now) o)) c.in-None.is ∙ ap Some (sym c.new.ensures)))
