use Rattle.std.proofs.Common.{◌≡◌, true, false, Ok, Err, subst, sym, ◌∙◌, inr, codes, arith}
use Rattle.std.proofs.lemmas.Grind.{common_steps}
use Rattle.toml.specs.Data.{get_member}
use Rattle.toml.specs.View.{table_view}
use Rattle.bats_script.specs.ScriptValues.{links_of}
use Rattle.bats_script.specs.Script.{are_known, script_of, needs, value_at, IsUnlessMemory}
use Rattle.bats_script.specs.declared.script_end.ScriptKey.TheVariants.{Relays, Links}
use Rattle.bats_script.proofs.ScriptLemmas.{given, step, stop, exit-is, gives, ends, few-seeds, known-yes, known-none}
use Rattle.bats_script.proofs.reading.script_in.Goals as goal

pub returns-then-not-are_known : goal.returns-then-not-are_known
unfolding script_of
returns-then-not-are_known c =
    let no' : are_known (table_view c.args.table.now) ≡ false = grind (arith, common_steps) in
    inr (sym (stop _ _ _ (known-none (table_view c.args.table.now) no')))

pub returns-in_err-parameters : goal.returns-in_err-parameters
unfolding script_of
returns-in_err-parameters c =
    let yes : are_known (table_view c.args.table.now) ≡ true = grind (arith, common_steps) in
    inr (exit-is _ _ c.from_residual.ensures.1 ∙ sym (step _ _ _ (known-yes (table_view c.args.table.now) yes) ∙ stop _ _ _ (sym c.in_err-parameters.ensures.value)))

pub returns-in_err-file : goal.returns-in_err-file
unfolding script_of
returns-in_err-file c =
    let yes : are_known (table_view c.args.table.now) ≡ true = grind (arith, common_steps) in
    ends _ _ _ _ _ (step _ _ _ (known-yes (table_view c.args.table.now) yes) ∙ step _ _ _ (sym c.in_ok-parameters.ensures.value)) c.in_err-file.ensures c.from_residual-in_err-file.ensures.1

pub returns-in_err-relay_seeds : goal.returns-in_err-relay_seeds
unfolding script_of
returns-in_err-relay_seeds c =
    let yes : are_known (table_view c.args.table.now) ≡ true = grind (arith, common_steps) in
    ends _ _ _ _ _ (step _ _ _ (known-yes (table_view c.args.table.now) yes) ∙ step _ _ _ (sym c.in_ok-parameters.ensures.value) ∙ step _ _ _ (gives _ _ c.in_ok-file.ensures)) c.in_err-relay_seeds.ensures
    c.from_residual-in_err-relay_seeds.ensures.1

pub overflow_cast-len : goal.overflow_cast-len
overflow_cast-len c =
    let few = few-seeds (get_member (codes "relays") (table_view c.args.table.now)) c.in_ok-relay_seeds.relay_seeds (given Relays _ _ (gives _ _ c.in_ok-relay_seeds.ensures)) in
    record { fits = omega (arith, few, c.len.ensures) }

pub links_in-requires : goal.links_in-requires
links_in-requires c =
    let few = few-seeds (get_member (codes "relays") (table_view c.args.table.now)) c.in_ok-relay_seeds.relay_seeds (given Relays _ _ (gives _ _ c.in_ok-relay_seeds.ensures)) in
    omega (arith, few, c.len.ensures)

pub returns-in_err-links : goal.returns-in_err-links
unfolding script_of
returns-in_err-links c =
    let yes : are_known (table_view c.args.table.now) ≡ true = grind (arith, common_steps) in
    ends _ _ _ _ _ (step _ _ _ (known-yes (table_view c.args.table.now) yes) ∙ step _ _ _ (sym c.in_ok-parameters.ensures.value) ∙ step _ _ _ (gives _ _ c.in_ok-file.ensures) ∙ step _ _ _ (gives _ _ c.in_ok-relay_seeds.ensures))
    (subst (λ n. IsUnlessMemory (needs Links (value_at (links_of n) (codes "links") (table_view c.args.table.now))) (Err c.in_err-links.field-0.0)) c.len.ensures c.in_err-links.ensures)
    c.from_residual-in_err-links.ensures.1

pub returns-in_err-events : goal.returns-in_err-events
unfolding script_of
returns-in_err-events c =
    let yes : are_known (table_view c.args.table.now) ≡ true = grind (arith, common_steps) in
    ends _ _ _ _ _ (step _ _ _ (known-yes (table_view c.args.table.now) yes) ∙ step _ _ _ (sym c.in_ok-parameters.ensures.value) ∙ step _ _ _ (gives _ _ c.in_ok-file.ensures) ∙ step _ _ _ (gives _ _ c.in_ok-relay_seeds.ensures) ∙ step _ _ _ (gives _ _ (subst (λ n. IsUnlessMemory (needs Links (value_at (links_of n) (codes "links") (table_view c.args.table.now))) (Ok c.in_ok-links.links)) c.len.ensures c.in_ok-links.ensures))) c.in_err-events.ensures
    c.from_residual-in_err-events.ensures.1

pub returns : goal.returns
unfolding script_of
returns c =
    let yes : are_known (table_view c.args.table.now) ≡ true = grind (arith, common_steps) in
    inr (c.whole.ensures ∙ sym (step _ _ _ (known-yes (table_view c.args.table.now) yes) ∙ step _ _ _ (sym c.in_ok-parameters.ensures.value) ∙ step _ _ _ (gives _ _ c.in_ok-file.ensures) ∙ step _ _ _ (gives _ _ c.in_ok-relay_seeds.ensures) ∙ step _ _ _ (gives _ _ (subst (λ n. IsUnlessMemory (needs Links (value_at (links_of n) (codes "links") (table_view c.args.table.now))) (Ok c.in_ok-links.links)) c.len.ensures c.in_ok-links.ensures)) ∙ step _ _ _ (gives _ _ c.in_ok-events.ensures)))
