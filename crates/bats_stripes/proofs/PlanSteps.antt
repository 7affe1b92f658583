-- A plan so far, on the rows of a stripe.
use Rattle.std.proofs.Common.{ℕ, ◌≡◌, ◌+◌, ◌∙◌, List, [], ◌∷◌, ◌++◌, get_or, take, sym, ap, refl, subst}
use Rattle.std.specs.Prelude.{All, slice_get, Some}
use Rattle.std.proofs.lemmas.List.{take_more}
use Rattle.std.proofs.lemmas.Option.{slice_get_within, get_or_from_slice_get}
use Rattle.gf_rows.specs.declared.operation.Op.{Op}
use Rattle.gf_rows.specs.Operation.{FitsRows, op_on_rows}
use Rattle.gf_rows.specs.Plan.{plan_on_rows}
use Rattle.gf_rows.proofs.PlanLemmas.{plan_on_rows-push}

pub plan-none : (plan : List Op) (rows : List (List ℕ)) → plan_on_rows (take 0 plan) rows ≡ rows
unfolding plan_on_rows
plan-none plan rows = refl

pub plan-more : (plan : List Op) (i : ℕ) (op : Op) (before now after : List (List ℕ)) → slice_get plan i ≡ Some op
    → now ≡ plan_on_rows (take i plan) before → after ≡ op_on_rows now op → after ≡ plan_on_rows (take (i + 1) plan) before
plan-more plan i op before now after stands so_far does =
    let own : get_or plan i op ≡ op = get_or_from_slice_get plan i op op stands in
    let next : take (i + 1) plan ≡ take i plan ++ op ∷ [] =
    take_more plan i op (slice_get_within plan i op stands) ∙ ap (λ (o : Op). take i plan ++ o ∷ []) own in
    does ∙ ap (λ (rs : List (List ℕ)). op_on_rows rs op) so_far ∙ sym (plan_on_rows-push (take i plan) op before)
    ∙ ap (λ (ops : List Op). plan_on_rows ops before) (sym next)

-- the next operation fits
pub fits-at : (plan : List Op) (i rows : ℕ) (op : Op) → All (FitsRows rows) plan → slice_get plan i ≡ Some op → FitsRows rows op
fits-at plan i rows op fits stands =
    subst (FitsRows rows) (get_or_from_slice_get plan i op op stands) (fits i op (slice_get_within plan i op stands))
