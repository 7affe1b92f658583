use Rattle.std.proofs.Common.{◌≡◌, ℕ, ◌*◌, ◌/◌, ◌%◌, ◌∙◌, Bool, true, false, cond, refl, ap, sym, arith, ◌++◌, ◌∷◌, [], map}
use mir.Val.{bool_byte}
use Rattle.std.specs.List.{range_with_len}
use Rattle.std.proofs.lemmas.List.FromFn.{map-range_with_len_more}
use Rattle.bats_model.specs.Batch.{entries_by, identity_entry}
use Rattle.bats_model.proofs.systematic.identity_entries.Goals as goal

bool_byte-is : (b : Bool) → bool_byte b ≡ cond b 1 0
bool_byte-is true = refl
bool_byte-is false = refl

pub loop-place-preserved : goal.loop-place-preserved
loop-place-preserved c =
    let entry : ℕ → ℕ = λ place. identity_entry (place / c.args.columns) (place % c.args.columns) in
    let here : c.from.result ≡ entry c.loop-place.place = c.from.ensures ∙ bool_byte-is _ in
    c.in_ok-push.ensures.items ∙ ap (λ entries. entries ++ c.from.result ∷ []) c.loop-place.invariant
    ∙ ap (λ x. map entry (range_with_len 0 c.loop-place.place) ++ x ∷ []) here
    ∙ sym (map-range_with_len_more entry 0 c.loop-place.place c.loop-place.place (omega arith))

pub returns : goal.returns
unfolding entries_by
returns c =
    let all : c.loop-place.place ≡ c.args.rows * c.args.columns = omega arith in
    c.loop-place.invariant
    ∙ ap (λ n. map (λ place. identity_entry (place / c.args.columns) (place % c.args.columns)) (range_with_len 0 n)) all
