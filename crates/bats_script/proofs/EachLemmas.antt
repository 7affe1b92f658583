-- The values of items, one after the other.
use Rattle.std.proofs.Common.{◌≡◌, ℕ, suc, Bool, true, false, cond, ◌+◌, ◌<◌, ◌≤◌, List, [], ◌∷◌, ◌++◌, length, get_or, drop, Option, Some, None, option_map, refl, sym, ap, ◌∙◌, append_assoc, append-nil}
use Rattle.std.proofs.lemmas.List.{drop_all}
use Rattle.std.proofs.lemmas.Option.{same_Some, none-some}
use Rattle.toml.specs.Data.{Data, Items, no_items, item}
use Rattle.toml.specs.View.{view, items_view}
use Rattle.toml.specs.declared.value.Value.{Value}
use Rattle.toml.proofs.Views.{items_view-drop}
use Rattle.bats_script.specs.ScriptValues.{each, before, item_count}

-- the values that were found, before those of the other items
abbrev pub joined : {A : Type 0} → List A → Option (List A) → Option (List A)
joined done rest = option_map (λ more. done ++ more) rest

joined-nothing : {A : Type 0} (o : Option (List A)) → o ≡ joined [] o
joined-nothing None = refl
joined-nothing (Some xs) = refl

joined-one : {A : Type 0} (done : List A) (a : A) (o : Option (List A)) → joined done (before (Some a) o) ≡ joined (done ++ a ∷ []) o
joined-one done a None = refl
joined-one done a (Some xs) = ap Some (sym (append_assoc done (a ∷ []) xs))

-- one item more
pub each-more : {A : Type 0} (f : Data → Option A) (vs : List Value) (i : ℕ) (v : Value) (done after : List A) (a : A) (all : Option (List A))
    → all ≡ joined done (each f (items_view (drop i vs))) → i < length vs → get_or vs i v ≡ v → f (view v) ≡ Some a → after ≡ done ++ a ∷ []
    → all ≡ joined after (each f (items_view (drop (i + 1) vs)))
each-more f vs i v done after a all so_far within at is new =
    let rest = each f (items_view (drop (i + 1) vs)) in
    so_far ∙ ap (λ items. joined done (each f items)) (items_view-drop vs i v within)
    ∙ ap (λ x. joined done (before (f (view x)) rest)) at ∙ ap (λ o. joined done (before o rest)) is
    ∙ joined-one done a rest ∙ ap (λ xs. joined xs rest) (sym new)

-- an item that has no value
pub each-fails : {A : Type 0} (f : Data → Option A) (vs : List Value) (i : ℕ) (v : Value) (done : List A) (all : Option (List A))
    → all ≡ joined done (each f (items_view (drop i vs))) → i < length vs → get_or vs i v ≡ v → f (view v) ≡ None → all ≡ None
each-fails f vs i v done all so_far within at is =
    let rest = each f (items_view (drop (i + 1) vs)) in
    so_far ∙ ap (λ items. joined done (each f items)) (items_view-drop vs i v within)
    ∙ ap (λ x. joined done (before (f (view x)) rest)) at ∙ ap (λ o. joined done (before o rest)) is

-- all items were gone through
pub each-all : {A : Type 0} (f : Data → Option A) (vs : List Value) (i : ℕ) (done : List A) (all : Option (List A))
    → all ≡ joined done (each f (items_view (drop i vs))) → length vs ≤ i → all ≡ Some done
each-all f vs i done all so_far past =
    so_far ∙ ap (λ left. joined done (each f (items_view left))) (drop_all i vs past) ∙ ap Some (append-nil done)

-- before the first item
pub each-begin : {A : Type 0} (f : Data → Option A) (vs ws : List Value) (done : List A) → ws ≡ vs → done ≡ []
    → each f (items_view vs) ≡ joined done (each f (items_view (drop 0 ws)))
each-begin f vs ws done same none =
    joined-nothing (each f (items_view vs)) ∙ ap (λ xs. joined [] (each f (items_view xs))) (sym same)
    ∙ ap (λ xs. joined xs (each f (items_view ws))) (sym none)

-- ---- counts

counted : {A : Type 0} (o : Option A) (p : Option (List A)) (n : ℕ) (xs : List A) → ((ys : List A) → p ≡ Some ys → length ys ≡ n)
    → before o p ≡ Some xs → length xs ≡ suc n
counted (Some a) (Some ys) n xs ih is = sym (ap length (same_Some (a ∷ ys) xs is)) ∙ ap suc (ih ys refl)
counted (Some a) None n xs ih is = absurd (none-some xs is)
counted None (Some ys) n xs ih is = absurd (none-some xs is)
counted None None n xs ih is = absurd (none-some xs is)

-- as many values as items
pub each-length : {A : Type 0} (f : Data → Option A) (items : Items) (xs : List A) → each f items ≡ Some xs → length xs ≡ item_count items
each-length f no_items xs is = sym (ap length (same_Some [] xs is))
each-length f (item d rest) xs is = counted (f d) (each f rest) (item_count rest) xs (each-length f rest) is

pub cond_option : {A : Type 0} (b : Bool) (o : Option A) (a : A) → cond b o None ≡ Some a → (b ≡ true) × (o ≡ Some a)
cond_option true o a is = (refl, is)
cond_option false o a is = absurd (none-some a is)
