-- Which contributors a batch fixes: a larger set leaves less to fix, and whether it fixes them is decided.
use Rattle.std.proofs.Common.{ℕ, zero, suc, ◌≡◌, ◌<◌, ◌∙◌, ◌⊎◌, inl, inr, eqb, not, ◌||◌, ◌&&◌, Bool, true, false, List, length, map, get_or, sym, ap, refl, subst, arith}
use Rattle.std.specs.Prelude.{All}
use Rattle.std.specs.Bool.{Decides}
use Rattle.std.specs.List.{range_with_len, list_all}
use Rattle.std.proofs.lemmas.Bool.{cases_Bool, both_ways, or_cases, or_left, or_right, and_parts, and_from, not-true, not_from_false, true_from_ne_false, eqb-true, eq-eqb}
use Rattle.std.proofs.lemmas.Bool.Decides.{Decides-eqb, Decides-below_and}
use Rattle.std.proofs.lemmas.List.Elements.{All-weaker, All-from_get_or}
use Rattle.std.proofs.lemmas.List.Sums.{AllPass-from_list_all, list_all-from_AllPass}
use Rattle.std.proofs.lemmas.List.FromFn.{length-map-range_with_len, get_or-map-range_with_len}
use Rattle.gf_core.specs.Bytes.{AreBytes}
use Rattle.gf_core.specs.Field.{gf_mul, gf_sum}
use Rattle.gf_core.proofs.SumLemmas.{gf_sum-congruence}
use Rattle.gf_core.proofs.SearchLemmas.{cases_bytes}
use Rattle.bats_model.specs.Session.{SessionData}
use Rattle.bats_model.specs.Batch.{batch_of, degree_of, contributor_of, entry_of}
use Rattle.bats_model.specs.Peeling.{is_in, local_value, AreHidden, Fixes}
use Rattle.bats_model.specs.declared.packet.Packet.{Packet}
use Rattle.bats_model.proofs.EachBatch.{contributor_of-lt}
use Rattle.bats_peel.specs.OneSet.{IsSubset}

-- how many contributors the batch has
abbrev pub degree_at : SessionData → ℕ → ℕ
degree_at session number = degree_of (batch_of session number)

abbrev pub symbol_at : SessionData → ℕ → ℕ → ℕ
symbol_at session number k = contributor_of (batch_of session number) k

-- ---- larger sets

pub Fixes-subset : (session : SessionData) (number : ℕ) (kept : List Packet) (set larger : List Bool)
    → IsSubset session set larger → Fixes session number kept set → Fixes session number kept larger
Fixes-subset session number kept set larger part fixes = record {
  only_zeros = λ values hidden k within. fixes.only_zeros values
      (record {
        bytes = hidden.bytes;
        zero_inside = λ i h inside. hidden.zero_inside i h
            (part.keeps (symbol_at session number i) (contributor_of-lt session number i h) inside);
        zero_sums = hidden.zero_sums;
      })
      k within;
}

-- ---- values that are the same at each contributor

pub local_value-same : (session : SessionData) (number : ℕ) (coefs : List ℕ) (v w : ℕ → ℕ)
    → ((k : ℕ) → k < degree_at session number → v k ≡ w k)
    → local_value session number coefs v ≡ local_value session number coefs w
unfolding local_value
local_value-same session number coefs v w same =
    gf_sum-congruence session.m
    (λ j. gf_mul (get_or coefs j 0) (gf_sum (degree_at session number) (λ k. gf_mul (entry_of (batch_of session number) k j) (v k))))
    (λ j. gf_mul (get_or coefs j 0) (gf_sum (degree_at session number) (λ k. gf_mul (entry_of (batch_of session number) k j) (w k))))
    (λ j _. ap (gf_mul (get_or coefs j 0))
    (gf_sum-congruence (degree_at session number)
    (λ k. gf_mul (entry_of (batch_of session number) k j) (v k))
    (λ k. gf_mul (entry_of (batch_of session number) k j) (w k))
    (λ k within. ap (gf_mul (entry_of (batch_of session number) k j)) (same k within))))

pub AreHidden-same : (session : SessionData) (number : ℕ) (kept : List Packet) (set : List Bool) (v w : ℕ → ℕ)
    → ((k : ℕ) → k < degree_at session number → v k ≡ w k)
    → AreHidden session number kept set v → AreHidden session number kept set w
AreHidden-same session number kept set v w same hidden = record {
  bytes = λ k within. subst (λ byte. byte < 256) (same k within) (hidden.bytes k within);
  zero_inside = λ k within inside. sym (same k within) ∙ hidden.zero_inside k within inside;
  zero_sums =
      All-weaker (λ packet. local_value session number packet.coefs v ≡ 0) (λ packet. local_value session number packet.coefs w ≡ 0)
      (λ packet h. sym (local_value-same session number packet.coefs v w same) ∙ h) kept hidden.zero_sums;
}

-- ---- tests

-- whether each number below n passes
abbrev pub all_below : (ℕ → Bool) → ℕ → Bool
all_below p zero = true
all_below p (suc n) = p n && all_below p n

pub all_below-Decides : (p : ℕ → Bool) (P : ℕ → Type 0) → ((k : ℕ) → Decides (p k) (P k)) → (n : ℕ)
    → Decides (all_below p n) ((k : ℕ) → k < n → P k)
all_below-Decides p P each n = Decides-below_and p P (all_below p) each refl (λ _. refl) n

-- whether a byte is 0 where it is to be
abbrev zero_where : Bool → ℕ → Bool
zero_where inside byte = not inside || eqb byte 0

zero_where-Decides : (inside : Bool) (byte : ℕ) → Decides (zero_where inside byte) (inside ≡ true → byte ≡ 0)
zero_where-Decides inside byte = (
  λ h e. elim (or_cases (not inside) (eqb byte 0) h) [
    | inl out ↦ absurd (both_ways inside (not-true inside out) e)
    | inr none ↦ eqb-true byte 0 none
  ],
  λ h. elim (cases_Bool inside) [
    | inl e ↦ or_right (not inside) (eqb byte 0) (eq-eqb byte 0 (h e))
    | inr e ↦ or_left (not inside) (eqb byte 0) (not_from_false inside e)
  ],
)

-- values that a list gives
abbrev values_in : List ℕ → ℕ → ℕ
values_in list k = get_or list k 0

abbrev are_inside_zero : SessionData → ℕ → List Bool → List ℕ → Bool
are_inside_zero session number set list =
    all_below (λ k. zero_where (is_in set (symbol_at session number k)) (get_or list k 0)) (degree_at session number)

abbrev are_sums_zero : SessionData → ℕ → List Packet → List ℕ → Bool
are_sums_zero session number kept list =
    list_all (λ packet. eqb (local_value session number packet.coefs (values_in list)) 0) kept

abbrev are_all_zero : SessionData → ℕ → List ℕ → Bool
are_all_zero session number list = all_below (λ k. eqb (get_or list k 0) 0) (degree_at session number)

-- whether the list is hidden and not all zeros
abbrev shows_unfixed : SessionData → ℕ → List Packet → List Bool → List ℕ → Bool
shows_unfixed session number kept set list =
    (are_inside_zero session number set list && are_sums_zero session number kept list) && not (are_all_zero session number list)

inside-Decides : (session : SessionData) (number : ℕ) (set : List Bool) (list : List ℕ)
    → Decides (are_inside_zero session number set list)
    ((k : ℕ) → k < degree_at session number → is_in set (symbol_at session number k) ≡ true → get_or list k 0 ≡ 0)
inside-Decides session number set list =
    all_below-Decides (λ k. zero_where (is_in set (symbol_at session number k)) (get_or list k 0))
    (λ k. is_in set (symbol_at session number k) ≡ true → get_or list k 0 ≡ 0)
    (λ k. zero_where-Decides (is_in set (symbol_at session number k)) (get_or list k 0)) (degree_at session number)

sums-Decides : (session : SessionData) (number : ℕ) (kept : List Packet) (list : List ℕ)
    → Decides (are_sums_zero session number kept list)
    (All (λ packet. local_value session number packet.coefs (values_in list) ≡ 0) kept)
sums-Decides session number kept list =
    let value : Packet → ℕ = λ packet. local_value session number packet.coefs (values_in list) in (
      λ h. All-weaker (λ packet. eqb (value packet) 0 ≡ true) (λ packet. value packet ≡ 0) (λ packet e. eqb-true (value packet) 0 e) kept
          (AllPass-from_list_all (λ packet. eqb (value packet) 0) kept h),
      λ h. list_all-from_AllPass (λ packet. eqb (value packet) 0) kept
          (All-weaker (λ packet. value packet ≡ 0) (λ packet. eqb (value packet) 0 ≡ true) (λ packet e. eq-eqb (value packet) 0 e) kept h),
    )

zeros-Decides : (session : SessionData) (number : ℕ) (list : List ℕ)
    → Decides (are_all_zero session number list) ((k : ℕ) → k < degree_at session number → get_or list k 0 ≡ 0)
zeros-Decides session number list =
    all_below-Decides (λ k. eqb (get_or list k 0) 0) (λ k. get_or list k 0 ≡ 0) (λ k. Decides-eqb (get_or list k 0) 0) (degree_at session number)

-- ---- a list of bytes that shows that the batch doesn't fix its contributors

found_unfixed : (session : SessionData) (number : ℕ) (kept : List Packet) (set : List Bool) (list : List ℕ)
    → AreBytes list → length list ≡ degree_at session number → shows_unfixed session number kept set list ≡ true
    → ¬ Fixes session number kept set
found_unfixed session number kept set list bytes size passes fixes =
    let hidden = are_inside_zero session number set list && are_sums_zero session number kept list in
    let parts = and_parts hidden (not (are_all_zero session number list)) passes in
    let two = and_parts (are_inside_zero session number set list) (are_sums_zero session number kept list) parts.0 in
    both_ways (are_all_zero session number list) (not-true (are_all_zero session number list) parts.1)
    ((zeros-Decides session number list).1 (fixes.only_zeros (values_in list) (record {
      bytes = λ k within. bytes k 0 (omega (arith, size));
      zero_inside = (inside-Decides session number set list).0 two.0;
      zero_sums = (sums-Decides session number kept list).0 two.1;
    })))

-- the list of values that are given by number
abbrev list_of : SessionData → ℕ → (ℕ → ℕ) → List ℕ
list_of session number values = map values (range_with_len 0 (degree_at session number))

list_of-at : (session : SessionData) (number : ℕ) (values : ℕ → ℕ) (k : ℕ) → k < degree_at session number
    → values k ≡ values_in (list_of session number values) k
list_of-at session number values k within =
    sym (get_or-map-range_with_len values 0 (degree_at session number) k k 0 within (omega arith))

list_of-bytes : (session : SessionData) (number : ℕ) (values : ℕ → ℕ)
    → ((k : ℕ) → k < degree_at session number → values k < 256) → AreBytes (list_of session number values)
list_of-bytes session number values bytes =
    All-from_get_or (λ byte. byte < 256) (list_of session number values) 0 (λ k within.
    let low : k < degree_at session number = omega (arith, length-map-range_with_len values 0 (degree_at session number)) in
    subst (λ byte. byte < 256) (list_of-at session number values k low) (bytes k low))

none_unfixed : (session : SessionData) (number : ℕ) (kept : List Packet) (set : List Bool)
    → ((list : List ℕ) → AreBytes list → length list ≡ degree_at session number → shows_unfixed session number kept set list ≡ false)
    → Fixes session number kept set
none_unfixed session number kept set none = record {
  only_zeros = λ values hidden k within.
      let list : List ℕ = list_of session number values in
      let is : AreHidden session number kept set (values_in list) =
      AreHidden-same session number kept set values (values_in list) (list_of-at session number values) hidden in
      let shows : not (are_all_zero session number list) ≡ true → shows_unfixed session number kept set list ≡ true =
      and_from (are_inside_zero session number set list && are_sums_zero session number kept list) (not (are_all_zero session number list))
      (and_from (are_inside_zero session number set list) (are_sums_zero session number kept list)
      ((inside-Decides session number set list).1 is.zero_inside) ((sums-Decides session number kept list).1 is.zero_sums)) in
      let zeros : are_all_zero session number list ≡ true =
      true_from_ne_false (are_all_zero session number list) (λ e. both_ways (shows_unfixed session number kept set list)
      (none list (list_of-bytes session number values hidden.bytes) (length-map-range_with_len values 0 (degree_at session number)))
      (shows (not_from_false (are_all_zero session number list) e))) in
      list_of-at session number values k within ∙ (zeros-Decides session number list).0 zeros k within;
}

-- a batch fixes its contributors outside the set, or doesn't
pub cases_fixes : (session : SessionData) (number : ℕ) (kept : List Packet) (set : List Bool)
    → Fixes session number kept set ⊎ (¬ Fixes session number kept set)
cases_fixes session number kept set = elim (cases_bytes (degree_at session number) (shows_unfixed session number kept set)) [
  | inl found ↦ inr (found_unfixed session number kept set found.list found.bytes found.size found.passes)
  | inr none ↦ inl (none_unfixed session number kept set none)
]
