-- Where a batch stands or belongs among slots: behind the last one, or where a binary search ends.
use Rattle.std.proofs.Common.{ℕ, ◌≡◌, ◌<◌, ◌≤◌, ◌-◌, ◌∙◌, List, length, get_or, sym, ap, arith, Result, Ok, Err, IfOk, IfErr}
use Rattle.std.specs.List.Sorted.{IsSearchInRange, IsBinarySearchResult, IsNonDecreasingBy}
use Rattle.std.specs.Ordering.{nat_cmp, ordering_index}
use Rattle.std.proofs.lemmas.Cmp.{ranked}
use Rattle.std.proofs.lemmas.Bool.Decides.{nat_tests}
use Rattle.std.proofs.lemmas.List.{length-map, get_or-map}
use Rattle.std.proofs.lemmas.List.Sorted.{IsNonDecreasingBy-from_default}
use Rattle.bats_batch.specs.Held.{HeldBatch, no_batch, batch_at, HaveRisingNumbers}
use Rattle.bats_batch.specs.steps.Slots.{batch_in, batches_in, StandsAt, BelongsAt}
use Rattle.bats_batch.specs.declared.slot.Slot.{Slot}

-- the number at a place, as a slot's
pub number-at : (slots : List Slot) (k : ℕ) (d : Slot) → k < length slots → (batch_at (batches_in slots) k).number ≡ (get_or slots k d).number
number-at slots k d within = ap (λ (b : HeldBatch). b.number) (get_or-map batch_in slots k d no_batch within)

-- the last slot's number is below the batch's
pub BelongsAt-end : (slots : List Slot) (number : ℕ) (slot : Slot) → HaveRisingNumbers (batches_in slots) → 0 < length slots
    → slot ≡ get_or slots (length slots - 1) slot → slot.number < number → BelongsAt (batches_in slots) number (length slots)
BelongsAt-end slots number slot rising some last less =
    let all : length (batches_in slots) ≡ length slots = length-map slots batch_in in
    let end : (batch_at (batches_in slots) (length slots - 1)).number ≡ slot.number =
    number-at slots (length slots - 1) slot (omega arith) ∙ sym (ap (λ (s : Slot). s.number) last) in
    record {
      within = omega arith;
      before = λ k below.
          let same : k ≡ length slots - 1 → (batch_at (batches_in slots) k).number ≡ slot.number =
          λ e. ap (λ (i : ℕ). (batch_at (batches_in slots) i).number) e ∙ end in
          grind (arith, same, end, rising k (length slots - 1), all);
      behind = λ k above under. absurd (omega arith);
    }

module _ (slots : List Slot) (number : ℕ) (d : Slot) (rising : HaveRisingNumbers (batches_in slots)) where
  all : length (batches_in slots) ≡ length slots
  all = length-map slots batch_in

  -- the comparisons with the number rise along the slots
  comparisons_rise : IsNonDecreasingBy (λ (slot : Slot). ordering_index (nat_cmp slot.number number)) slots
  comparisons_rise = IsNonDecreasingBy-from_default (λ (slot : Slot). ordering_index (nat_cmp slot.number number)) slots d (λ i j le in_range.
      let below : i < length slots = omega arith in
      let first = number-at slots i d below in
      let second = number-at slots j d in_range in
      let numbers_rise : (get_or slots i d).number ≤ (get_or slots j d).number =
      grind (arith, all, first, second, rising i j, λ (same : i ≡ j). ap (λ (k : ℕ). (get_or slots k d).number) same) in
      grind (arith, nat_tests))

  -- a binary search by number ends at the batch, or where it belongs
  pub searched : (r : Result ℕ ℕ) → IsSearchInRange r (length slots) → IsBinarySearchResult (λ (slot : Slot). nat_cmp slot.number number) slots r
      → record { held : IfOk r (StandsAt (batches_in slots) number); absent : IfErr r (BelongsAt (batches_in slots) number) }
  searched (Ok at) in_range equal = record {
    held = record { within = omega (arith, all); same = number-at slots at d in_range ∙ ranked _ number _ (sym (equal d)) };
    absent = tt;
  }
  searched (Err at) in_range parted = record {
    held = tt;
    absent = record {
      within = omega (arith, all);
      before = λ k below.
          let inside : k < length slots = omega arith in
          omega (arith, number-at slots k d inside, ranked _ number _ (sym ((parted comparisons_rise).0 k d (omega arith) below)));
      behind = λ k above under.
          let inside : k < length slots = omega (arith, all) in
          omega (arith, number-at slots k d inside, ranked _ number _ (sym ((parted comparisons_rise).1 k d above inside)));
    };
  }
