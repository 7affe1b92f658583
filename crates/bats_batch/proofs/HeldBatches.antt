-- What is kept at a number among held batches, and what a change of one batch or a further one does to it.
use Rattle.std.proofs.Common.{ℕ, zero, suc, ◌≡◌, ◌∙◌, ◌≢◌, ◌<◌, ◌+◌, ◌-◌, eqb, if◌then◌else◌, List, [], ◌∷◌, length, set, refl, ap, subst, arith, inl, inr}
use Rattle.std.specs.List.{insert}
use Rattle.std.proofs.lemmas.Bool.{cases_lt}
use Rattle.std.proofs.lemmas.Bool.Decides.{nat_tests}
use Rattle.std.proofs.lemmas.Grind.{common_steps}
use Rattle.std.proofs.lemmas.List.Edits.{length-insert, get_or-insert_below, get_or-insert_at, get_or-insert_above}
use Rattle.bats_model.specs.declared.packet.Packet.{Packet}
use Rattle.bats_batch.specs.Held.{HeldBatch, kept_at, no_batch, batch_at, HaveRisingNumbers}
use Rattle.bats_batch.specs.steps.Slots.{StandsAt, BelongsAt}

-- no batch before this place has the number
abbrev pub IsAbsentBefore : List HeldBatch → ℕ → ℕ → Type 0
IsAbsentBefore batches number place = (k : ℕ) → k < place → (batch_at batches k).number ≢ number

IsAbsentBefore-tail : (batch : HeldBatch) (batches : List HeldBatch) (number place : ℕ)
    → IsAbsentBefore (batch ∷ batches) number (suc place) → IsAbsentBefore batches number place
IsAbsentBefore-tail batch batches number place absent k below = absent (suc k) (omega arith)

-- what is kept at each number after the batch with this number has these kept packets
abbrev pub IsKeptWith : List HeldBatch → List HeldBatch → ℕ → List Packet → Type 0
IsKeptWith old new number kept = (q : ℕ) → kept_at new q ≡ (if eqb number q then kept else kept_at old q)

pub kept_at-absent : (batches : List HeldBatch) (number : ℕ) → IsAbsentBefore batches number (length batches) → kept_at batches number ≡ []
kept_at-absent [] number absent = refl
kept_at-absent (batch ∷ batches) number absent =
    grind (
      arith,
      nat_tests,
      absent 0 (omega arith),
      kept_at-absent batches number (IsAbsentBefore-tail batch batches number (length batches) absent),
    )

kept_at-first : (batches : List HeldBatch) (number place : ℕ) → StandsAt batches number place → IsAbsentBefore batches number place
    → kept_at batches number ≡ (batch_at batches place).kept
kept_at-first [] number place stands absent = absurd (omega (arith, stands.within))
kept_at-first (batch ∷ batches) number zero stands absent = grind (arith, nat_tests, stands.same)
kept_at-first (batch ∷ batches) number (suc place) stands absent =
    grind (
      arith,
      nat_tests,
      absent 0 (omega arith),
      kept_at-first batches number place (record { within = omega (arith, stands.within); same = stands.same })
          (IsAbsentBefore-tail batch batches number place absent),
    )

kept_at-set_first : (batches : List HeldBatch) (number place : ℕ) (new : HeldBatch) → StandsAt batches number place
    → IsAbsentBefore batches number place → new.number ≡ number → IsKeptWith batches (set batches place new) number new.kept
kept_at-set_first [] number place new stands absent same q = absurd (omega (arith, stands.within))
kept_at-set_first (batch ∷ batches) number zero new stands absent same q = grind (arith, nat_tests, stands.same)
kept_at-set_first (batch ∷ batches) number (suc place) new stands absent same q =
    grind (
      arith,
      nat_tests,
      absent 0 (omega arith),
      kept_at-set_first batches number place new (record { within = omega (arith, stands.within); same = stands.same })
          (IsAbsentBefore-tail batch batches number place absent) same q,
    )

kept_at-insert_first : (batches : List HeldBatch) (number place : ℕ) (new : HeldBatch) → IsAbsentBefore batches number place
    → new.number ≡ number → IsKeptWith batches (insert batches place new) number new.kept
kept_at-insert_first batches number zero new absent same q = grind (arith, nat_tests)
kept_at-insert_first [] number (suc place) new absent same q = grind (arith, nat_tests)
kept_at-insert_first (batch ∷ batches) number (suc place) new absent same q =
    grind (
      arith,
      nat_tests,
      absent 0 (omega arith),
      kept_at-insert_first batches number place new (IsAbsentBefore-tail batch batches number place absent) same q,
    )

-- ---- a batch that stands at a place

module _ (batches : List HeldBatch) (rising : HaveRisingNumbers batches) (number place : ℕ) (stands : StandsAt batches number place) where
  absent_before : IsAbsentBefore batches number place
  absent_before k below same = omega (arith, rising k place below stands.within, stands.same)

  pub kept_at-stands : kept_at batches number ≡ (batch_at batches place).kept
  kept_at-stands = kept_at-first batches number place stands absent_before

  pub kept_at-set : (new : HeldBatch) → new.number ≡ number → IsKeptWith batches (set batches place new) number new.kept
  kept_at-set new same = kept_at-set_first batches number place new stands absent_before same

  pub rising-set : (new : HeldBatch) → new.number ≡ number → HaveRisingNumbers (set batches place new)
  rising-set new same i j below within =
      grind (arith, common_steps, rising i j, rising i place, rising place j, stands.within, stands.same)

-- ---- a batch that belongs at a place

module _ (batches : List HeldBatch) (number place : ℕ) (belongs : BelongsAt batches number place) where
  absent_everywhere : IsAbsentBefore batches number (length batches)
  absent_everywhere k below same = elim (cases_lt k place) [
    | inl before ↦ omega (arith, belongs.before k before)
    | inr behind ↦ omega (arith, belongs.behind k behind below)
  ]

  pub kept_at-belongs : kept_at batches number ≡ []
  kept_at-belongs = kept_at-absent batches number absent_everywhere

  pub kept_at-insert : (new : HeldBatch) → new.number ≡ number → IsKeptWith batches (insert batches place new) number new.kept
  kept_at-insert new same =
      kept_at-insert_first batches number place new (λ k below. absent_everywhere k (omega (arith, belongs.within))) same

  pub rising-insert : (new : HeldBatch) → new.number ≡ number → HaveRisingNumbers batches → HaveRisingNumbers (insert batches place new)
  rising-insert new same rising i j below within =
      let after : List HeldBatch = insert batches place new in
      let number_in = λ (batch : HeldBatch). batch.number in
      let length_after = length-insert batches place new belongs.within in
      let number_below : (i : ℕ) → i < place → (batch_at after i).number ≡ (batch_at batches i).number =
      λ i under. ap number_in (get_or-insert_below batches place new no_batch i under belongs.within) in
      let number_here : (i : ℕ) → i ≡ place → (batch_at after i).number ≡ number =
      λ i here. rw here (ap number_in (get_or-insert_at batches place new no_batch belongs.within) ∙ same) in
      let number_above : (i : ℕ) → place < i → (batch_at after i).number ≡ (batch_at batches (i - 1)).number =
      λ i above. subst (λ q. (batch_at after q).number ≡ (batch_at batches (i - 1)).number) {x = i - 1 + 1} (omega arith)
      (ap number_in (get_or-insert_above batches place new no_batch (i - 1) (omega arith) belongs.within)) in
      grind (
        arith,
        number_below i,
        number_here i,
        number_above i,
        number_below j,
        number_here j,
        number_above j,
        rising i j,
        rising i (j - 1),
        rising (i - 1) (j - 1),
        belongs.before i,
        belongs.behind (j - 1),
      )
