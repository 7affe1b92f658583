-- The held batches by their places: their numbers, and what is kept of each.
use Rattle.std.proofs.Common.{ℕ, ◌≡◌, ◌<◌, ◌+◌, ◌==◌, List, All, [], ◌∷◌, length, map, refl, sym, subst, arith, inl, inr, ◌∙◌}
use Rattle.std.specs.Prelude.{slice_index_or}
use Rattle.std.specs.List.{Contains, range_with_len}
use Rattle.std.specs.List.Sorted.{IsStrictlyIncreasing}
use Rattle.std.proofs.lemmas.Bool.{cases_Bool, eqb-true}
use Rattle.std.proofs.lemmas.List.{get_or-map, length-map}
use Rattle.std.proofs.lemmas.List.Concat.{length-flat_map}
use Rattle.std.proofs.lemmas.List.Elements.{All-contains, All-from_get_or, Contains-get_or, Contains-append_right}
use Rattle.std.proofs.lemmas.List.FromFn.{fill_by_all}
use Rattle.bats_model.specs.declared.packet.Packet.{Packet}
use Rattle.bats_model.specs.Kept.{kept_of, AreHeld}
use Rattle.bats_batch.specs.Held.{HeldData, HeldBatch, HaveRisingNumbers, StandsFor, batch_at, kept_at, kept_packets, row_count, no_batch}
use Rattle.bats_batch.proofs.HeldBatches.{kept_at-stands}

-- the numbers of held batches
abbrev pub numbers_of : List HeldBatch → List ℕ
numbers_of batches = map (λ batch. batch.number) batches

-- ---- which numbers these are

-- the number at a place
pub number_at : (batches : List HeldBatch) (place default : ℕ) → place < length batches
    → slice_index_or (numbers_of batches) place default ≡ (batch_at batches place).number
number_at batches place default within = get_or-map (λ (batch : HeldBatch). batch.number) batches place no_batch default within

rising_numbers : (batches : List HeldBatch) → HaveRisingNumbers batches → IsStrictlyIncreasing (numbers_of batches)
rising_numbers batches rising k within =
    let long : length (numbers_of batches) ≡ length batches = length-map batches (λ (batch : HeldBatch). batch.number) in
    omega (
      arith,
      number_at batches k 0 (omega (arith, long, within)),
      number_at batches (k + 1) 0 (omega (arith, long, within)),
      rising k (k + 1) (omega arith) (omega (arith, long, within)),
    )

-- where packets are kept, there is a held batch
contains_kept : (batches : List HeldBatch) (number : ℕ) → 0 < length (kept_at batches number) → Contains (numbers_of batches) number
contains_kept [] number some = absurd (omega arith)
contains_kept (batch ∷ batches) number some = elim (cases_Bool (batch.number == number)) [
  | inl own ↦ (0, omega arith, eqb-true batch.number number own)
  | inr other ↦
      let rest : kept_at (batch ∷ batches) number ≡ kept_at batches number = rw other refl in
      Contains-append_right (batch.number ∷ []) (numbers_of batches) number
      (contains_kept batches number (subst (λ (kept : List Packet). 0 < length kept) rest some))
]

-- what is kept of the batch at a place
pub kept_there : (batches : List HeldBatch) (place : ℕ) → HaveRisingNumbers batches → place < length batches
    → kept_at batches (batch_at batches place).number ≡ (batch_at batches place).kept
kept_there batches place rising within =
    kept_at-stands batches rising (batch_at batches place).number place (record { within = within; same = refl })

kept_contained : (batches : List HeldBatch) (number : ℕ) → HaveRisingNumbers batches → All (λ batch. 0 < length batch.kept) batches
    → Contains (numbers_of batches) number → 0 < length (kept_at batches number)
kept_contained batches number rising some is =
    let HasKept : HeldBatch → Type 0 = λ batch. 0 < length batch.kept in
    let within : is.0 < length batches = omega (arith, length-map batches (λ (batch : HeldBatch). batch.number), is.1) in
    let same : (batch_at batches is.0).number ≡ number = sym (number_at batches is.0 number within) ∙ is.2 in
    let kept : 0 < length (batch_at batches is.0).kept = All-contains HasKept batches (batch_at batches is.0) some (Contains-get_or batches is.0 no_batch within) in
    subst (λ (n : ℕ). 0 < length (kept_at batches n)) same
    (subst (λ (ps : List Packet). 0 < length ps) (sym (kept_there batches is.0 rising within)) kept)

-- they are the numbers of the batches that are held
pub AreHeld-numbers : (packets : List Packet) (held : HeldData) → StandsFor packets held → AreHeld packets (numbers_of held.batches)
AreHeld-numbers packets held stands = record {
  rising = rising_numbers held.batches stands.rising;
  held = λ number. (
    λ is. subst (λ (ps : List Packet). 0 < length ps) (stands.kept number) (kept_contained held.batches number stands.rising stands.some is),
    λ some. contains_kept held.batches number (subst (λ (ps : List Packet). 0 < length ps) (sym (stands.kept number)) some),
  );
}

-- ---- what is kept of each

-- the held batches, by their places
pub by_place : (batches : List HeldBatch) → batches ≡ map (batch_at batches) (range_with_len 0 (length batches))
by_place batches = fill_by_all (batch_at batches) batches (length batches) no_batch refl (λ k within. refl)

pub length-kept_packets : (batches : List HeldBatch) → length (kept_packets batches) ≡ row_count batches
unfolding kept_packets
length-kept_packets batches = length-flat_map (λ (batch : HeldBatch). batch.kept) batches

-- each batch keeps what the packets say
abbrev pub KeepRight : List Packet → List HeldBatch → Type 0
KeepRight packets batches = All (λ batch. kept_of batch.number packets ≡ batch.kept) batches

pub keep_right : (packets : List Packet) (held : HeldData) → StandsFor packets held → KeepRight packets held.batches
keep_right packets held stands =
    All-from_get_or (λ batch. kept_of batch.number packets ≡ batch.kept) held.batches no_batch
    (λ place within. sym (stands.kept (batch_at held.batches place).number) ∙ kept_there held.batches place stands.rising within)
