-- How many packets are kept in held batches that have each list's kept packets.
use Rattle.std.proofs.Common.{ℕ, suc, ◌≡◌, ◌≢◌, ◌<◌, ◌≤◌, ◌∙◌, ◌==◌, sym, ap, refl, false, not, List, All, [], ◌∷◌, length, arith, inl, inr}
use Rattle.std.specs.Prelude.{filter}
use Rattle.std.proofs.lemmas.Bool.{cases_Bool, cases_eq, eqb-true, eq-eqb, ne_eqb}
use Rattle.std.proofs.lemmas.List.Elements.{All-head, All-tail}
use Rattle.std.proofs.lemmas.List.Filters.{length-filter_both}
use Rattle.std.proofs.lemmas.List.Sums.{sum_by-cons}
use Rattle.bats_model.specs.Kept.{packets_in}
use Rattle.bats_model.specs.declared.packet.Packet.{Packet}
use Rattle.bats_batch.specs.Held.{HeldBatch, kept_at, row_count, HaveRisingNumbers}
use Rattle.bats_batch.proofs.HeldBatches.{kept_at-absent}

-- the packets of other batches
abbrev others_of : ℕ → List Packet → List Packet
others_of batch packets = filter (λ packet. not (packet.batch == batch)) packets

others_of-same : (batch : ℕ) (packets : List Packet) → packets_in batch (others_of batch packets) ≡ []
others_of-same batch [] = refl
others_of-same batch (packet ∷ packets) = elim (cases_Bool (packet.batch == batch)) [
  | inl own ↦ rw own (others_of-same batch packets)
  | inr other ↦ rw (other, other) (others_of-same batch packets)
]

others_of-other : (batch q : ℕ) (packets : List Packet) → batch ≢ q → packets_in q (others_of batch packets) ≡ packets_in q packets
others_of-other batch q [] differ = refl
others_of-other batch q (packet ∷ packets) differ = elim (cases_Bool (packet.batch == batch)) [
  | inl own ↦
      let apart : (packet.batch == q) ≡ false = ne_eqb packet.batch q (λ e. differ (sym (eqb-true packet.batch batch own) ∙ e)) in
      rw (own, apart) (others_of-other batch q packets differ)
  | inr other ↦ rw other (elim (cases_Bool (packet.batch == q)) [
    | inl here ↦ rw here (ap (λ (ps : List Packet). packet ∷ ps) (others_of-other batch q packets differ))
    | inr there ↦ rw there (others_of-other batch q packets differ)
  ])
]

HaveRisingNumbers-tail : (batch : HeldBatch) (batches : List HeldBatch) → HaveRisingNumbers (batch ∷ batches) → HaveRisingNumbers batches
HaveRisingNumbers-tail batch batches rising i j below within = rising (suc i) (suc j) (omega arith) (omega arith)

-- where what is kept at each number are the packets of this batch, all packets are counted
pub row_count-packets : (batches : List HeldBatch) (packets : List Packet) → HaveRisingNumbers batches
    → ((number : ℕ) → kept_at batches number ≡ filter (λ packet. packet.batch == number) packets) → row_count batches ≡ length packets
row_count-packets [] [] rising kept = refl
row_count-packets [] (packet ∷ packets) rising kept =
    let none : [] ≡ packet ∷ packets_in packet.batch packets = kept packet.batch ∙ (rw (eq-eqb packet.batch packet.batch refl) refl) in
    absurd (cc)
row_count-packets (batch ∷ batches) packets rising kept =
    let rest : List Packet = others_of batch.number packets in
    let own : batch.kept ≡ packets_in batch.number packets =
    sym (rw (eq-eqb batch.number batch.number refl) refl) ∙ kept batch.number in
    let later : (number : ℕ) → kept_at batches number ≡ packets_in number rest = λ number. elim (cases_eq batch.number number) [
      | inl e ↦
          ap (kept_at batches) (sym e)
          ∙ kept_at-absent batches batch.number (λ k within same. omega (arith, rising 0 (suc k) (omega arith) (omega arith), same))
          ∙ sym (others_of-same batch.number packets) ∙ ap (λ (n : ℕ). packets_in n rest) e
      | inr differ ↦
          sym (rw (ne_eqb batch.number number differ) refl) ∙ kept number ∙ sym (others_of-other batch.number number packets differ)
    ] in
    let counted : row_count batches ≡ length rest = row_count-packets batches rest (HaveRisingNumbers-tail batch batches rising) later in
    omega (
      arith,
      counted,
      ap (λ (ps : List Packet). length ps) own,
      sum_by-cons (λ (b : HeldBatch). length b.kept) batch batches,
      length-filter_both (λ (p : Packet). p.batch == batch.number) (λ (p : Packet). not (p.batch == batch.number)) (λ p. refl) packets,
    )

-- each held batch has a kept packet, so there are at most as many batches
pub length-row_count : (batches : List HeldBatch) → All (λ batch. 0 < length batch.kept) batches → length batches ≤ row_count batches
length-row_count [] some = omega arith
length-row_count (batch ∷ batches) some =
    let HasKept : HeldBatch → Type 0 = λ b. 0 < length b.kept in
    omega (
      arith,
      All-head HasKept batch batches some,
      length-row_count batches (All-tail HasKept batch batches some),
      sum_by-cons (λ (b : HeldBatch). length b.kept) batch batches,
    )
