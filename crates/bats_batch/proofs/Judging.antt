-- What the coefficients that are left of a packet say: whether its vector is a combination of those of other packets.
use Rattle.std.proofs.Common.{ℕ, ◌≡◌, ◌≢◌, ◌<◌, ◌+◌, ◌∙◌, List, [], length, get_or, take, map, replicate, sym, ap, subst, arith}
use Rattle.std.specs.Prelude.{All}
use Rattle.std.proofs.lemmas.List.{length-map, length-take-le, get_or-take, get_or-map, get_or-replicate, ext_get_or, length-replicate}
use Rattle.std.proofs.lemmas.List.Elements.{All-map, All-weaker, All-take}
use Rattle.gf_core.specs.Bytes.{AreBytes}
use Rattle.gf_core.specs.Rows.{row_sum}
use Rattle.gf_core.specs.Combinations.{IsInSpan}
use Rattle.gf_core.specs.Triangular.{AreRows, IsZeroAt, AreTriangular}
use Rattle.gf_core.proofs.RowLemmas.{row_sum_assoc, row_sum_self, row_sum-replicate_zero, replicate_zero-row_sum}
use Rattle.gf_core.proofs.CombinationLemmas.{take-row_sum, IsInSpan-row_sum, IsInSpan-trans, take-IsInSpan, zeros-triangular}
use Rattle.bats_model.specs.declared.packet.Packet.{Packet}
use Rattle.bats_model.specs.Kept.{IsCombination, packet_row}
use Rattle.bats_batch.specs.Basis.{IsSized}
use Rattle.bats_batch.specs.steps.IsBasis.{AreReduced}
use Rattle.bats_batch.specs.steps.Reduction.{Reduces}
use Rattle.bats_batch.proofs.KeptRows.{length-packet_row, take-packet_row, AreRows-packets, take-packet_rows}

-- ---- sums that undo one another

pub row_sum-undone : (v w : List ℕ) → length w ≡ length v → row_sum (row_sum w v) v ≡ w
row_sum-undone v w e =
    row_sum_assoc w v v (λ i. length v) ∙ (ap (row_sum w) (row_sum_self v) ∙ row_sum-replicate_zero w (length v))

pub row_sum-added : (v w : List ℕ) → length w ≡ length v → row_sum w (row_sum w v) ≡ v
row_sum-added v w e =
    sym (row_sum_assoc w w v e) ∙
    (ap (λ s. row_sum s v) (row_sum_self w) ∙ (ap (λ n. row_sum (replicate n 0) v) e ∙ replicate_zero-row_sum v))

-- a row whose bytes are all 0
pub zeros-from : (row : List ℕ) → All (λ byte. byte ≡ 0) row → row ≡ replicate (length row) 0
zeros-from row zeros =
    ext_get_or 0 row (replicate (length row) 0) (sym (length-replicate (length row) 0))
    (λ i h. zeros i 0 h ∙ sym (get_or-replicate (length row) i 0 0 h))

module _ (m t : ℕ) (kept : List Packet) (pivots : List ℕ) (rows : List (List ℕ)) (basis : AreReduced m t kept pivots rows)
    (packet : Packet) (size : IsSized m t packet) (reduced : List ℕ)
    (reduces : Reduces (m + t) rows pivots (packet_row packet) reduced) where
  abbrev row : List ℕ
  row = packet_row packet

  same-length : length reduced ≡ length row
  same-length = reduces.size ∙ sym (length-packet_row m t packet size)

  are-packets : AreRows (m + t) (map packet_row kept)
  are-packets = AreRows-packets m t kept basis.sizes

  -- what was added is in the span of the kept packets
  added : IsInSpan (m + t) (map packet_row kept) (row_sum reduced row)
  added = IsInSpan-trans (m + t) (map packet_row kept) rows (row_sum reduced row) are-packets basis.rows_in reduces.added

  coefs-row : take m row ≡ packet.coefs
  coefs-row = take-packet_row m t packet size

  combination : take m reduced ≡ replicate m 0 → IsInSpan m (map (λ p. p.coefs) kept) packet.coefs
  combination zeros =
      subst (λ rs. IsInSpan m rs packet.coefs) (take-packet_rows m t kept basis.sizes)
      (subst (IsInSpan m (map (take m) (map packet_row kept))) front
      (take-IsInSpan (m + t) m (map packet_row kept) (row_sum reduced row) (omega arith) added))
    where
      front : take m (row_sum reduced row) ≡ packet.coefs
      front =
          take-row_sum m reduced row ∙
          (ap (λ w. row_sum w (take m row)) zeros ∙
          (ap (row_sum (replicate m 0)) coefs-row ∙
          (ap (λ n. row_sum (replicate n 0) packet.coefs) (sym size.coefs) ∙ replicate_zero-row_sum packet.coefs)))

  -- ---- the coefficients alone

  fronts : List (List ℕ)
  fronts = map (take m) rows

  are-fronts : AreRows m fronts
  unfolding fronts
  are-fronts = record {
    widths = All-map (λ r. length r ≡ m) (take m) rows
        (All-weaker (λ r. length r ≡ m + t) (λ r. length (take m r) ≡ m) (λ r e. length-take-le m r (omega (arith, e))) rows basis.are.widths);
    bytes = All-map AreBytes (take m) rows (All-weaker AreBytes (λ r. AreBytes (take m r)) (λ r. All-take (λ byte. byte < 256) m r) rows basis.are.bytes);
  }

  front-at : (i p : ℕ) → i < length rows → p < m → get_or (get_or fronts i []) p 0 ≡ get_or (get_or rows i []) p 0
  unfolding fronts
  front-at i p h below =
      ap (λ (r : List ℕ). get_or r p 0) (get_or-map (take m) rows i [] [] h) ∙ get_or-take m (get_or rows i []) p 0 below

  length-fronts : length fronts ≡ length rows
  unfolding fronts
  length-fronts = length-map rows (take m)

  triangular-fronts : AreTriangular pivots fronts
  triangular-fronts = record {
    sizes = basis.triangular.sizes ∙ sym length-fronts;
    ones = λ i h.
        let inside : i < length rows = omega (arith, h, length-fronts) in
        front-at i (get_or pivots i 0) inside (basis.below i 0 (omega (arith, inside, basis.triangular.sizes))) ∙ basis.triangular.ones i inside;
    later = λ i j h k.
        let inside : j < length rows = omega (arith, k, length-fronts) in
        front-at j (get_or pivots i 0) inside (basis.below i 0 (omega (arith, h, inside, basis.triangular.sizes))) ∙ basis.triangular.later i j h inside;
  }

  cleared-front : IsZeroAt pivots (take m reduced)
  cleared-front k d h =
      get_or-take m reduced (get_or pivots k d) 0 (basis.below k d h) ∙ reduces.cleared k d h

  -- a vector that is a combination leaves no coefficient
  no-coefficient : IsInSpan m (map (λ p. p.coefs) kept) packet.coefs → take m reduced ≡ replicate m 0
  unfolding fronts
  no-coefficient is =
      zeros-triangular m pivots fronts (take m reduced) are-fronts triangular-fronts
      (subst (IsInSpan m fronts) front (IsInSpan-row_sum m fronts (take m (row_sum reduced row)) packet.coefs are-fronts of_added of_vector))
      cleared-front
    where
      of_added : IsInSpan m (map (take m) rows) (take m (row_sum reduced row))
      of_added = take-IsInSpan (m + t) m rows (row_sum reduced row) (omega arith) reduces.added

      in_fronts : All (IsInSpan m (map (take m) rows)) (map (take m) (map packet_row kept))
      in_fronts =
          All-map (IsInSpan m (map (take m) rows)) (take m) (map packet_row kept)
          (All-weaker (IsInSpan (m + t) rows) (λ r. IsInSpan m (map (take m) rows) (take m r)) (λ r. take-IsInSpan (m + t) m rows r (omega arith)) (map packet_row kept) basis.packets_in)

      of_vector : IsInSpan m (map (take m) rows) packet.coefs
      of_vector =
          IsInSpan-trans m (map (take m) rows) (map (take m) (map packet_row kept)) packet.coefs are-fronts in_fronts
          (subst (λ rs. IsInSpan m rs packet.coefs) (sym (take-packet_rows m t kept basis.sizes)) is)

      front : row_sum (take m (row_sum reduced row)) packet.coefs ≡ take m reduced
      front =
          ap (λ w. row_sum w packet.coefs) (take-row_sum m reduced row ∙ ap (row_sum (take m reduced)) coefs-row) ∙
          row_sum-undone packet.coefs (take m reduced) (length-take-le m reduced (omega (arith, reduces.size)) ∙ sym size.coefs)

  -- some coefficient is left: the packet is new
  judged-new : (place : ℕ) → place < m → get_or reduced place 0 ≢ 0 → ¬ IsCombination (map (λ p. p.coefs) kept) packet.coefs
  judged-new place low stands is =
      stands
      (sym (get_or-take m reduced place 0 low) ∙
      (ap (λ (r : List ℕ). get_or r place 0) (no-coefficient (subst (λ n. IsInSpan n (map (λ p. p.coefs) kept) packet.coefs) size.coefs is)) ∙
      get_or-replicate m place 0 0 low))

-- no coefficient is left: the vector is a combination
pub combination-left : (m t : ℕ) (packets : List Packet) (pivots : List ℕ) (rows : List (List ℕ)) → AreReduced m t packets pivots rows → (packet : Packet) → IsSized m t packet
    → (reduced : List ℕ) → Reduces (m + t) rows pivots (packet_row packet) reduced → take m reduced ≡ replicate m 0 → IsInSpan m (map (λ p. p.coefs) packets) packet.coefs
combination-left m t packets pivots rows basis packet size reduced reduces = combination m t packets pivots rows basis packet size reduced reduces

-- some coefficient is left: the packet is new
pub IsTaken-new : (m t : ℕ) (kept : List Packet) (pivots : List ℕ) (rows : List (List ℕ)) → AreReduced m t kept pivots rows → (packet : Packet) → IsSized m t packet
    → (reduced : List ℕ) → Reduces (m + t) rows pivots (packet_row packet) reduced → (place : ℕ) → place < m → get_or reduced place 0 ≢ 0
    → ¬ IsCombination (map (λ p. p.coefs) kept) packet.coefs
IsTaken-new m t kept pivots rows basis packet size reduced reduces = judged-new m t kept pivots rows basis packet size reduced reduces
