-- The factors that are left of a packet with no coefficient left: they alone give its vector from the kept vectors, so
-- the packet follows where they give its payload.
use Rattle.std.proofs.Common.{ℕ, ◌≡◌, ◌<◌, ◌≤◌, ◌+◌, ◌∙◌, List, ◌++◌, length, get_or, take, drop, map, replicate, sym, ap, subst, arith}
use Rattle.std.proofs.lemmas.List.{length-map, length-drop, take_at, drop_at, get_or-take, get_or-drop, get_or-replicate, get_or_append_left}
use Rattle.gf_core.specs.Field.{gf_add}
use Rattle.gf_core.specs.Rows.{row_sum}
use Rattle.gf_core.specs.Combinations.{combination, IsInSpan}
use Rattle.gf_core.specs.Triangular.{IsZeroAt}
use Rattle.gf_core.proofs.AddLemmas.{gf_add-zero, zero-gf_add, gf_add_self, gf_add-eq-zero}
use Rattle.gf_core.proofs.RowLemmas.{length-row_sum, get_or-row_sum}
use Rattle.gf_core.proofs.CombinationLemmas.{length-combination, take-combination, IsInSpan-row_sum, IsInSpan-combination, zeros-triangular}
use Rattle.bats_model.specs.Coded.{unit_vector}
use Rattle.bats_model.specs.declared.packet.Packet.{Packet}
use Rattle.bats_model.specs.Kept.{Follows, Contradicts, coefs_of, packet_row}
use Rattle.bats_model.specs.Relay.{payloads_of}
use Rattle.bats_batch.specs.Basis.{IsSized}
use Rattle.bats_batch.specs.steps.IsBasis.{IsBasis}
use Rattle.bats_batch.specs.steps.Marked.{marked, marked_from}
use Rattle.bats_batch.specs.steps.Reduction.{Reduces}
use Rattle.bats_batch.proofs.KeptRows.{length-packet_row, take-packet_rows, combination-packets, combination-agree}
use Rattle.bats_batch.proofs.MarkedPackets.{IsSized-marked, coefs-marked, factor-of, factor-of_combination, unit-zero}
use Rattle.bats_batch.proofs.Judging.{combination-left}

module _ (m t : ℕ) (kept : List Packet) (pivots : List ℕ) (rows : List (List ℕ)) (basis : IsBasis m t kept pivots rows) (few : length kept ≤ m)
    (packet : Packet) (size : IsSized m t packet) (reduced : List ℕ)
    (reduces : Reduces (m + m) rows pivots (packet_row (marked m (length kept) packet)) reduced) (zeros : take m reduced ≡ replicate m 0) where
  abbrev row : List ℕ
  row = packet_row (marked m (length kept) packet)

  abbrev marks : List (List ℕ)
  marks = map packet_row (marked_from m 0 kept)

  sized-mark : IsSized m m (marked m (length kept) packet)
  sized-mark = IsSized-marked m t (length kept) packet size

  -- the combination of the kept vectors that elimination finds
  found : IsInSpan m (coefs_of kept) packet.coefs
  found =
      subst (λ (vectors : List (List ℕ)). IsInSpan m vectors packet.coefs) (coefs-marked m 0 kept)
      (combination-left m m (marked_from m 0 kept) pivots rows basis.reduced (marked m (length kept) packet) sized-mark reduced reduces zeros)

  -- ---- any combination that gives the vector has the factors that are left

  module _ (other : IsInSpan m (coefs_of kept) packet.coefs) where
    abbrev mixed : List ℕ
    mixed = combination (m + m) other.factors marks

    abbrev all : List ℕ
    all = row_sum (row_sum reduced row) mixed

    all-in : IsInSpan (m + m) rows all
    all-in =
        IsInSpan-row_sum (m + m) rows (row_sum reduced row) mixed basis.reduced.are reduces.added
        (IsInSpan-combination (m + m) rows other.factors marks basis.reduced.are basis.reduced.packets_in)

    entry : (k : ℕ) → k < m + m → get_or all k 0 ≡ gf_add (gf_add (get_or reduced k 0) (get_or row k 0)) (get_or mixed k 0)
    entry k h =
        get_or-row_sum (row_sum reduced row) mixed k (omega (arith, h, length-row_sum reduced row, reduces.size))
        ∙ ap (λ (x : ℕ). gf_add x (get_or mixed k 0)) (get_or-row_sum reduced row k (omega (arith, h, reduces.size)))

    front-mixed : take m mixed ≡ packet.coefs
    front-mixed =
        take-combination (m + m) m other.factors marks (omega arith)
        ∙ ap (combination m other.factors) (take-packet_rows m m (marked_from m 0 kept) basis.reduced.sizes ∙ coefs-marked m 0 kept)
        ∙ other.sums

    low-entry : (k : ℕ) → k < m → get_or all k 0 ≡ 0
    low-entry k h =
        entry k (omega (arith, h))
        ∙ ap (λ (x : ℕ). gf_add (gf_add x (get_or row k 0)) (get_or mixed k 0)) nothing
        ∙ ap (λ (x : ℕ). gf_add x (get_or mixed k 0)) (zero-gf_add (get_or row k 0))
        ∙ ap (λ (x : ℕ). gf_add x (get_or mixed k 0)) own
        ∙ ap (gf_add (get_or packet.coefs k 0)) same
        ∙ gf_add_self (get_or packet.coefs k 0)
      where
        nothing : get_or reduced k 0 ≡ 0
        nothing = sym (get_or-take m reduced k 0 h) ∙ ap (λ (r : List ℕ). get_or r k 0) zeros ∙ get_or-replicate m k 0 0 h

        own : get_or row k 0 ≡ get_or packet.coefs k 0
        own = get_or_append_left packet.coefs (unit_vector m (length kept)) 0 k (omega (arith, h, size.coefs))

        same : get_or mixed k 0 ≡ get_or packet.coefs k 0
        same = sym (get_or-take m mixed k 0 h) ∙ ap (λ (r : List ℕ). get_or r k 0) front-mixed

    cleared : IsZeroAt pivots all
    cleared k d h = low-entry (get_or pivots k d) (basis.reduced.below k d h)

    all-zeros : all ≡ replicate (m + m) 0
    all-zeros = zeros-triangular (m + m) pivots rows all basis.reduced.are basis.reduced.triangular all-in cleared

    factor-left : (i : ℕ) → i < length kept → get_or reduced (m + i) 0 ≡ get_or other.factors i 0
    factor-left i h =
        gf_add-eq-zero (get_or reduced (m + i) 0) (get_or other.factors i 0)
        (sym (ap (λ (x : ℕ). gf_add x (get_or other.factors i 0)) (gf_add-zero (get_or reduced (m + i) 0)))
        ∙ sym (ap (λ (x : ℕ). gf_add (gf_add (get_or reduced (m + i) 0) x) (get_or other.factors i 0)) own)
        ∙ sym (ap (gf_add (gf_add (get_or reduced (m + i) 0) (get_or row (m + i) 0))) theirs)
        ∙ sym (entry (m + i) (omega (arith, h, few)))
        ∙ ap (λ (r : List ℕ). get_or r (m + i) 0) all-zeros
        ∙ get_or-replicate (m + m) (m + i) 0 0 (omega (arith, h, few)))
      where
        own : get_or row (m + i) 0 ≡ 0
        own =
            factor-of m (length kept) i packet size.coefs
            ∙ unit-zero m (length kept) i (omega (arith, h, few)) (λ same. omega (arith, same, h))

        long : length other.factors ≡ length kept
        long = other.size ∙ length-map kept (λ p. p.coefs)

        theirs : get_or mixed (m + i) 0 ≡ get_or other.factors i 0
        theirs = factor-of_combination m t other.factors kept i basis.sizes other.bytes long h few

    -- so these give the same payload
    payload-left : combination t (drop m reduced) (payloads_of kept) ≡ combination t other.factors (payloads_of kept)
    payload-left =
        combination-agree t (drop m reduced) other.factors (payloads_of kept)
        (omega (arith, rows-kept, few, length-drop m reduced, reduces.size))
        (omega (arith, rows-kept, other.size, length-map kept (λ p. p.coefs)))
        (λ i h. get_or-drop m reduced i 0 ∙ factor-left i (omega (arith, rows-kept, h)))
      where
        rows-kept : length (payloads_of kept) ≡ length kept
        rows-kept = length-map kept (λ p. p.payload)

  -- ---- whether the packet follows

  at-length : (factors : List ℕ) → combination (length (packet_row packet)) factors (map packet_row kept) ≡ combination m factors (coefs_of kept) ++ combination t factors (payloads_of kept)
  at-length factors =
      ap (λ (n : ℕ). combination n factors (map packet_row kept)) (length-packet_row m t packet size)
      ∙ combination-packets m t factors kept basis.sizes

  follows-by : combination t (drop m reduced) (payloads_of kept) ≡ packet.payload → Follows kept packet
  follows-by same = record {
    factors = found.factors;
    bytes = found.bytes;
    size = found.size ∙ length-map kept (λ p. p.coefs) ∙ sym (length-map kept packet_row);
    sums =
        at-length found.factors
        ∙ ap (λ (front : List ℕ). front ++ combination t found.factors (payloads_of kept)) found.sums
        ∙ ap (λ (back : List ℕ). packet.coefs ++ back) (sym (payload-left found) ∙ same);
  }

  contradicts-by : ¬ (combination t (drop m reduced) (payloads_of kept) ≡ packet.payload) → Contradicts kept packet
  contradicts-by apart = record {
    combination = subst (λ (n : ℕ). IsInSpan n (coefs_of kept) packet.coefs) (sym size.coefs) found;
    differs = λ is. apart (payload-left (front is) ∙ back is);
  }
    where
      both : (is : Follows kept packet) → combination m is.factors (coefs_of kept) ++ combination t is.factors (payloads_of kept) ≡ packet.coefs ++ packet.payload
      both is = sym (at-length is.factors) ∙ is.sums

      front : Follows kept packet → IsInSpan m (coefs_of kept) packet.coefs
      front is = record {
        factors = is.factors;
        bytes = is.bytes;
        size = is.size ∙ length-map kept packet_row ∙ sym (length-map kept (λ p. p.coefs));
        sums =
            sym (take_at (combination m is.factors (coefs_of kept)) (combination t is.factors (payloads_of kept)) m (length-combination m is.factors (coefs_of kept)))
            ∙ ap (take m) (both is) ∙ take_at packet.coefs packet.payload m size.coefs;
      }

      back : (is : Follows kept packet) → combination t is.factors (payloads_of kept) ≡ packet.payload
      back is =
          sym (drop_at (combination m is.factors (coefs_of kept)) (combination t is.factors (payloads_of kept)) m (length-combination m is.factors (coefs_of kept)))
          ∙ ap (drop m) (both is) ∙ drop_at packet.coefs packet.payload m size.coefs

pub Follows-factors : (m t : ℕ) (kept : List Packet) (pivots : List ℕ) (rows : List (List ℕ)) → IsBasis m t kept pivots rows → length kept ≤ m
    → (packet : Packet) → IsSized m t packet → (reduced : List ℕ) → Reduces (m + m) rows pivots (packet_row (marked m (length kept) packet)) reduced
    → take m reduced ≡ replicate m 0 → combination t (drop m reduced) (payloads_of kept) ≡ packet.payload → Follows kept packet
Follows-factors = follows-by

pub Contradicts-factors : (m t : ℕ) (kept : List Packet) (pivots : List ℕ) (rows : List (List ℕ)) → IsBasis m t kept pivots rows → length kept ≤ m
    → (packet : Packet) → IsSized m t packet → (reduced : List ℕ) → Reduces (m + m) rows pivots (packet_row (marked m (length kept) packet)) reduced
    → take m reduced ≡ replicate m 0 → ¬ (combination t (drop m reduced) (payloads_of kept) ≡ packet.payload) → Contradicts kept packet
Contradicts-factors = contradicts-by
