-- A basis with one packet more, and how many packets it has at most.
use Rattle.std.proofs.Common.{ℕ, ◌≡◌, ◌≢◌, ◌<◌, ◌≤◌, ◌+◌, ◌∙◌, true, List, [], ◌∷◌, ◌++◌, length, get_or, map, sym, ap, subst, arith, eqb, inl, inr}
use Rattle.std.specs.Prelude.{All, AllPairs}
use Rattle.std.specs.List.{list_any}
use Rattle.std.proofs.lemmas.Bool.{or_cases, eqb-true, false≢true}
use Rattle.std.proofs.lemmas.Bool.Decides.{Decides-eqb}
use Rattle.std.proofs.lemmas.List.{map_push, length_push, get_or_default}
use Rattle.std.proofs.lemmas.List.Quantifiers.{all_pairs_push}
use Rattle.std.proofs.lemmas.List.Elements.{All-head, All-tail, All-push, All-weaker}
use Rattle.std.proofs.lemmas.Map.Made.{IsDistinct-from_AllPairs}
use Rattle.std.proofs.lemmas.Map.Steps.{length-le_from_distinct_below}
use Rattle.gf_core.specs.Bytes.{AreBytes}
use Rattle.gf_core.specs.Field.{gf_mul}
use Rattle.gf_core.specs.Rows.{row_sum}
use Rattle.gf_core.specs.Combinations.{IsInSpan}
use Rattle.gf_core.specs.Triangular.{AreRows, IsZeroAt, AreTriangular}
use Rattle.gf_core.proofs.ProductLemmas.{gf_mul-zero}
use Rattle.gf_core.proofs.RowLemmas.{length-scaled_row, get_or-scaled_row, scaled_row-lt}
use Rattle.gf_core.proofs.LinearRows.{AreRows-push}
use Rattle.gf_core.proofs.CombinationLemmas.{IsInSpan-row_sum, IsInSpan-scaled, IsInSpan-push, IsInSpan-last, IsInSpan-trans, AreTriangular-push}
use Rattle.bats_model.specs.declared.packet.Packet.{Packet}
use Rattle.bats_model.specs.Kept.{packet_row}
use Rattle.bats_batch.specs.Basis.{IsSized}
use Rattle.bats_batch.specs.steps.IsBasis.{AreReduced, IsBasis}
use Rattle.bats_batch.specs.steps.Marked.{marked, marked_from}
use Rattle.bats_batch.specs.steps.Reduction.{Reduces, IsNormalized}
use Rattle.bats_batch.proofs.KeptRows.{length-packet_row, packet_row-lt, AreRows-packets}
use Rattle.bats_batch.proofs.MarkedPackets.{IsSized-marked, marked-push_all}
use Rattle.bats_batch.proofs.Judging.{row_sum-undone, row_sum-added}

module _ (m t : ℕ) (kept : List Packet) (pivots : List ℕ) (rows : List (List ℕ)) (basis : AreReduced m t kept pivots rows)
    (packet : Packet) (size : IsSized m t packet) (reduced : List ℕ) (reduces : Reduces (m + t) rows pivots (packet_row packet) reduced)
    (pivot : ℕ) (low : pivot < m) (new : List ℕ) (normalized : IsNormalized pivot reduced new) where
  abbrev row : List ℕ
  row = packet_row packet

  abbrev packets : List (List ℕ)
  packets = map packet_row kept

  long : length row ≡ m + t
  long = length-packet_row m t packet size

  same-length : length reduced ≡ length row
  same-length = reduces.size ∙ sym long

  long-new : length new ≡ m + t
  long-new = ap (λ (r : List ℕ). length r) normalized.multiple ∙ length-scaled_row normalized.factor reduced ∙ reduces.size

  bytes-new : AreBytes new
  bytes-new = subst AreBytes (sym normalized.multiple) (scaled_row-lt normalized.factor reduced reduces.bytes)

  are-packets : AreRows (m + t) packets
  are-packets = AreRows-packets m t kept basis.sizes

  are-packets-more : AreRows (m + t) (packets ++ row ∷ [])
  are-packets-more = AreRows-push (m + t) packets row are-packets long (packet_row-lt m t packet size)

  are-rows-more : AreRows (m + t) (rows ++ new ∷ [])
  are-rows-more = AreRows-push (m + t) rows new basis.are long-new bytes-new

  cleared : IsZeroAt pivots new
  cleared k d h =
      ap (λ (r : List ℕ). get_or r (get_or pivots k d) 0) normalized.multiple ∙
      (get_or-scaled_row normalized.factor reduced (get_or pivots k d) ∙
      (ap (gf_mul normalized.factor) (reduces.cleared k d h) ∙ gf_mul-zero normalized.factor))

  -- the old rows and the new one are in the span of the packets
  old-in : (r : List ℕ) → IsInSpan (m + t) packets r → IsInSpan (m + t) (packets ++ row ∷ []) r
  old-in r is = IsInSpan-push (m + t) packets row r are-packets long is

  new-in : IsInSpan (m + t) (packets ++ row ∷ []) new
  new-in =
      subst (IsInSpan (m + t) (packets ++ row ∷ [])) (sym normalized.multiple)
      (IsInSpan-scaled (m + t) (packets ++ row ∷ []) normalized.factor reduced are-packets-more
      (subst (IsInSpan (m + t) (packets ++ row ∷ [])) (row_sum-undone row reduced same-length)
      (IsInSpan-row_sum (m + t) (packets ++ row ∷ []) (row_sum reduced row) row are-packets-more
      (old-in (row_sum reduced row) (IsInSpan-trans (m + t) packets rows (row_sum reduced row) are-packets basis.rows_in reduces.added))
      (IsInSpan-last (m + t) packets row are-packets long))))

  -- and the packets in the span of these rows
  kept-in : (r : List ℕ) → IsInSpan (m + t) rows r → IsInSpan (m + t) (rows ++ new ∷ []) r
  kept-in r is = IsInSpan-push (m + t) rows new r basis.are long-new is

  packet-in : IsInSpan (m + t) (rows ++ new ∷ []) row
  packet-in =
      subst (IsInSpan (m + t) (rows ++ new ∷ [])) (row_sum-added row reduced same-length)
      (IsInSpan-row_sum (m + t) (rows ++ new ∷ []) reduced (row_sum reduced row) are-rows-more
      (subst (IsInSpan (m + t) (rows ++ new ∷ [])) (sym normalized.back)
      (IsInSpan-scaled (m + t) (rows ++ new ∷ []) (get_or reduced pivot 0) new are-rows-more (IsInSpan-last (m + t) rows new basis.are long-new)))
      (kept-in (row_sum reduced row) reduces.added))

  more : AreReduced m t (kept ++ packet ∷ []) (pivots ++ pivot ∷ []) (rows ++ new ∷ [])
  more = record {
    sizes = All-push (IsSized m t) kept packet basis.sizes size;
    are = are-rows-more;
    triangular = AreTriangular-push pivots rows pivot new basis.triangular normalized.one cleared;
    below = All-push (λ p. p < m) pivots pivot basis.below low;
    rows_in = subst (λ ps. All (IsInSpan (m + t) ps) (rows ++ new ∷ [])) (sym (map_push packet_row kept packet))
        (All-push (IsInSpan (m + t) (packets ++ row ∷ [])) rows new
        (All-weaker (IsInSpan (m + t) packets) (IsInSpan (m + t) (packets ++ row ∷ [])) old-in rows basis.rows_in) new-in);
    packets_in = subst (All (IsInSpan (m + t) (rows ++ new ∷ []))) (sym (map_push packet_row kept packet))
        (All-push (IsInSpan (m + t) (rows ++ new ∷ [])) packets row
        (All-weaker (IsInSpan (m + t) rows) (IsInSpan (m + t) (rows ++ new ∷ [])) kept-in packets basis.packets_in) packet-in);
  }

-- a packet more, with its reduced row made 1 at a coefficient that is left
pub AreReduced-more : (m t : ℕ) (kept : List Packet) (pivots : List ℕ) (rows : List (List ℕ)) → AreReduced m t kept pivots rows → (packet : Packet) → IsSized m t packet
    → (reduced : List ℕ) → Reduces (m + t) rows pivots (packet_row packet) reduced → (pivot : ℕ) → pivot < m → (new : List ℕ) → IsNormalized pivot reduced new
    → AreReduced m t (kept ++ packet ∷ []) (pivots ++ pivot ∷ []) (rows ++ new ∷ [])
AreReduced-more m t kept pivots rows basis packet size reduced reduces pivot low new normalized = more m t kept pivots rows basis packet size reduced reduces pivot low new normalized

-- the same of a basis
pub IsBasis-more : (m t : ℕ) (kept : List Packet) (pivots : List ℕ) (rows : List (List ℕ)) → IsBasis m t kept pivots rows → (packet : Packet) → IsSized m t packet
    → (reduced : List ℕ) → Reduces (m + m) rows pivots (packet_row (marked m (length kept) packet)) reduced → (pivot : ℕ) → pivot < m
    → (new : List ℕ) → IsNormalized pivot reduced new → IsBasis m t (kept ++ packet ∷ []) (pivots ++ pivot ∷ []) (rows ++ new ∷ [])
IsBasis-more m t kept pivots rows basis packet size reduced reduces pivot low new normalized = record {
  sizes = All-push (IsSized m t) kept packet basis.sizes size;
  reduced = subst (λ (ps : List Packet). AreReduced m m ps (pivots ++ pivot ∷ []) (rows ++ new ∷ [])) (sym (marked-push_all m kept packet))
      (AreReduced-more m m (marked_from m 0 kept) pivots rows basis.reduced (marked m (length kept) packet)
      (IsSized-marked m t (length kept) packet size) reduced reduces pivot low new normalized);
}

-- ---- how many there are

below-any : (q m : ℕ) (xs : List ℕ) → All (λ x. x < m) xs → list_any (eqb q) xs ≡ true → q < m
below-any q m [] all h = absurd (false≢true h)
below-any q m (x ∷ xs) all h = elim (or_cases (eqb q x) (list_any (eqb q) xs) h) [
  | inl same ↦ subst (λ n. n < m) (sym (eqb-true q x same)) (All-head (λ y. y < m) x xs all)
  | inr rest ↦ below-any q m xs (All-tail (λ y. y < m) x xs all) rest
]

pivots-apart : (pivots : List ℕ) (rows : List (List ℕ)) → AreTriangular pivots rows → AllPairs (λ p q. p ≢ q) pivots
pivots-apart pivots rows triangular i j d before within same =
    let inside : j < length rows = omega (arith, triangular.sizes) in
    let zero_there : get_or (get_or rows j []) (get_or pivots i 0) 0 ≡ 0 = triangular.later i j before inside in
    let equal : get_or pivots i 0 ≡ get_or pivots j 0 =
    get_or_default pivots i 0 d (omega arith) ∙ same ∙ get_or_default pivots j d 0 within in
    let one : 0 ≡ 1 = sym zero_there ∙ ap (λ (p : ℕ). get_or (get_or rows j []) p 0) equal ∙ triangular.ones j inside in
    omega (arith, one)

-- a basis has no more packets than a packet has coefficients
pub AreReduced-count : (m t : ℕ) (kept : List Packet) (pivots : List ℕ) (rows : List (List ℕ)) → AreReduced m t kept pivots rows → length rows ≤ m
AreReduced-count m t kept pivots rows basis =
    subst (λ n. n ≤ m) basis.triangular.sizes
    (length-le_from_distinct_below pivots m (IsDistinct-from_AllPairs Decides-eqb pivots (pivots-apart pivots rows basis.triangular)) (λ q h. below-any q m pivots basis.below h))

-- where a coefficient is left that isn't 0, there is room for one packet more
pub AreReduced-room : (m t : ℕ) (kept : List Packet) (pivots : List ℕ) (rows : List (List ℕ)) → AreReduced m t kept pivots rows → (reduced old : List ℕ) → Reduces (m + t) rows pivots old reduced
    → (place : ℕ) → place < m → get_or reduced place 0 ≢ 0 → length rows + 1 ≤ m
AreReduced-room m t kept pivots rows basis reduced old reduces place low stands =
    let apart : AllPairs (λ p q. p ≢ q) (pivots ++ place ∷ []) =
    all_pairs_push (λ p q. p ≢ q) pivots place (pivots-apart pivots rows basis.triangular)
    (λ k d h same. stands (ap (λ (p : ℕ). get_or reduced p 0) (sym same) ∙ reduces.cleared k d h)) in
    let below : All (λ p. p < m) (pivots ++ place ∷ []) = All-push (λ p. p < m) pivots place basis.below low in
    let few : length (pivots ++ place ∷ []) ≤ m =
    length-le_from_distinct_below (pivots ++ place ∷ []) m (IsDistinct-from_AllPairs Decides-eqb (pivots ++ place ∷ []) apart) (λ q h. below-any q m (pivots ++ place ∷ []) below h) in
    omega (arith, few, length_push pivots place, basis.triangular.sizes)
