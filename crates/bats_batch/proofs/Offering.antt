-- An offered packet, from its reduced row to what becomes of it and to the basis after it.
use Rattle.std.proofs.Common.{ℕ, ◌≡◌, ◌≢◌, ◌<◌, ◌≤◌, ◌+◌, ◌∙◌, List, [], ◌∷◌, ◌++◌, length, get_or, take, drop, replicate, min, sym, ap, subst, arith}
use Rattle.std.specs.Prelude.{All}
use Rattle.std.proofs.lemmas.List.{length-map, map_push, length-take-le, get_or-take}
use Rattle.gf_core.specs.Combinations.{combination}
use Rattle.gf_rows.specs.Spends.{Spends}
use Rattle.gf_rows.proofs.SpendsLemmas.{Spends-weaken}
use Rattle.bats_model.specs.declared.packet.Packet.{Packet}
use Rattle.bats_model.specs.Kept.{IsCombination, Follows, Contradicts, packet_row}
use Rattle.bats_model.specs.Relay.{payloads_of}
use Rattle.bats_model.specs.declared.taken.Taken.{Taken}
use Rattle.bats_batch.specs.declared.entry.Entry.{Entry}
use Rattle.bats_batch.specs.Basis.{BasisData, IsSized, IsTaken, kept_with, StandsForBatch}
use Rattle.bats_batch.specs.steps.IsBasis.{IsBasis}
use Rattle.bats_batch.specs.steps.Marked.{marked, marked_from}
use Rattle.bats_batch.specs.steps.Reduction.{Reduces, IsLeading}
use Rattle.bats_batch.specs.steps.Entries.{offered_packets, pivots_of, rows_of, Keeps}
use Rattle.bats_batch.specs.steps.Verdicts.{IsNewWith}
use Rattle.bats_batch.proofs.MarkedPackets.{IsSized-marked, coefs-marked}
use Rattle.bats_batch.proofs.Judging.{IsTaken-new, zeros-from}
use Rattle.bats_batch.proofs.Factors.{Follows-factors, Contradicts-factors}
use Rattle.bats_batch.proofs.KeptOfBatches.{StandsForBatch-taken}
use Rattle.bats_batch.proofs.Growing.{IsBasis-more, AreReduced-count, AreReduced-room}

-- the entries are those of a basis
abbrev pub AreEntries : ℕ → ℕ → List Entry → Type 0
AreEntries m t entries = IsBasis m t (offered_packets entries) (pivots_of entries) (rows_of entries)

-- the basis as its callers see it
abbrev pub basis_of : ℕ → ℕ → List Entry → BasisData
basis_of m t entries = record { m = m; t = t; kept = offered_packets entries }

-- the entries are no more than the coefficients
pub AreEntries-count : (m t : ℕ) (entries : List Entry) → AreEntries m t entries → length entries ≤ m
AreEntries-count m t entries basis =
    subst (λ n. n ≤ m) (length-map entries (λ e. e.row.items))
    (AreReduced-count m m (marked_from m 0 (offered_packets entries)) (pivots_of entries) (rows_of entries) basis.reduced)

-- a counter that rose by at most one step an entry, or by so many steps more where there is room for them
pub counted : (m t : ℕ) (entries lent : List Entry) (seen : BasisData) (more old new : ℕ) → AreEntries m t entries
    → basis_of m t entries ≡ seen → lent ≡ entries → length lent + more ≤ seen.m
    → old ≤ new → new ≤ old + length lent + more → Spends old new (min seen.m (length seen.kept + more))
counted m t entries lent seen more old new basis view same room rises h =
    let kept : length (offered_packets entries) ≡ length seen.kept = ap (λ (d : BasisData). length d.kept) view in
    let packets : length (offered_packets entries) ≡ length entries = length-map entries (λ e. e.packet) in
    let long : length lent ≡ length entries = ap (λ (es : List Entry). length es) same in
    record { rises = rises; within = omega (arith, room, kept, packets, long, h) }

pub counted-judged : (m t : ℕ) (entries lent : List Entry) (seen : BasisData) (old new : ℕ) → AreEntries m t entries
    → basis_of m t entries ≡ seen → lent ≡ entries
    → old ≤ new → new ≤ old + length lent → Spends old new (min seen.m (length seen.kept))
counted-judged m t entries lent seen old new basis view same rises h =
    let few = AreEntries-count m t entries basis in
    let size : m ≡ seen.m = ap (λ (d : BasisData). d.m) view in
    let long : length lent ≡ length entries = ap (λ (es : List Entry). length es) same in
    let none : Spends old new (min seen.m (length seen.kept + 0)) =
    counted m t entries lent seen 0 old new basis view same (omega (arith, few, size, long)) rises (omega (arith, h)) in
    Spends-weaken (min seen.m (length seen.kept)) none (omega arith)

pub counted-offered : (m t : ℕ) (entries lent : List Entry) (seen : BasisData) (old new : ℕ) → AreEntries m t entries
    → basis_of m t entries ≡ seen → lent ≡ entries
    → old ≤ new → new ≤ old + length lent → Spends old new (min seen.m (length seen.kept + 1))
counted-offered m t entries lent seen old new basis view same rises h =
    Spends-weaken (min seen.m (length seen.kept + 1)) (counted-judged m t entries lent seen old new basis view same rises h)
    (omega arith)

-- ---- what is left of a packet

-- the packet's row was reduced by the entries of a basis
pub record IsLeft (m t : ℕ) (entries : List Entry) (packet : Packet) (reduced : List ℕ) : Type 0 where
  pub basis : AreEntries m t entries
  pub size : IsSized m t packet
  pub reduces : Reduces (m + m) (rows_of entries) (pivots_of entries) (packet_row (marked m (length entries) packet)) reduced

module _ (m t : ℕ) (entries : List Entry) (packet : Packet) (reduced : List ℕ) (is : IsLeft m t entries packet reduced) where
  abbrev kept : List Packet
  kept = offered_packets entries

  as-many : length entries ≡ length kept
  as-many = sym (length-map entries (λ e. e.packet))

  reduces-kept : Reduces (m + m) (rows_of entries) (pivots_of entries) (packet_row (marked m (length kept) packet)) reduced
  reduces-kept = subst (λ n. Reduces (m + m) (rows_of entries) (pivots_of entries) (packet_row (marked m n packet)) reduced) as-many is.reduces

  few : length kept ≤ m
  few = subst (λ n. n ≤ m) as-many (AreEntries-count m t entries is.basis)

  front-length : length (take m reduced) ≡ m
  front-length = length-take-le m reduced (omega (arith, is.reduces.size))

  no-coefficient : All (λ byte. byte ≡ 0) (take m reduced) → take m reduced ≡ replicate m 0
  no-coefficient zeros = zeros-from (take m reduced) zeros ∙ ap (λ n. replicate n 0) front-length

  new-at : (place : ℕ) → IsLeading (take m reduced) place → IsNewWith m entries packet reduced place
  new-at place leads =
      let low : place < m = subst (λ n. place < n) front-length leads.within in
      let stands : get_or reduced place 0 ≢ 0 = λ e. leads.stands (get_or-take m reduced place 0 low ∙ e) in
      record {
        new =
            subst (λ vectors. ¬ IsCombination vectors packet.coefs) (coefs-marked m 0 kept)
            (IsTaken-new m m (marked_from m 0 kept) (pivots_of entries) (rows_of entries) is.basis.reduced (marked m (length kept) packet)
            (IsSized-marked m t (length kept) packet is.size) reduced reduces-kept place low stands);
        low = low;
        stands = stands;
        reduces = is.reduces;
      }

  follows : All (λ byte. byte ≡ 0) (take m reduced) → combination t (drop m reduced) (payloads_of kept) ≡ packet.payload → Follows kept packet
  follows zeros same =
      Follows-factors m t kept (pivots_of entries) (rows_of entries) is.basis few packet is.size reduced reduces-kept (no-coefficient zeros) same

  contradicts : All (λ byte. byte ≡ 0) (take m reduced) → ¬ (combination t (drop m reduced) (payloads_of kept) ≡ packet.payload) → Contradicts kept packet
  contradicts zeros apart =
      Contradicts-factors m t kept (pivots_of entries) (rows_of entries) is.basis few packet is.size reduced reduces-kept (no-coefficient zeros) apart

pub left-new : (m t : ℕ) (entries : List Entry) (packet : Packet) (reduced : List ℕ) → IsLeft m t entries packet reduced
    → (place : ℕ) → IsLeading (take m reduced) place → IsNewWith m entries packet reduced place
left-new = new-at

pub left-follows : (m t : ℕ) (entries : List Entry) (packet : Packet) (reduced : List ℕ) → IsLeft m t entries packet reduced
    → All (λ byte. byte ≡ 0) (take m reduced) → combination t (drop m reduced) (payloads_of (offered_packets entries)) ≡ packet.payload → Follows (offered_packets entries) packet
left-follows = follows

pub left-contradicts : (m t : ℕ) (entries : List Entry) (packet : Packet) (reduced : List ℕ) → IsLeft m t entries packet reduced
    → All (λ byte. byte ≡ 0) (take m reduced) → ¬ (combination t (drop m reduced) (payloads_of (offered_packets entries)) ≡ packet.payload)
    → Contradicts (offered_packets entries) packet
left-contradicts = contradicts

-- ---- a new packet

-- there is room for one more
pub new-room : (m t : ℕ) (entries lent : List Entry) (seen : BasisData) (packet : Packet) (row : List ℕ) (pivot : ℕ) → AreEntries m t entries → basis_of m t entries ≡ seen
    → lent ≡ entries → IsNewWith m lent packet row pivot → length lent + 1 ≤ seen.m
new-room m t entries lent seen packet row pivot basis view same is =
    let here : IsNewWith m entries packet row pivot = subst (λ (es : List Entry). IsNewWith m es packet row pivot) same is in
    let free =
    AreReduced-room m m (marked_from m 0 (offered_packets entries)) (pivots_of entries) (rows_of entries) basis.reduced row
    (packet_row (marked m (length entries) packet)) here.reduces pivot here.low here.stands in
    let long : length lent ≡ length entries = ap (λ (es : List Entry). length es) same in
    let size : m ≡ seen.m = ap (λ (d : BasisData). d.m) view in
    omega (arith, free, length-map entries (λ e. e.row.items), long, size)

-- the entries after it
pub entries-more : (m t : ℕ) (entries lent : List Entry) (packet : Packet) (row : List ℕ) (pivot : ℕ) → AreEntries m t entries → lent ≡ entries
    → IsSized m t packet → IsNewWith m lent packet row pivot → (after : List Entry) → Keeps entries after packet pivot row → AreEntries m t after
entries-more m t entries lent packet row pivot basis same size is after keeps =
    subst (AreEntries m t) (sym keeps.gained)
    (subst (λ ps. IsBasis m t ps (pivots_of (entries ++ keeps.entry ∷ [])) (rows_of (entries ++ keeps.entry ∷ []))) (sym packets)
    (subst (λ ps. IsBasis m t (offered_packets entries ++ packet ∷ []) ps (rows_of (entries ++ keeps.entry ∷ []))) (sym pivots)
    (subst (IsBasis m t (offered_packets entries ++ packet ∷ []) (pivots_of entries ++ pivot ∷ [])) (sym (map_push (λ e. e.row.items) entries keeps.entry))
    (IsBasis-more m t (offered_packets entries) (pivots_of entries) (rows_of entries) basis packet size row reduces-kept pivot is.low keeps.entry.row.items keeps.normalized))))
  where
    reduces-entries : Reduces (m + m) (rows_of entries) (pivots_of entries) (packet_row (marked m (length entries) packet)) row
    reduces-entries = subst (λ (es : List Entry). Reduces (m + m) (rows_of es) (pivots_of es) (packet_row (marked m (length es) packet)) row) same is.reduces

    reduces-kept : Reduces (m + m) (rows_of entries) (pivots_of entries) (packet_row (marked m (length (offered_packets entries)) packet)) row
    reduces-kept =
        subst (λ n. Reduces (m + m) (rows_of entries) (pivots_of entries) (packet_row (marked m n packet)) row) (sym (length-map entries (λ e. e.packet))) reduces-entries

    packets : offered_packets (entries ++ keeps.entry ∷ []) ≡ offered_packets entries ++ packet ∷ []
    packets = map_push (λ e. e.packet) entries keeps.entry ∙ ap (λ p. offered_packets entries ++ p ∷ []) keeps.same_packet

    pivots : pivots_of (entries ++ keeps.entry ∷ []) ≡ pivots_of entries ++ pivot ∷ []
    pivots = map_push (λ e. e.pivot) entries keeps.entry ∙ ap (λ p. pivots_of entries ++ p ∷ []) keeps.same_pivot

-- ---- what the basis stands for after it

-- the basis as its callers see it, once an entry of the packet was gained
pub basis_of-kept : (m t : ℕ) (entries after : List Entry) (seen : BasisData) (packet : Packet) (place : ℕ) (row : List ℕ) → basis_of m t entries ≡ seen
    → Keeps entries after packet place row → basis_of m t after ≡ record seen { kept = seen.kept ++ packet ∷ [] }
basis_of-kept m t entries after seen packet place row view keeps =
    let packets : offered_packets after ≡ offered_packets entries ++ packet ∷ [] =
    ap (λ (es : List Entry). offered_packets es) keeps.gained ∙ map_push (λ e. e.packet) entries keeps.entry
    ∙ ap (λ (p : Packet). offered_packets entries ++ p ∷ []) keeps.same_packet in
    ap (λ (ps : List Packet). record { m = m; t = t; kept = ps }) packets
    ∙ ap (λ (d : BasisData). record d { kept = d.kept ++ packet ∷ [] }) view

-- what became of the packet, said of the kept packets as the callers see them
pub taken-seen : (m t : ℕ) (entries lent : List Entry) (seen : BasisData) (packet : Packet) (taken : Taken) → basis_of m t entries ≡ seen → lent ≡ entries
    → IsTaken (offered_packets lent) packet taken → IsTaken seen.kept packet taken
taken-seen m t entries lent seen packet taken view same becomes =
    subst (λ (kept : List Packet). IsTaken kept packet taken)
    (ap (λ (es : List Entry). offered_packets es) same ∙ ap (λ (d : BasisData). d.kept) view) becomes

pub offered-stands : (m t : ℕ) (entries : List Entry) (seen : BasisData) (packet : Packet) → basis_of m t entries ≡ seen
    → IsSized m (length packet.payload) packet → length packet.payload ≡ seen.t
    → (taken : Taken) → IsTaken seen.kept packet taken → (after : BasisData) → after ≡ record seen { kept = kept_with seen.kept packet taken }
    → (packets : List Packet) → StandsForBatch packet.batch packets seen → StandsForBatch packet.batch (packets ++ packet ∷ []) after
offered-stands m t entries seen packet view size payload taken becomes after same packets stands =
    let sizes : IsSized seen.m seen.t packet = record {
      coefs = size.coefs ∙ ap (λ (d : BasisData). d.m) view;
      payload = payload;
      coef_bytes = size.coef_bytes;
      payload_bytes = size.payload_bytes;
    } in
    StandsForBatch-taken packets packet seen after taken sizes becomes same stands
