-- A file agrees with all packets exactly where it agrees with the kept ones and no packet contradicts these.
use Rattle.std.proofs.Common.{ℕ, zero, suc, ◌≡◌, ◌<◌, ◌≤◌, ◌+◌, ◌∙◌, ◌==◌, ◌↔◌, sym, ap, refl, subst, Bool, true, false, cond, not, List, [], ◌∷◌, ◌++◌, length, get_or, take, drop, map, inl, inr, arith, append_assoc, append-nil, length-append}
use Rattle.std.specs.Prelude.{All, filter, slice_get, Option, Some}
use Rattle.std.proofs.lemmas.Bool.{cases_Bool, eqb-true, eq-eqb, both_ways}
use Rattle.std.proofs.lemmas.Option.{slice_get_within, get_or_from_slice_get, slice_get-get_or}
use Rattle.std.proofs.lemmas.List.{ext_get_or, get_or-take, get_or-drop, take_at, take-append-drop, length-drop, length-map, get_or-append-add}
use Rattle.std.proofs.lemmas.List.Elements.{All-nil, All-cons, All-head, All-tail, All-append, All-push, All-map, All-take, All-filter, All-weaker, All-from_get_or, filter_passes}
use Rattle.gf_core.specs.Bytes.{AreBytes}
use Rattle.gf_core.specs.Field.{gf_add}
use Rattle.gf_core.specs.Combinations.{combination, IsInSpan}
use Rattle.gf_core.proofs.AddLemmas.{gf_add-eq-zero}
use Rattle.gf_core.proofs.LinearRows.{AreRows}
use Rattle.gf_core.proofs.CombinationLemmas.{length-combination, take-combination, vanishes-combination, vanishes-span}
use Rattle.bats_model.specs.Session.{SessionData}
use Rattle.bats_model.specs.Agreement.{IsFile, Agrees, AgreesWithAll, combined_byte}
use Rattle.bats_model.specs.Kept.{IsCombination, is_combination, is_new, new_after, kept_of, packet_row, Follows, Contradicts, HasContradiction}
use Rattle.bats_model.specs.PacketFile.{HasShape}
use Rattle.bats_model.specs.declared.packet.Packet.{Packet}
use Rattle.bats_model.proofs.NewPackets.{is_combination-Decides, if_new}
use Rattle.bats_model.proofs.KeptSpans.{is_of, coefs_of, HasVector, All-kept_of, old-spanned, kept-spans}
use Rattle.bats_model.proofs.PacketRows.{row_byte, row_error, row_byte-front, IsLinear-row_error, row_error-zero, Agrees-zero}

-- ---- rows of packets of one batch

-- a packet of this batch and of the session, with which the file agrees
pub record AgreesAt (session : SessionData) (file : List ℕ) (batch : ℕ) (packet : Packet) : Type 0 where
  pub shape : HasShape session packet
  pub of_batch : packet.batch ≡ batch
  pub agrees : Agrees session file packet

length-packet_row : (session : SessionData) (packet : Packet) → HasShape session packet → length (packet_row packet) ≡ session.m + session.t
length-packet_row session packet shape = omega (arith, length-append packet.coefs packet.payload, shape.coefs, shape.payload)

AreRows-kept : (session : SessionData) (file : List ℕ) (batch : ℕ) (kept : List Packet) → All (AgreesAt session file batch) kept
    → AreRows (session.m + session.t) (map packet_row kept)
AreRows-kept session file batch kept all = record {
  widths = All-map (λ row. length row ≡ session.m + session.t) packet_row kept
      (All-weaker (AgreesAt session file batch) (λ p. length (packet_row p) ≡ session.m + session.t)
      (λ p h. length-packet_row session p h.shape) kept all);
  bytes = All-map AreBytes packet_row kept
      (All-weaker (AgreesAt session file batch) (λ p. AreBytes (packet_row p))
      (λ p h. All-append (λ byte. byte < 256) p.coefs p.payload h.shape.coef_bytes h.shape.payload_bytes) kept all);
}

zeros-kept : (session : SessionData) (file : List ℕ) (batch c : ℕ) (kept : List Packet) → c < session.t
    → All (AgreesAt session file batch) kept → All (λ row. row_error session file batch c row ≡ 0) (map packet_row kept)
zeros-kept session file batch c kept column all =
    All-map (λ row. row_error session file batch c row ≡ 0) packet_row kept
    (All-weaker (AgreesAt session file batch) (λ p. row_error session file batch c (packet_row p) ≡ 0)
    (λ p h. subst (λ (b : ℕ). row_error session file b c (packet_row p) ≡ 0) h.of_batch
    (row_error-zero session file p c h.shape column h.agrees)) kept all)

fronts-kept : (session : SessionData) (file : List ℕ) (batch : ℕ) (kept : List Packet) → All (AgreesAt session file batch) kept
    → map (take session.m) (map packet_row kept) ≡ coefs_of kept
fronts-kept session file batch [] all = refl
fronts-kept session file batch (p ∷ ps) all =
    let own : AgreesAt session file batch p = All-head (AgreesAt session file batch) p ps all in
    ap (λ (v : List ℕ). v ∷ map (take session.m) (map packet_row ps)) (take_at p.coefs p.payload session.m own.shape.coefs)
    ∙ ap (λ (vs : List (List ℕ)). p.coefs ∷ vs) (fronts-kept session file batch ps (All-tail (AgreesAt session file batch) p ps all))

-- ---- a file that agrees shows that a packet follows

-- the row that the factors of the vector make of the kept rows is the packet's
pub row-follows : (session : SessionData) (file : List ℕ) (kept : List Packet) (packet : Packet)
    → All (AgreesAt session file packet.batch) kept → AgreesAt session file packet.batch packet
    → IsCombination (coefs_of kept) packet.coefs → Follows kept packet
row-follows session file kept packet all own is =
    let m : ℕ = session.m in
    let t : ℕ = session.t in
    let width : ℕ = m + t in
    let batch : ℕ = packet.batch in
    let rows : List (List ℕ) = map packet_row kept in
    let row : List ℕ = combination width is.factors rows in
    let long : length row ≡ width = length-combination width is.factors rows in
    let bytes : AreBytes file = own.agrees.is_file.bytes in
    let front : take m row ≡ packet.coefs =
    take-combination width m is.factors rows (omega arith)
    ∙ ap (combination m is.factors) (fronts-kept session file batch kept all)
    ∙ ap (λ (n : ℕ). combination n is.factors (coefs_of kept)) (sym own.shape.coefs) ∙ is.sums in
    let entry : (j : ℕ) → j < m → get_or row j 0 ≡ get_or packet.coefs j 0 =
    λ j within. sym (get_or-take m row j 0 within) ∙ ap (λ (v : List ℕ). get_or v j 0) front in
    let byte : (c : ℕ) → c < t → get_or row (m + c) 0 ≡ get_or packet.payload c 0 = λ c column.
    gf_add-eq-zero (get_or row (m + c) 0) (row_byte session file batch c row)
    (vanishes-combination width (row_error session file batch c) is.factors rows (IsLinear-row_error session file batch c bytes column)
    (AreRows-kept session file batch kept all) (zeros-kept session file batch c kept column all))
    ∙ row_byte-front session file batch c packet.coefs row entry ∙ sym (own.agrees.columns c column) in
    let rest : length (drop m row) ≡ t = omega (arith, length-drop m row, long) in
    let back : drop m row ≡ packet.payload =
    ext_get_or 0 (drop m row) packet.payload (rest ∙ sym own.shape.payload)
    (λ c within. get_or-drop m row c 0 ∙ byte c (omega (arith, rest))) in
    record {
      factors = is.factors;
      bytes = is.bytes;
      size = is.size ∙ length-map kept (λ p. p.coefs) ∙ sym (length-map kept packet_row);
      sums = ap (λ (n : ℕ). combination n is.factors rows) (length-packet_row session packet own.shape)
          ∙ sym (take-append-drop m row) ∙ ap (λ (v : List ℕ). v ++ drop m row) front ∙ ap (λ (v : List ℕ). packet.coefs ++ v) back;
    }

-- a file that agrees with the kept packets agrees with one that follows them
pub Agrees-follows : (session : SessionData) (file : List ℕ) (kept : List Packet) (packet : Packet) → HasShape session packet
    → IsFile session file → All (AgreesAt session file packet.batch) kept → Follows kept packet → Agrees session file packet
Agrees-follows session file kept packet shape is all follows =
    let width : ℕ = session.m + session.t in
    Agrees-zero session file packet shape is (λ c column.
    vanishes-span width (row_error session file packet.batch c) (map packet_row kept) (packet_row packet)
    (IsLinear-row_error session file packet.batch c is.bytes column) (AreRows-kept session file packet.batch kept all)
    (zeros-kept session file packet.batch c kept column all)
    (subst (λ (n : ℕ). IsInSpan n (map packet_row kept) (packet_row packet)) (length-packet_row session packet shape) follows))

-- ---- lists of packets

-- a packet of the session with which the file agrees
record AgreesShaped (session : SessionData) (file : List ℕ) (packet : Packet) : Type 0 where
  shape : HasShape session packet
  agrees : Agrees session file packet

shaped : (session : SessionData) (file : List ℕ) (packets : List Packet) → All (HasShape session) packets
    → All (Agrees session file) packets → All (AgreesShaped session file) packets
shaped session file packets shapes agrees k d within = record { shape = shapes k d within; agrees = agrees k d within }

-- the kept packets of a batch, where the file agrees with all
kept-agree : (session : SessionData) (file : List ℕ) (batch : ℕ) (packets : List Packet) → All (AgreesShaped session file) packets
    → All (AgreesAt session file batch) (kept_of batch packets)
kept-agree session file batch packets all k d within =
    let here = All-kept_of (AgreesShaped session file) batch packets all k d within in
    record {
      shape = here.shape;
      of_batch = eqb-true (get_or (kept_of batch packets) k d).batch batch (filter_passes (is_of batch) (new_after [] packets) k d within);
      agrees = here.agrees;
    }

at-place : (P : Packet → Type 0) (packets : List Packet) (place : ℕ) (packet : Packet) → All P packets
    → slice_get packets place ≡ Some packet → P packet
at-place P packets place packet all stands =
    subst P (get_or_from_slice_get packets place packet packet stands)
    (all place packet (slice_get_within packets place packet stands))

no-contradiction : (session : SessionData) (file : List ℕ) (packets : List Packet) → All (AgreesShaped session file) packets
    → ¬ HasContradiction packets
no-contradiction session file packets all h =
    let own : AgreesShaped session file h.packet = at-place (AgreesShaped session file) packets h.at h.packet all h.stands in
    h.contradicts.differs (row-follows session file (kept_of h.packet.batch (take h.at packets)) h.packet
    (kept-agree session file h.packet.batch (take h.at packets) (All-take (AgreesShaped session file) h.at packets all))
    (record { shape = own.shape; of_batch = refl; agrees = own.agrees }) h.contradicts.combination)

-- ---- from the kept packets to all

-- what holds of the packets of each batch holds of all
of-batches : (P : Packet → Type 0) (packets : List Packet) → ((batch : ℕ) → All P (filter (is_of batch) packets)) → All P packets
of-batches P [] all = All-nil P
of-batches P (p ∷ ps) all =
    let here : is_of p.batch p ≡ true = eq-eqb p.batch p.batch refl in
    let split : (batch : ℕ) → Bool → Type 0 = λ batch b. All P (cond b (p ∷ filter (is_of batch) ps) (filter (is_of batch) ps)) in
    let own : All P (p ∷ filter (is_of p.batch) ps) = subst (split p.batch) here (all p.batch) in
    All-cons P p ps (All-head P p (filter (is_of p.batch) ps) own) (of-batches P ps (λ batch.
    elim (cases_Bool (is_of batch p)) [
      | inl e ↦ All-tail P p (filter (is_of batch) ps) (subst (split batch) e (all batch))
      | inr e ↦ subst (split batch) e (all batch)
    ]))

stands-here : (earlier packets : List Packet) (packet : Packet) → slice_get (earlier ++ packet ∷ packets) (length earlier) ≡ Some packet
stands-here [] packets packet = refl
stands-here (p ∷ ps) packets packet = stands-here ps packets packet

next-agrees : (session : SessionData) (file : List ℕ) (earlier packets : List Packet) (packet : Packet) → IsFile session file
    → All (AgreesShaped session file) earlier → HasShape session packet → ¬ HasContradiction (earlier ++ packet ∷ packets)
    → (is_new earlier packet ≡ true → Agrees session file packet) → Agrees session file packet
next-agrees session file earlier packets packet is all shape none fresh = elim (cases_Bool (is_new earlier packet)) [
  | inl new ↦ fresh new
  | inr old ↦
      let vector : (p : Packet) → HasShape session p → HasVector session.m p = λ p s. record { size = s.coefs; bytes = s.coef_bytes } in
      let vectors : All (HasVector session.m) earlier =
      All-weaker (AgreesShaped session file) (HasVector session.m) (λ p h. vector p h.shape) earlier all in
      let kept : List Packet = kept_of packet.batch earlier in
      let spanned : IsInSpan session.m (coefs_of kept) packet.coefs =
      old-spanned session.m earlier packet vectors (vector packet shape) old (kept-spans session.m packet.batch earlier vectors) in
      let combines : IsCombination (coefs_of kept) packet.coefs =
      subst (λ (n : ℕ). IsInSpan n (coefs_of kept) packet.coefs) (sym shape.coefs) spanned in
      let row_follows = is_combination-Decides (map packet_row kept) (packet_row packet) in
      elim (cases_Bool (is_combination (map packet_row kept) (packet_row packet))) [
        | inl e ↦ Agrees-follows session file kept packet shape is (kept-agree session file packet.batch earlier all) (row_follows.0 e)
        | inr e ↦
            let contradicts : Contradicts kept packet = record {
              combination = combines;
              differs = λ follows. both_ways (is_combination (map packet_row kept) (packet_row packet)) e (row_follows.1 follows);
            } in
            absurd (none (record {
              at = length earlier;
              packet = packet;
              stands = stands-here earlier packets packet;
              contradicts = subst (λ (ps : List Packet). Contradicts (kept_of packet.batch ps) packet)
                  (sym (take_at earlier (packet ∷ packets) (length earlier) refl)) contradicts;
            }))
      ]
]

all-agree : (session : SessionData) (file : List ℕ) (earlier packets : List Packet) → IsFile session file
    → All (AgreesShaped session file) earlier → All (HasShape session) packets → ¬ HasContradiction (earlier ++ packets)
    → All (Agrees session file) (new_after earlier packets) → All (Agrees session file) packets
unfolding new_after
all-agree session file earlier [] is all shapes none fresh = All-nil (Agrees session file)
all-agree session file earlier (p ∷ ps) is all shapes none fresh =
    let P : Packet → Type 0 = Agrees session file in
    let shape : HasShape session p = All-head (HasShape session) p ps shapes in
    let rest : List Packet = new_after (earlier ++ p ∷ []) ps in
    let here : P p = next-agrees session file earlier ps p is all shape none
    (λ new. All-head P p rest (subst (λ (b : Bool). All P (cond b (p ∷ []) [] ++ rest)) new fresh)) in
    let later : All P rest = elim (cases_Bool (is_new earlier p)) [
      | inl new ↦ All-tail P p rest (subst (λ (b : Bool). All P (cond b (p ∷ []) [] ++ rest)) new fresh)
      | inr old ↦ subst (λ (b : Bool). All P (cond b (p ∷ []) [] ++ rest)) old fresh
    ] in
    All-cons P p ps here
    (all-agree session file (earlier ++ p ∷ []) ps is
    (All-push (AgreesShaped session file) earlier p all (record { shape = shape; agrees = here }))
    (All-tail (HasShape session) p ps shapes)
    (subst (λ (qs : List Packet). ¬ HasContradiction qs) (sym (append_assoc earlier (p ∷ []) ps)) none) later)

-- the law on kept packets
pub kept-agreement : (session : SessionData) (packets : List Packet) (file : List ℕ) → All (HasShape session) packets
    → AgreesWithAll session packets file
    ↔ (((batch : ℕ) → AgreesWithAll session (kept_of batch packets) file) × ¬ HasContradiction packets)
kept-agreement session packets file shapes = (
  λ h. (
    λ batch. record { is_file = h.is_file; each = All-kept_of (Agrees session file) batch packets h.each },
    no-contradiction session file packets (shaped session file packets shapes h.each),
  ),
  λ (kept, none).
      let is : IsFile session file = (kept 0).is_file in
      record {
        is_file = is;
        each = all-agree session file [] packets is (All-nil (AgreesShaped session file)) shapes none
            (of-batches (Agrees session file) (new_after [] packets) (λ batch. (kept batch).each));
      },
)
