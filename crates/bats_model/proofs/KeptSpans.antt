-- The kept packets of a batch are among its packets, and their vectors span those of all packets of the batch.
use Rattle.std.proofs.Common.{ℕ, ◌≡◌, ◌∙◌, ◌==◌, ◌<◌, sym, ap, refl, subst, Bool, true, false, cond, not, List, [], ◌∷◌, ◌++◌, length, map, inl, inr, arith, append_assoc}
use Rattle.std.specs.Prelude.{All, filter}
use Rattle.std.specs.Bool.{Decides}
use Rattle.std.proofs.lemmas.Bool.{cases_Bool, eqb-true, not-false}
use Rattle.std.proofs.lemmas.Bool.Decides.{Decides-like}
use Rattle.std.proofs.lemmas.List.{append-nil, map-append}
use Rattle.std.proofs.lemmas.List.Elements.{All-nil, All-cons, All-head, All-tail, All-append, All-push, All-map, All-filter, All-weaker, filter-append, filter_passes}
use Rattle.gf_core.specs.Bytes.{AreBytes}
use Rattle.gf_core.specs.Combinations.{IsInSpan}
use Rattle.gf_core.proofs.LinearRows.{AreRows}
use Rattle.gf_core.proofs.CombinationLemmas.{IsInSpan-push, IsInSpan-last, IsInSpan-each, IsInSpan-trans}
use Rattle.bats_model.specs.Session.{SessionData}
use Rattle.bats_model.specs.PacketFile.{HasShape}
use Rattle.bats_model.specs.Kept.{IsCombination, is_combination, coefs_of, vectors_of, is_new, new_after, kept_of}
use Rattle.bats_model.specs.declared.packet.Packet.{Packet}
use Rattle.bats_model.proofs.NewPackets.{is_combination-Decides, is_new-Decides, if_new, kept_of-push}

-- the packet is of this batch
abbrev pub is_of : ℕ → Packet → Bool
is_of batch packet = packet.batch == batch

-- the packet has m coefficients, all of them bytes
pub record HasVector (m : ℕ) (packet : Packet) : Type 0 where
  pub size : length packet.coefs ≡ m
  pub bytes : AreBytes packet.coefs

pub HasVector-shape : (session : SessionData) (packet : Packet) → HasShape session packet → HasVector session.m packet
HasVector-shape session packet shape = record { size = shape.coefs; bytes = shape.coef_bytes }

pub AreRows-coefs : (m : ℕ) (packets : List Packet) → All (HasVector m) packets → AreRows m (coefs_of packets)
AreRows-coefs m packets all = record {
  widths = All-map (λ row. length row ≡ m) (λ p. p.coefs) packets (All-weaker (HasVector m) (λ p. length p.coefs ≡ m) (λ p h. h.size) packets all);
  bytes = All-map AreBytes (λ p. p.coefs) packets (All-weaker (HasVector m) (λ p. AreBytes p.coefs) (λ p h. h.bytes) packets all);
}

-- ---- new packets are among the packets

All-if : (P : Packet → Type 0) (b : Bool) (packet : Packet) → P packet → All P (cond b (packet ∷ []) [])
All-if P true packet h = All-cons P packet [] h (All-nil P)
All-if P false packet h = All-nil P

-- what holds of all packets holds of the new ones
pub All-new_after : (P : Packet → Type 0) (earlier packets : List Packet) → All P packets → All P (new_after earlier packets)
unfolding new_after
All-new_after P earlier [] all = All-nil P
All-new_after P earlier (p ∷ ps) all =
    All-append P (if_new earlier p) (new_after (earlier ++ p ∷ []) ps) (All-if P (is_new earlier p) p (All-head P p ps all))
    (All-new_after P (earlier ++ p ∷ []) ps (All-tail P p ps all))

-- and of the kept ones of a batch
pub All-kept_of : (P : Packet → Type 0) (batch : ℕ) (packets : List Packet) → All P packets → All P (kept_of batch packets)
All-kept_of P batch packets all = All-filter (is_of batch) P (new_after [] packets) (All-new_after P [] packets all)

-- ---- one packet more

vectors_of-push : (batch : ℕ) (packets : List Packet) (packet : Packet)
    → vectors_of batch (packets ++ packet ∷ []) ≡ vectors_of batch packets ++ coefs_of (filter (is_of batch) (packet ∷ []))
vectors_of-push batch packets packet =
    ap coefs_of (filter-append (is_of batch) packets (packet ∷ []))
    ∙ map-append (λ p. p.coefs) (filter (is_of batch) packets) (filter (is_of batch) (packet ∷ []))

filter-here : (batch : ℕ) (packet : Packet) → is_of batch packet ≡ true → filter (is_of batch) (packet ∷ []) ≡ packet ∷ []
filter-here batch packet e = rw e refl

filter-elsewhere : (batch : ℕ) (packet : Packet) → is_of batch packet ≡ false → filter (is_of batch) (packet ∷ []) ≡ []
filter-elsewhere batch packet e = rw e refl

filter-if_elsewhere : (batch : ℕ) (b : Bool) (packet : Packet) → is_of batch packet ≡ false → filter (is_of batch) (cond b (packet ∷ []) []) ≡ []
filter-if_elsewhere batch true packet e = filter-elsewhere batch packet e
filter-if_elsewhere batch false packet e = refl

-- the kept vectors of the batch span those of all its packets
abbrev pub IsSpanned : ℕ → ℕ → List Packet → Type 0
IsSpanned m batch packets = All (IsInSpan m (coefs_of (kept_of batch packets))) (vectors_of batch packets)

spanned-elsewhere : (m batch : ℕ) (packets : List Packet) (packet : Packet) → is_of batch packet ≡ false → IsSpanned m batch packets
    → IsSpanned m batch (packets ++ packet ∷ [])
spanned-elsewhere m batch packets packet e h =
    let kept : kept_of batch (packets ++ packet ∷ []) ≡ kept_of batch packets =
    kept_of-push batch packets packet
    ∙ ap (λ (ps : List Packet). kept_of batch packets ++ ps) (filter-if_elsewhere batch (is_new packets packet) packet e)
    ∙ append-nil (kept_of batch packets) in
    let vectors : vectors_of batch (packets ++ packet ∷ []) ≡ vectors_of batch packets =
    vectors_of-push batch packets packet
    ∙ ap (λ (ps : List Packet). vectors_of batch packets ++ coefs_of ps) (filter-elsewhere batch packet e)
    ∙ append-nil (vectors_of batch packets) in
    subst (λ (ps : List Packet). All (IsInSpan m (coefs_of ps)) (vectors_of batch (packets ++ packet ∷ []))) (sym kept)
    (subst (All (IsInSpan m (coefs_of (kept_of batch packets)))) (sym vectors) h)

spanned-new : (m batch : ℕ) (packets : List Packet) (packet : Packet) → All (HasVector m) packets → HasVector m packet
    → is_of batch packet ≡ true → is_new packets packet ≡ true → IsSpanned m batch packets → IsSpanned m batch (packets ++ packet ∷ [])
spanned-new m batch packets packet all own e fresh h =
    let before : List Packet = kept_of batch packets in
    let rows : List (List ℕ) = coefs_of before in
    let are : AreRows m rows = AreRows-coefs m before (All-kept_of (HasVector m) batch packets all) in
    let this : if_new packets packet ≡ packet ∷ [] = ap (λ (b : Bool). cond b (packet ∷ []) []) fresh in
    let kept : coefs_of (kept_of batch (packets ++ packet ∷ [])) ≡ rows ++ packet.coefs ∷ [] =
    ap coefs_of (kept_of-push batch packets packet ∙ ap (λ (ps : List Packet). before ++ filter (is_of batch) ps) this
    ∙ ap (λ (ps : List Packet). before ++ ps) (filter-here batch packet e))
    ∙ map-append (λ p. p.coefs) before (packet ∷ []) in
    let vectors : vectors_of batch (packets ++ packet ∷ []) ≡ vectors_of batch packets ++ packet.coefs ∷ [] =
    vectors_of-push batch packets packet ∙ ap (λ (ps : List Packet). vectors_of batch packets ++ coefs_of ps) (filter-here batch packet e) in
    let longer : All (IsInSpan m (rows ++ packet.coefs ∷ [])) (vectors_of batch packets) =
    All-weaker (IsInSpan m rows) (IsInSpan m (rows ++ packet.coefs ∷ [])) (λ v is. IsInSpan-push m rows packet.coefs v are own.size is)
    (vectors_of batch packets) h in
    subst (λ (vs : List (List ℕ)). All (IsInSpan m vs) (vectors_of batch (packets ++ packet ∷ []))) (sym kept)
    (subst (All (IsInSpan m (rows ++ packet.coefs ∷ []))) (sym vectors)
    (All-push (IsInSpan m (rows ++ packet.coefs ∷ [])) (vectors_of batch packets) packet.coefs longer
    (IsInSpan-last m rows packet.coefs are own.size)))

-- a packet that isn't new is in the span of the kept vectors of its batch
pub old-spanned : (m : ℕ) (packets : List Packet) (packet : Packet) → All (HasVector m) packets → HasVector m packet
    → is_new packets packet ≡ false → IsSpanned m packet.batch packets
    → IsInSpan m (coefs_of (kept_of packet.batch packets)) packet.coefs
old-spanned m packets packet all own old h =
    let vectors : List (List ℕ) = vectors_of packet.batch packets in
    let is : IsCombination vectors packet.coefs =
    (is_combination-Decides vectors packet.coefs).0 (not-false (is_combination vectors packet.coefs) old) in
    IsInSpan-trans m (coefs_of (kept_of packet.batch packets)) vectors packet.coefs
    (AreRows-coefs m (kept_of packet.batch packets) (All-kept_of (HasVector m) packet.batch packets all)) h
    (subst (λ (n : ℕ). IsInSpan n vectors packet.coefs) own.size is)

spanned-old : (m batch : ℕ) (packets : List Packet) (packet : Packet) → All (HasVector m) packets → HasVector m packet
    → is_of batch packet ≡ true → is_new packets packet ≡ false → IsSpanned m batch packets → IsSpanned m batch (packets ++ packet ∷ [])
spanned-old m batch packets packet all own e old h =
    let same : packet.batch ≡ batch = eqb-true packet.batch batch e in
    let rows : List (List ℕ) = coefs_of (kept_of batch packets) in
    let none : if_new packets packet ≡ [] = ap (λ (b : Bool). cond b (packet ∷ []) []) old in
    let kept : coefs_of (kept_of batch (packets ++ packet ∷ [])) ≡ rows =
    ap coefs_of (kept_of-push batch packets packet ∙ ap (λ (ps : List Packet). kept_of batch packets ++ filter (is_of batch) ps) none
    ∙ append-nil (kept_of batch packets)) in
    let vectors : vectors_of batch (packets ++ packet ∷ []) ≡ vectors_of batch packets ++ packet.coefs ∷ [] =
    vectors_of-push batch packets packet ∙ ap (λ (ps : List Packet). vectors_of batch packets ++ coefs_of ps) (filter-here batch packet e) in
    let here : IsInSpan m rows packet.coefs =
    subst (λ (b : ℕ). IsInSpan m (coefs_of (kept_of b packets)) packet.coefs) same
    (old-spanned m packets packet all own old (subst (λ (b : ℕ). IsSpanned m b packets) (sym same) h)) in
    subst (λ (vs : List (List ℕ)). All (IsInSpan m vs) (vectors_of batch (packets ++ packet ∷ []))) (sym kept)
    (subst (All (IsInSpan m rows)) (sym vectors) (All-push (IsInSpan m rows) (vectors_of batch packets) packet.coefs h here))

spanned-push : (m batch : ℕ) (packets : List Packet) (packet : Packet) → All (HasVector m) packets → HasVector m packet
    → IsSpanned m batch packets → IsSpanned m batch (packets ++ packet ∷ [])
spanned-push m batch packets packet all own h = elim (cases_Bool (is_of batch packet)) [
  | inl e ↦
      elim (cases_Bool (is_new packets packet)) [
        | inl fresh ↦ spanned-new m batch packets packet all own e fresh h
        | inr old ↦ spanned-old m batch packets packet all own e old h
      ]
  | inr e ↦ spanned-elsewhere m batch packets packet e h
]

spanned-append : (m batch : ℕ) (earlier packets : List Packet) → All (HasVector m) earlier → All (HasVector m) packets
    → IsSpanned m batch earlier → IsSpanned m batch (earlier ++ packets)
spanned-append m batch earlier [] before all h = subst (IsSpanned m batch) (sym (append-nil earlier)) h
spanned-append m batch earlier (p ∷ ps) before all h =
    let own : HasVector m p = All-head (HasVector m) p ps all in
    subst (IsSpanned m batch) (append_assoc earlier (p ∷ []) ps)
    (spanned-append m batch (earlier ++ p ∷ []) ps (All-push (HasVector m) earlier p before own) (All-tail (HasVector m) p ps all)
    (spanned-push m batch earlier p before own h))

pub kept-spans : (m batch : ℕ) (packets : List Packet) → All (HasVector m) packets → IsSpanned m batch packets
unfolding new_after
kept-spans m batch packets all =
    spanned-append m batch [] packets (All-nil (HasVector m)) all (All-nil (IsInSpan m []))

-- ---- new by the kept packets alone

of-vectors : (R : List ℕ → Type 0) (batch : ℕ) (packets : List Packet) → All R (vectors_of batch packets)
    → All (λ p. is_of batch p ≡ true → R p.coefs) packets
of-vectors R batch [] all = All-nil (λ p. is_of batch p ≡ true → R p.coefs)
of-vectors R batch (p ∷ ps) all =
    let rest : List (List ℕ) = vectors_of batch ps in
    let split : Bool → Type 0 = λ b. All R (coefs_of (cond b (p ∷ filter (is_of batch) ps) (filter (is_of batch) ps))) in
    All-cons (λ q. is_of batch q ≡ true → R q.coefs) p ps (λ e. All-head R p.coefs rest (subst split e all))
    (of-vectors R batch ps (elim (cases_Bool (is_of batch p)) [
      | inl e ↦ All-tail R p.coefs rest (subst split e all)
      | inr e ↦ subst split e all
    ]))

-- the kept vectors are among those of the batch
pub kept-among : (m batch : ℕ) (packets : List Packet) → All (HasVector m) packets
    → All (IsInSpan m (vectors_of batch packets)) (coefs_of (kept_of batch packets))
kept-among m batch packets all =
    let vectors : List (List ℕ) = vectors_of batch packets in
    let are : AreRows m vectors = AreRows-coefs m (filter (is_of batch) packets) (All-filter (is_of batch) (HasVector m) packets all) in
    let each : All (λ p. is_of batch p ≡ true → IsInSpan m vectors p.coefs) (kept_of batch packets) =
    All-kept_of (λ p. is_of batch p ≡ true → IsInSpan m vectors p.coefs) batch packets
    (of-vectors (IsInSpan m vectors) batch packets (IsInSpan-each m vectors are.widths)) in
    All-map (IsInSpan m vectors) (λ p. p.coefs) (kept_of batch packets)
    (λ k d within. each k d within (filter_passes (is_of batch) (new_after [] packets) k d within))

-- a packet is new exactly where its vector is no combination of the kept ones of its batch
pub is_new-kept : (m : ℕ) (packets : List Packet) (packet : Packet) → All (HasVector m) packets → HasVector m packet
    → Decides (is_new packets packet) (¬ IsCombination (coefs_of (kept_of packet.batch packets)) packet.coefs)
is_new-kept m packets packet all own =
    let vectors : List (List ℕ) = vectors_of packet.batch packets in
    let kept : List (List ℕ) = coefs_of (kept_of packet.batch packets) in
    let are : AreRows m vectors =
    AreRows-coefs m (filter (is_of packet.batch) packets) (All-filter (is_of packet.batch) (HasVector m) packets all) in
    let kept_are : AreRows m kept = AreRows-coefs m (kept_of packet.batch packets) (All-kept_of (HasVector m) packet.batch packets all) in
    let to_all : IsCombination kept packet.coefs → IsCombination vectors packet.coefs = λ is.
    subst (λ (n : ℕ). IsInSpan n vectors packet.coefs) (sym own.size)
    (IsInSpan-trans m vectors kept packet.coefs are (kept-among m packet.batch packets all)
    (subst (λ (n : ℕ). IsInSpan n kept packet.coefs) own.size is)) in
    let to_kept : IsCombination vectors packet.coefs → IsCombination kept packet.coefs = λ is.
    subst (λ (n : ℕ). IsInSpan n kept packet.coefs) (sym own.size)
    (IsInSpan-trans m kept vectors packet.coefs kept_are (kept-spans m packet.batch packets all)
    (subst (λ (n : ℕ). IsInSpan n vectors packet.coefs) own.size is)) in
    Decides-like (is_new packets packet) (λ none is. none (to_all is)) (λ none is. none (to_kept is)) (is_new-Decides packets packet)
