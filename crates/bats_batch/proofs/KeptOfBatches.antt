-- What is kept of each batch after one packet more, by what becomes of that packet.
use Rattle.std.proofs.Common.{ℕ, ◌≡◌, ◌+◌, ◌∙◌, ◌==◌, sym, ap, subst, refl, Bool, true, false, cond, List, All, [], ◌∷◌, ◌++◌, length, map, take, arith, inl, inr, length-append}
use Rattle.std.specs.Prelude.{filter}
use Rattle.std.specs.Bool.{Decides}
use Rattle.std.proofs.lemmas.Bool.{cases_Bool, eq-eqb, false_from_ne_true}
use Rattle.std.proofs.lemmas.List.{append-nil, take_at}
use Rattle.std.proofs.lemmas.List.Elements.{All-nil, All-weaker, All-push}
use Rattle.gf_core.specs.Combinations.{IsInSpan}
use Rattle.gf_core.proofs.CombinationLemmas.{take-IsInSpan}
use Rattle.bats_model.specs.Session.{SessionData}
use Rattle.bats_model.specs.PacketFile.{HasShape}
use Rattle.bats_model.specs.Kept.{IsCombination, Follows, coefs_of, packet_row, is_new, new_after, kept_of}
use Rattle.bats_model.specs.declared.packet.Packet.{Packet}
use Rattle.bats_model.specs.declared.taken.Taken.{Taken}
use Rattle.bats_model.specs.declared.taken.Taken.TheVariants.{Kept, Dependent, Contradiction}
use Rattle.bats_model.proofs.NewPackets.{kept_of-push}
use Rattle.bats_model.proofs.KeptSpans.{HasVector, All-kept_of, is_new-kept, is_of}
use Rattle.bats_batch.specs.Basis.{BasisData, IsTaken, kept_with, IsSized, StandsForBatch}
use Rattle.bats_batch.proofs.KeptRows.{IsSized-shape, take-packet_rows}

-- those of a batch among at most one packet
abbrev if_of : ℕ → Bool → Packet → List Packet
if_of batch b packet = filter (is_of batch) (cond b (packet ∷ []) [])

kept_of-push_if : (batch : ℕ) (packets : List Packet) (packet : Packet) (b : Bool) → is_new packets packet ≡ b
    → kept_of batch (packets ++ packet ∷ []) ≡ kept_of batch packets ++ if_of batch b packet
kept_of-push_if batch packets packet b e =
    kept_of-push batch packets packet ∙ ap (λ (b : Bool). kept_of batch packets ++ if_of batch b packet) e

-- a new packet is kept
kept_of-push_new : (packets : List Packet) (packet : Packet) → is_new packets packet ≡ true
    → kept_of packet.batch (packets ++ packet ∷ []) ≡ kept_of packet.batch packets ++ packet ∷ []
kept_of-push_new packets packet new =
    let own : if_of packet.batch true packet ≡ packet ∷ [] = rw (eq-eqb packet.batch packet.batch refl) refl in
    kept_of-push_if packet.batch packets packet true new ∙ ap (λ (ps : List Packet). kept_of packet.batch packets ++ ps) own

-- one that isn't new is not
kept_of-push_old : (batch : ℕ) (packets : List Packet) (packet : Packet) → is_new packets packet ≡ false
    → kept_of batch (packets ++ packet ∷ []) ≡ kept_of batch packets
kept_of-push_old batch packets packet old =
    kept_of-push_if batch packets packet false old ∙ append-nil (kept_of batch packets)

-- and what is kept of other batches stays
pub kept_of-push_other : (batch : ℕ) (packets : List Packet) (packet : Packet) → (packet.batch == batch) ≡ false
    → kept_of batch (packets ++ packet ∷ []) ≡ kept_of batch packets
kept_of-push_other batch packets packet other = elim (cases_Bool (is_new packets packet)) [
  | inl new ↦
      let none : if_of batch true packet ≡ [] = rw other refl in
      kept_of-push_if batch packets packet true new ∙ ap (λ (ps : List Packet). kept_of batch packets ++ ps) none
      ∙ append-nil (kept_of batch packets)
  | inr old ↦ kept_of-push_old batch packets packet old
]

pub HasVector-size : (m t : ℕ) (packet : Packet) → IsSized m t packet → HasVector m packet
HasVector-size m t packet size = record { size = size.coefs; bytes = size.coef_bytes }

-- the vector of a packet that follows is a combination of the kept ones
pub combination-follows : (m t : ℕ) (kept : List Packet) (packet : Packet) → All (IsSized m t) kept → length packet.coefs ≡ m
    → length packet.payload ≡ t → Follows kept packet → IsCombination (coefs_of kept) packet.coefs
combination-follows m t kept packet sizes coefs payload follows =
    let rows : List (List ℕ) = map packet_row kept in
    let width : length (packet_row packet) ≡ m + t = omega (arith, length-append packet.coefs packet.payload, coefs, payload) in
    let whole : IsInSpan (m + t) rows (packet_row packet) = subst (λ (n : ℕ). IsInSpan n rows (packet_row packet)) width follows in
    let front : IsInSpan m (map (take m) rows) (take m (packet_row packet)) =
    take-IsInSpan (m + t) m rows (packet_row packet) (omega arith) whole in
    subst (λ (n : ℕ). IsInSpan n (coefs_of kept) packet.coefs) (sym coefs)
    (subst (IsInSpan m (coefs_of kept)) (take_at packet.coefs packet.payload m coefs)
    (subst (λ (vectors : List (List ℕ)). IsInSpan m vectors (take m (packet_row packet))) (take-packet_rows m t kept sizes) front))

module _ (m t : ℕ) (packets : List Packet) (packet : Packet) (sizes : All (IsSized m t) packets) (size : IsSized m t packet) where
  decides : Decides (is_new packets packet) (¬ IsCombination (coefs_of (kept_of packet.batch packets)) packet.coefs)
  decides =
      is_new-kept m packets packet (All-weaker (IsSized m t) (HasVector m) (HasVector-size m t) packets sizes)
      (HasVector-size m t packet size)

  stays : IsCombination (coefs_of (kept_of packet.batch packets)) packet.coefs
      → kept_of packet.batch (packets ++ packet ∷ []) ≡ kept_of packet.batch packets
  stays is = kept_of-push_old packet.batch packets packet (false_from_ne_true (is_new packets packet) (λ e. decides.0 e is))

  -- what is kept of the packet's batch is what its taking leaves
  pub kept_of-taken_sized : (taken : Taken) → IsTaken (kept_of packet.batch packets) packet taken
      → kept_of packet.batch (packets ++ packet ∷ []) ≡ kept_with (kept_of packet.batch packets) packet taken
  kept_of-taken_sized Kept is = kept_of-push_new packets packet (decides.1 is)
  kept_of-taken_sized Dependent is =
      stays (combination-follows m t (kept_of packet.batch packets) packet
      (All-kept_of (IsSized m t) packet.batch packets sizes) size.coefs size.payload is)
  kept_of-taken_sized Contradiction is = stays is.combination

-- and so for packets of a session's shape
pub kept_of-taken : (session : SessionData) (packets : List Packet) (packet : Packet) → All (HasShape session) packets → HasShape session packet
    → (taken : Taken) → IsTaken (kept_of packet.batch packets) packet taken
    → kept_of packet.batch (packets ++ packet ∷ []) ≡ kept_with (kept_of packet.batch packets) packet taken
kept_of-taken session packets packet shapes shape =
    kept_of-taken_sized session.m session.t packets packet
    (All-weaker (HasShape session) (IsSized session.m session.t) (IsSized-shape session) packets shapes) (IsSized-shape session packet shape)

-- a basis stands for one packet more once it was offered
pub StandsForBatch-taken : (packets : List Packet) (packet : Packet) (before after : BasisData) (taken : Taken) → IsSized before.m before.t packet
    → IsTaken before.kept packet taken → after ≡ record before { kept = kept_with before.kept packet taken }
    → StandsForBatch packet.batch packets before → StandsForBatch packet.batch (packets ++ packet ∷ []) after
StandsForBatch-taken packets packet before after taken size is same stands =
    let kept : kept_with before.kept packet taken ≡ kept_of packet.batch (packets ++ packet ∷ []) =
    ap (λ (ps : List Packet). kept_with ps packet taken) stands.kept
    ∙ sym (kept_of-taken_sized before.m before.t packets packet stands.sizes size taken
    (subst (λ (ps : List Packet). IsTaken ps packet taken) stands.kept is)) in
    subst (StandsForBatch packet.batch (packets ++ packet ∷ [])) (sym same)
    (record {
      sizes = All-push (IsSized before.m before.t) packets packet stands.sizes size;
      kept = kept;
    })

-- a basis that keeps nothing stands for no packets
pub StandsForBatch-none : (batch : ℕ) (basis : BasisData) → basis.kept ≡ [] → StandsForBatch batch [] basis
unfolding new_after
StandsForBatch-none batch basis none = record { sizes = All-nil (IsSized basis.m basis.t); kept = none }
