-- What a decoder stands for after one packet more, by what becomes of that packet.
use Rattle.std.proofs.Common.{ℕ, ◌≡◌, ◌≢◌, ◌<◌, ◌+◌, ◌-◌, ◌^◌, ◌∙◌, ◌↔◌, ◌⊎◌, ap, sym, subst, refl, true, List, All, [], ◌∷◌, ◌++◌, length, min, arith, inl, inr, Result, Ok, Err}
use Rattle.std.specs.Prelude.{IsErrAnd, ⊤}
use Rattle.std.proofs.lemmas.List.{length_push}
use Rattle.std.proofs.lemmas.List.Elements.{All-weaker}
use Rattle.bats_model.specs.PacketFile.{HasShape}
use Rattle.bats_model.specs.declared.packet.Packet.{Packet}
use Rattle.bats_model.specs.declared.taken.Taken.{Taken}
use Rattle.bats_model.specs.declared.taken.Taken.TheVariants.{Kept, Dependent, Contradiction}
use Rattle.bats_model.proofs.KeptSpans.{All-kept_of}
use Rattle.bats_batch.specs.Basis.{IsTaken, IsSized}
use Rattle.bats_batch.specs.Held.{HeldData, kept_at, row_count, max_kept}
use Rattle.bats_batch.specs.Offers.{Offers}
use Rattle.bats_batch.specs.declared.held.HeldEnd.{HeldEnd}
use Rattle.bats_batch.specs.Held.{StandsFor as HoldsFor}
use Rattle.bats_batch.proofs.KeptRows.{IsSized-shape}
use Rattle.bats_batch.proofs.KeptOfBatches.{combination-follows}
use Rattle.bats_batch.proofs.Contradictions.{contradictions-grow}
use Rattle.bats_decode.specs.Decoder.{DecoderData, StandsFor, Collects}
use Rattle.bats_decode.specs.steps.Received.{HasReceived}

-- ---- packets of which one thing alone can become

-- the kept packets of a batch have the sizes of the session
pub sizes-kept : (held : HeldData) → HasReceived held → (number : ℕ) → All (IsSized held.session.m held.session.t) (kept_at held.batches number)
sizes-kept held received number =
    let Sized : Packet → Type 0 = IsSized held.session.m held.session.t in
    subst (All Sized) (sym (received.stands.kept number))
    (All-kept_of Sized number received.packets
    (All-weaker (HasShape held.session) Sized (IsSized-shape held.session) received.packets received.stands.shapes))

-- what holds where a packet is kept holds where it is new
pub of-new : (P : Type 0) (m t : ℕ) (kept : List Packet) (packet : Packet) (taken : Taken) → All (IsSized m t) kept
    → length packet.coefs ≡ m → length packet.payload ≡ t → IsTaken kept packet taken → (taken ≡ Kept → P) → IsTaken kept packet Kept → P
of-new P m t kept packet Kept sizes coefs payload is holds fresh = holds refl
of-new P m t kept packet Dependent sizes coefs payload is holds fresh =
    absurd (fresh (combination-follows m t kept packet sizes coefs payload is))
of-new P m t kept packet Contradiction sizes coefs payload is holds fresh = absurd (fresh is.combination)

-- one that is taken otherwise doesn't contradict
no-contradiction : (kept : List Packet) (packet : Packet) (taken : Taken) → taken ≢ Contradiction → IsTaken kept packet taken
    → ¬ IsTaken kept packet Contradiction
no-contradiction kept packet Kept differs is contradicts = is contradicts.combination
no-contradiction kept packet Dependent differs is contradicts = contradicts.differs is
no-contradiction kept packet Contradiction differs is contradicts = differs refl

-- ---- one packet more

pub HasReceived-more : (old new : HeldData) (packet : Packet)
    → ((packets : List Packet) → HoldsFor packets old → HoldsFor (packets ++ packet ∷ []) new) → HasReceived old → HasReceived new
HasReceived-more old new packet goes received = record {
  packets = received.packets ++ packet ∷ [];
  stands = goes received.packets received.stands;
}

StandsFor-more : (packets : List Packet) (packet : Packet) (old new : DecoderData) → HoldsFor (packets ++ packet ∷ []) new.held
    → ((new.contradicted ≡ true) ↔ ((old.contradicted ≡ true) ⊎ IsTaken (kept_at old.held.batches packet.batch) packet Contradiction))
    → new.packets ≡ min (old.packets + 1) (2 ^ 64 - 1) → StandsFor packets old → StandsFor (packets ++ packet ∷ []) new
StandsFor-more packets packet old new holds tells counts stands =
    let grow = contradictions-grow packets packet old.held stands.holds in
    record {
      holds = holds;
      contradicted = (
        λ is. elim (tells.0 is) [
          | inl before ↦ grow.1 (inl (stands.contradicted.0 before))
          | inr now ↦ grow.1 (inr now)
        ],
        λ has. elim (grow.0 has) [
          | inl before ↦ tells.1 (inl (stands.contradicted.1 before))
          | inr now ↦ tells.1 (inr now)
        ],
      );
      counted = omega (arith, counts, stands.counted, length_push packets packet);
    }

-- where it contradicts, and where it is taken otherwise
pub StandsFor-contradicting : (packets : List Packet) (packet : Packet) (old new : DecoderData) (taken : Taken)
    → HoldsFor (packets ++ packet ∷ []) new.held → new.contradicted ≡ true → taken ≡ Contradiction
    → IsTaken (kept_at old.held.batches packet.batch) packet taken
    → new.packets ≡ min (old.packets + 1) (2 ^ 64 - 1) → StandsFor packets old → StandsFor (packets ++ packet ∷ []) new
StandsFor-contradicting packets packet old new taken holds told same is counts stands =
    let contradicts : IsTaken (kept_at old.held.batches packet.batch) packet Contradiction =
    subst (IsTaken (kept_at old.held.batches packet.batch) packet) same is in
    StandsFor-more packets packet old new holds (λ e. inr contradicts, λ either. told) counts stands

pub StandsFor-agreeing : (packets : List Packet) (packet : Packet) (old new : DecoderData) (taken : Taken)
    → HoldsFor (packets ++ packet ∷ []) new.held → new.contradicted ≡ old.contradicted → taken ≢ Contradiction
    → IsTaken (kept_at old.held.batches packet.batch) packet taken
    → new.packets ≡ min (old.packets + 1) (2 ^ 64 - 1) → StandsFor packets old → StandsFor (packets ++ packet ∷ []) new
StandsFor-agreeing packets packet old new taken holds told differs is counts stands =
    StandsFor-more packets packet old new holds (
      λ e. inl (sym told ∙ e),
      λ either. elim either [
        | inl before ↦ told ∙ before
        | inr contradicts ↦ absurd (no-contradiction (kept_at old.held.batches packet.batch) packet taken differs is contradicts)
      ],
    ) counts stands

-- ---- what came of the offer

-- where the packet was taken
pub Collects-taken : (old new : DecoderData) (packet : Packet) (taken : Taken) → HasReceived old.held
    → length packet.coefs ≡ old.held.session.m → length packet.payload ≡ old.held.session.t
    → Offers old.held new.held packet (Ok taken)
    → ((packets : List Packet) → StandsFor packets old → StandsFor (packets ++ packet ∷ []) new) → Collects old new packet (Ok tt)
Collects-taken old new packet taken received coefs payload offers goes =
    let kept : List Packet = kept_at old.held.batches packet.batch in
    record {
      session = offers.session;
      stands = goes;
      room = of-new (row_count old.held.batches < max_kept) old.held.session.m old.held.session.t kept packet taken
          (sizes-kept old.held received packet.batch) coefs payload offers.taken offers.room;
      full = tt;
      same = tt;
    }

-- where it was not
pub Collects-exit : (old : DecoderData) (held : HeldData) (packet : Packet) (r : Result ⊤ HeldEnd) (e : HeldEnd)
    → IsErrAnd r (λ y. y ≡ e) → Offers old.held held packet (Err e) → Collects old (record old { held = held }) packet r
Collects-exit old held packet (Ok x) e exit offers = absurd exit
Collects-exit old held packet (Err y) e exit offers = record {
  session = offers.session;
  stands = tt;
  room = tt;
  full = λ full. offers.full (sym exit ∙ full);
  same = ap (λ (h : HeldData). record old { held = h }) offers.same;
}
