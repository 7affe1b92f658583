-- Packets with which the file agrees, as they go from hand to hand.
use Rattle.std.proofs.Common.{ℕ, ◌≡◌, ◌∙◌, sym, ap, subst, List, [], ◌∷◌, ◌++◌, length}
use Rattle.std.specs.Prelude.{All}
use Rattle.std.proofs.lemmas.List.Elements.{All-nil, All-push}
use Rattle.bats_model.specs.Session.{SessionData}
use Rattle.bats_model.specs.Agreement.{IsFile, Agrees, AgreesWithAll}
use Rattle.bats_model.specs.Kept.{kept_of}
use Rattle.bats_model.specs.declared.packet.Packet.{Packet}
use Rattle.bats_model.proofs.KeptAgreement.{kept-agreement}
use Rattle.bats_batch.specs.Held.{HeldData, kept_at}
use Rattle.bats_batch.specs.Held.{StandsFor as HoldsFor}
use Rattle.bats_decode.specs.Decoder.{DecoderData, StandsFor}
use Rattle.bats_checks.specs.InMemory.{HasTaken, HasReceived}

AgreesWithAll-none : (session : SessionData) (file : List ℕ) → IsFile session file → AgreesWithAll session [] file
AgreesWithAll-none session file is = record { is_file = is; each = All-nil (Agrees session file) }

AgreesWithAll-more : (session other : SessionData) (packets : List Packet) (packet : Packet) (file : List ℕ) → other ≡ session
    → Agrees session file packet → AgreesWithAll session packets file → AgreesWithAll other (packets ++ packet ∷ []) file
AgreesWithAll-more session other packets packet file same agrees all =
    subst (λ (s : SessionData). AgreesWithAll s (packets ++ packet ∷ []) file) (sym same)
    (record { is_file = all.is_file; each = All-push (Agrees session file) packets packet all.each agrees })

pub HasTaken-none : (file : List ℕ) (held : HeldData) → IsFile held.session file → HoldsFor [] held → HasTaken file held
HasTaken-none file held is stands =
    record { packets = []; stands = stands; agrees = AgreesWithAll-none held.session file is }

pub HasReceived-none : (file : List ℕ) (decoder : DecoderData) → IsFile decoder.held.session file → StandsFor [] decoder
    → HasReceived file decoder
HasReceived-none file decoder is stands =
    record { packets = []; stands = stands; agrees = AgreesWithAll-none decoder.held.session file is }

pub HasTaken-more : (file : List ℕ) (old new : HeldData) (packet : Packet) → new.session ≡ old.session
    → ((packets : List Packet) → HoldsFor packets old → HoldsFor (packets ++ packet ∷ []) new)
    → Agrees old.session file packet → HasTaken file old → HasTaken file new
HasTaken-more file old new packet same goes agrees taken = record {
  packets = taken.packets ++ packet ∷ [];
  stands = goes taken.packets taken.stands;
  agrees = AgreesWithAll-more old.session new.session taken.packets packet file same agrees taken.agrees;
}

pub HasReceived-more : (file : List ℕ) (old new : DecoderData) (packet : Packet) → new.held.session ≡ old.held.session
    → ((packets : List Packet) → StandsFor packets old → StandsFor (packets ++ packet ∷ []) new)
    → Agrees old.held.session file packet → HasReceived file old → HasReceived file new
HasReceived-more file old new packet same goes agrees received = record {
  packets = received.packets ++ packet ∷ [];
  stands = goes received.packets received.stands;
  agrees = AgreesWithAll-more old.held.session new.held.session received.packets packet file same agrees received.agrees;
}

-- the file agrees with what the relay keeps of a batch
pub kept-agrees : (file : List ℕ) (held : HeldData) (batch : ℕ) (taken : HasTaken file held)
    → AgreesWithAll held.session (kept_at held.batches batch) file
kept-agrees file held batch taken =
    subst (λ (kept : List Packet). AgreesWithAll held.session kept file) (sym (taken.stands.kept batch))
    (((kept-agreement held.session taken.packets file taken.stands.shapes).0 taken.agrees).0 batch)
