-- The file agrees with each of its coded packets.
use Rattle.std.proofs.Common.{ℕ, ◌≡◌, ◌<◌, ◌∙◌, sym, ap, List, length, get_or, arith}
use Rattle.std.proofs.lemmas.List.FromFn.{get_or-map-range_with_len, length-map-range_with_len}
use Rattle.bats_model.specs.Session.{SessionData}
use Rattle.bats_model.specs.Batch.{BatchData, batch_of}
use Rattle.bats_model.specs.Coded.{coded_byte, coded_payload, unit_vector}
use Rattle.bats_model.specs.Agreement.{IsFile, Agrees}
use Rattle.bats_model.specs.declared.packet.Packet.{Packet}
use Rattle.bats_model.proofs.PlainAgreement.{combined_byte-unit}
use Rattle.bats_model.proofs.UnitVectors.{IsUnitAt, length-unit_vector}

pub length-coded_payload : (session : SessionData) (file : List ℕ) (batch : BatchData) (j : ℕ) → length (coded_payload session file batch j) ≡ session.t
unfolding coded_payload
length-coded_payload session file batch j = length-map-range_with_len (coded_byte session file batch j) 0 session.t

get_or-coded_payload : (session : SessionData) (file : List ℕ) (batch : BatchData) (j c : ℕ) → c < session.t
    → get_or (coded_payload session file batch j) c 0 ≡ coded_byte session file batch j c
unfolding coded_payload
get_or-coded_payload session file batch j c h =
    get_or-map-range_with_len (coded_byte session file batch j) 0 session.t c c 0 h (omega arith)

pub Agrees-coded : (session : SessionData) (file : List ℕ) (batch : BatchData) (j : ℕ) (packet : Packet) → IsFile session file
    → batch ≡ batch_of session batch.number → j < session.m → packet.batch ≡ batch.number
    → packet.coefs ≡ unit_vector session.m j → packet.payload ≡ coded_payload session file batch j
    → Agrees session file packet
Agrees-coded session file batch j packet f of_session column number coefs payload =
    let size : length packet.coefs ≡ session.m = ap (λ (v : List ℕ). length v) coefs ∙ length-unit_vector session.m j in
    let unit : IsUnitAt packet.coefs j = record {
      within = omega (arith, column, size);
      entries = coefs ∙ ap (λ (n : ℕ). unit_vector n j) (sym size);
    } in
    let same : batch ≡ batch_of session packet.batch = of_session ∙ ap (batch_of session) (sym number) in
    record {
      is_file = f;
      columns = λ c h.
          ap (λ (v : List ℕ). get_or v c 0) payload ∙ get_or-coded_payload session file batch j c h
          ∙ ap (λ (b : BatchData). coded_byte session file b j c) same
          ∙ sym (combined_byte-unit session file packet.batch packet.coefs j c unit size);
    }
