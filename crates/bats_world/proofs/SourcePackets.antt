-- The source's packet, by its parts.
use Rattle.std.proofs.Common.{ℕ, ◌≡◌, ◌∙◌, sym, ap, List}
use Rattle.bats_model.specs.Session.{SessionData}
use Rattle.bats_model.specs.Batch.{BatchData, batch_of}
use Rattle.bats_model.specs.Coded.{coded_payload, unit_vector}
use Rattle.bats_model.specs.declared.packet.Packet.{Packet}
use Rattle.bats_model.proofs.SystematicBatches.{number-batch_of}
use Rattle.bats_world.specs.World.{source_packet}

-- the batch that the encoder is given is the session's
pub batch-own : (session other : SessionData) (number : ℕ) (batch : BatchData) → other ≡ session → batch ≡ batch_of session number
    → batch ≡ batch_of other batch.number
batch-own session other number batch same is =
    let numbers : batch.number ≡ number = ap (λ (b : BatchData). b.number) is ∙ number-batch_of session number in
    is ∙ (ap (λ (s : SessionData). batch_of s number) (sym same) ∙ ap (batch_of other) (sym numbers))

pub is-source_packet : (session other : SessionData) (file : List ℕ) (number column : ℕ) (batch : BatchData) (packet : Packet)
    → other ≡ session → batch ≡ batch_of session number → packet.batch ≡ batch.number → packet.coefs ≡ unit_vector other.m column
    → packet.payload ≡ coded_payload other file batch column → packet ≡ source_packet session file number column
is-source_packet session other file number column batch packet same is of coefs payload =
    let number_is : packet.batch ≡ number = of ∙ (ap (λ (b : BatchData). b.number) is ∙ number-batch_of session number) in
    let coefs_are : packet.coefs ≡ unit_vector session.m column = coefs ∙ ap (λ (s : SessionData). unit_vector s.m column) same in
    let payload_is : packet.payload ≡ coded_payload session file (batch_of session number) column =
    payload ∙ (ap (λ (s : SessionData). coded_payload s file batch column) same ∙ ap (λ (b : BatchData). coded_payload session file b column) is) in
    λ i. record { batch = number_is i; coefs = coefs_are i; payload = payload_is i }
