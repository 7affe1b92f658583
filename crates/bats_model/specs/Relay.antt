-- What a relay sends of a batch: sums of the kept packets, each times a byte of the relay's key.
use Rattle.std.specs.Prelude.{ℕ, zero, suc, ◌≡◌, ◌<◌, ◌⊎◌, List, All, length, map}
use Rattle.std.specs.List.{range_with_len, Contains}
use Rattle.gf_core.specs.Combinations.{combination}
use Rattle.bats_model.specs.Session.{SessionData}
use Rattle.bats_model.specs.Key.{relay_key, key_byte}
use Rattle.bats_model.specs.Kept.{coefs_of, kept_of}
use Rattle.bats_model.specs.declared.packet.Packet.{Packet}

-- the first `count` bytes of the words of a relay's key for an output of a batch
abbrev pub mix_factors : List ℕ → ℕ → ℕ → ℕ → List ℕ
mix_factors seed batch number count = map (λ i. key_byte (relay_key seed batch number) i) (range_with_len 0 count)

-- the payloads of packets
abbrev pub payloads_of : List Packet → List (List ℕ)
payloads_of packets = map (λ packet. packet.payload) packets

-- the sum of packets of a batch, each times its factor, coefficients and payload alike
abbrev pub mixed : SessionData → ℕ → List ℕ → List Packet → Packet
mixed session batch factors packets = record {
  batch = batch;
  coefs = combination session.m factors (coefs_of packets);
  payload = combination session.t factors (payloads_of packets);
}

-- an output of the relay with this seed for a batch with these kept packets: their sum, the i-th times byte i of the
-- words of the relay's key for the batch and the output's number. The outputs of a batch are numbered from 0 on.
unfoldable pub relay_output : SessionData → List ℕ → ℕ → ℕ → List Packet → Packet
relay_output session seed batch number kept = mixed session batch (mix_factors seed batch number (length kept)) kept

-- so many outputs, one after another, from this number on
abbrev pub relay_outputs : SessionData → List ℕ → ℕ → ℕ → ℕ → List Packet → List Packet
relay_outputs session seed batch first count kept =
    map (λ number. relay_output session seed batch number kept) (range_with_len first count)

-- the packet is an output of some relay that took these packets, for a batch that it holds
pub record IsOutputOf (session : SessionData) (packets : List Packet) (packet : Packet) : Type 0 where
  pub seed : List ℕ
  pub number : ℕ
  pub held : 0 < length (kept_of packet.batch packets)
  pub is_output : packet ≡ relay_output session seed packet.batch number (kept_of packet.batch packets)

-- the packet is one of those that were sent, or an output of a relay that took such packets, over at most so many relays
-- one behind another. Each of them may have lost packets, and taken them in any order and any number of times.
abbrev pub IsRelayed : SessionData → List Packet → ℕ → Packet → Type 0
IsRelayed session sent zero packet = Contains sent packet
IsRelayed session sent (suc relays) packet = IsRelayed session sent relays packet
    ⊎ ((packets : List Packet) × All (IsRelayed session sent relays) packets × IsOutputOf session packets packet)
