-- The rows of outputs: their widths and bytes, and their factors.
use Rattle.std.proofs.Common.{ℕ, ◌≡◌, ◌<◌, ◌^◌, ◌∙◌, List, length, get_or, ap, refl, arith}
use Rattle.std.specs.Prelude.{All}
use Rattle.std.specs.List.{range_with_len}
use Rattle.std.proofs.lemmas.List.Elements.{All-map, All-weaker}
use Rattle.std.proofs.lemmas.List.FromFn.{length-map-range_with_len}
use Rattle.gf_core.specs.Bytes.{AreBytes}
use Rattle.gf_core.specs.Combinations.{combination}
use Rattle.gf_core.specs.Triangular.{AreRows}
use Rattle.gf_core.proofs.CombinationLemmas.{length-combination, combination-lt}
use Rattle.bats_model.specs.Session.{SessionData}
use Rattle.bats_model.specs.Key.{key_byte, relay_key}
use Rattle.bats_model.specs.Kept.{coefs_of}
use Rattle.bats_model.specs.PacketFile.{HasShape}
use Rattle.bats_model.specs.Relay.{mix_factors, payloads_of, relay_output}
use Rattle.bats_model.specs.declared.packet.Packet.{Packet}
use Rattle.bats_model.proofs.EachBatch.{key_byte-lt}
use Rattle.bats_model.proofs.KeptSpans.{HasVector}
use Rattle.bats_model.proofs.KeptSpans.{AreRows-coefs as AreRows-vectors}
use Rattle.bats_batch.specs.Basis.{IsSized}
use Rattle.bats_batch.proofs.KeptRows.{IsSized-shape}
use Rattle.bats_batch.proofs.KeptOfBatches.{HasVector-size}
use Rattle.bats_batch.proofs.PayloadSums.{AreRows-payloads}

-- ---- packets of some sizes

pub AreRows-coefs : (m t : ℕ) (packets : List Packet) → All (IsSized m t) packets → AreRows m (coefs_of packets)
AreRows-coefs m t packets sized =
    AreRows-vectors m packets (All-weaker (IsSized m t) (HasVector m) (HasVector-size m t) packets sized)

-- ---- factors and shapes

pub length-mix_factors : (seed : List ℕ) (batch number count : ℕ) → length (mix_factors seed batch number count) ≡ count
length-mix_factors seed batch number count = length-map-range_with_len (key_byte (relay_key seed batch number)) 0 count

pub mix_factors-lt : (seed : List ℕ) (batch number count : ℕ) → AreBytes (mix_factors seed batch number count)
mix_factors-lt seed batch number count =
    All-map (λ byte. byte < 256) (key_byte (relay_key seed batch number)) (range_with_len 0 count)
    (λ k d within. key_byte-lt (relay_key seed batch number) (get_or (range_with_len 0 count) k d))

-- a combination of the packets of a batch has the shape of the session
pub HasShape-mixed : (session : SessionData) (batch : ℕ) (factors : List ℕ) (packets : List Packet) (packet : Packet)
    → batch < 2 ^ 32 → All (IsSized session.m session.t) packets → packet.batch ≡ batch
    → packet.coefs ≡ combination session.m factors (coefs_of packets)
    → packet.payload ≡ combination session.t factors (payloads_of packets) → HasShape session packet
HasShape-mixed session batch factors packets packet range sized same coefs payload = record {
  batch = omega (arith, range, same);
  coefs = ap length coefs ∙ length-combination session.m factors (coefs_of packets);
  payload = ap length payload ∙ length-combination session.t factors (payloads_of packets);
  coef_bytes = rw coefs (combination-lt session.m factors (coefs_of packets) (AreRows-coefs session.m session.t packets sized).bytes);
  payload_bytes = rw payload (combination-lt session.t factors (payloads_of packets) (AreRows-payloads session.m session.t packets sized).bytes);
}

pub HasShape-output : (session : SessionData) (seed : List ℕ) (batch number : ℕ) (kept : List Packet) → batch < 2 ^ 32
    → All (HasShape session) kept → HasShape session (relay_output session seed batch number kept)
unfolding relay_output
HasShape-output session seed batch number kept range shapes =
    HasShape-mixed session batch (mix_factors seed batch number (length kept)) kept (relay_output session seed batch number kept) range
    (All-weaker (HasShape session) (IsSized session.m session.t) (IsSized-shape session) kept shapes) refl refl refl

pub batch-output : (session : SessionData) (seed : List ℕ) (batch number : ℕ) (kept : List Packet)
    → (relay_output session seed batch number kept).batch ≡ batch
unfolding relay_output
batch-output session seed batch number kept = refl
