-- The record of a packet, as it is read.
use Rattle.std.proofs.Common.{◌≡◌, ℕ, ◌+◌, ◌<◌, ◌≤◌, ◌^◌, List, [], ◌∷◌, ◌++◌, length, take, drop, get_or, slice_index, sym, ap, ◌∙◌, append_assoc, length-take, length-drop, arith}
use Rattle.std.proofs.Math.Seq.{drop-cons}
use Rattle.std.proofs.lemmas.List.{take-append-drop, drop-drop, take_all}
use Rattle.std.proofs.lemmas.Nat.{be_bytes_4}
use Rattle.std.specs.Int.{w32, to_be_bytes, from_be_bytes}
use Rattle.gf_core.specs.Bytes.{AreBytes}
use Rattle.bats_model.specs.Session.{SessionData}
use Rattle.bats_model.specs.Records.{packet_record, packet_tag}
use Rattle.bats_model.specs.declared.packet.Packet.{Packet}
use Rattle.bats_format.proofs.Headers.{small-drop, small-take}
use Rattle.bats_cert.specs.steps.Taken.{IsPacketOf}

-- the four bytes behind the tag
pub batch-bytes : (written : List ℕ) (number : ℕ) → 5 ≤ length written → ((i : ℕ) → get_or written i 0 < 256)
    → number ≡ from_be_bytes w32 (take 4 (drop 1 written)) → to_be_bytes w32 number ≡ take 4 (drop 1 written)
batch-bytes written number long small is =
    be_bytes_4 (take 4 (drop 1 written)) number (omega (arith, length-take {A = ℕ}, length-drop {A = ℕ}, long))
    (small-take 4 (drop 1 written) (small-drop 1 written small)) is

-- a record is its tag, its number, its coefficients and its payload
parts : (m : ℕ) (written batch coefs payload : List ℕ) → 5 + m ≤ length written → slice_index written 0 ≡ packet_tag → batch ≡ take 4 (drop 1 written)
    → coefs ≡ take m (drop 5 written) → payload ≡ drop (5 + m) written → packet_tag ∷ [] ++ batch ++ coefs ++ payload ≡ written
parts m written batch coefs payload long tag number front rest =
    let zero_on : drop 0 written ≡ get_or written 0 0 ∷ drop 1 written = drop-cons written 0 0 (omega (arith, long)) in
    let four = take-append-drop 4 (drop 1 written) in
    let past : drop 4 (drop 1 written) ≡ drop 5 written = drop-drop 4 1 written in
    let middle = take-append-drop m (drop 5 written) in
    let behind : drop m (drop 5 written) ≡ drop (5 + m) written = drop-drop m 5 written in
    rw (number, front, rest)
    (append_assoc (packet_tag ∷ [] ++ take 4 (drop 1 written)) (take m (drop 5 written)) (drop (5 + m) written)
    ∙ ap (λ (l : List ℕ). (packet_tag ∷ [] ++ take 4 (drop 1 written)) ++ (take m (drop 5 written) ++ l)) (sym behind)
    ∙ ap (λ (l : List ℕ). (packet_tag ∷ [] ++ take 4 (drop 1 written)) ++ l) middle
    ∙ ap (λ (l : List ℕ). packet_tag ∷ (take 4 (drop 1 written) ++ l)) (sym past)
    ∙ ap (λ (l : List ℕ). packet_tag ∷ l) four
    ∙ ap (λ (n : ℕ). n ∷ drop 1 written) (sym tag)
    ∙ sym zero_on)

pub packet-of_parts : (session : SessionData) (written : List ℕ) (packet : Packet) (count place more : ℕ) → length written ≡ 5 + session.m + session.t
    → slice_index written 0 ≡ packet_tag → packet.batch < 2 ^ 32 → to_be_bytes w32 packet.batch ≡ take 4 (drop 1 written)
    → packet.coefs ≡ take count (drop 5 written) → packet.payload ≡ take more (drop place written) → AreBytes packet.coefs → AreBytes packet.payload
    → count ≡ session.m → place ≡ 5 + session.m → length written ≤ place + more → IsPacketOf session written packet
unfolding packet_record
packet-of_parts session written packet count place more long tag few number coefs payload coef_bytes payload_bytes counts places enough =
    let front : packet.coefs ≡ take session.m (drop 5 written) = coefs ∙ ap (λ (n : ℕ). take n (drop 5 written)) counts in
    let rest : packet.payload ≡ drop (5 + session.m) written = payload ∙ take_all more (drop place written) (omega (arith, length-drop {A = ℕ}, enough)) ∙ ap (λ (n : ℕ). drop n written) places in
    record {
      shape = record {
        batch = few;
        coefs = ap length front ∙ omega (arith, length-take {A = ℕ}, length-drop {A = ℕ}, long);
        payload = ap length rest ∙ omega (arith, length-drop {A = ℕ}, long);
        coef_bytes = coef_bytes;
        payload_bytes = payload_bytes;
      };
      bytes = parts session.m written (to_be_bytes w32 packet.batch) packet.coefs packet.payload (omega (arith, long)) tag number front rest;
    }
