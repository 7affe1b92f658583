-- New packets, kept packets and packets that contradict these. Numbers are compared as they are: that coefficients and
-- payload are bytes is part of a packet's shape.
use Rattle.std.specs.Prelude.{ℕ, ◌≡◌, ◌<◌, ◌↔◌, ◌==◌, not, if◌then◌else◌, Bool, List, [], ◌∷◌, ◌++◌, map, filter, length, take, slice_get, Option, Some}
use Rattle.std.specs.List.{Contains}
use Rattle.std.specs.List.Sorted.{IsStrictlyIncreasing}
use Rattle.std.specs.Str.{bytes_eq}
use Rattle.gf_core.specs.Bytes.{some_bytes}
use Rattle.gf_core.specs.Combinations.{combination, IsInSpan}
use Rattle.bats_model.specs.declared.packet.Packet.{Packet}

-- ---- new packets

-- the vector is a combination of these vectors: there are factors, one byte for each, whose products sum to it
abbrev pub IsCombination : List (List ℕ) → List ℕ → Type 0
IsCombination vectors vector = IsInSpan (length vector) vectors vector

-- whether it is one, as a test: a search over all lists of factors, which says what is meant and is never run
abbrev pub is_combination : List (List ℕ) → List ℕ → Bool
is_combination vectors vector =
    some_bytes (length vectors) (λ factors. bytes_eq (combination (length vector) factors vectors) vector)

-- the packets of a batch, in order
abbrev pub packets_in : ℕ → List Packet → List Packet
packets_in batch packets = filter (λ packet. packet.batch == batch) packets

-- the coefficient vectors of packets
abbrev pub coefs_of : List Packet → List (List ℕ)
coefs_of packets = map (λ packet. packet.coefs) packets

-- the coefficient vectors of a batch's packets, in order
abbrev pub vectors_of : ℕ → List Packet → List (List ℕ)
vectors_of batch packets = coefs_of (packets_in batch packets)

-- whether the packet is new after the earlier ones: its vector is no combination of those of its batch
abbrev pub is_new : List Packet → Packet → Bool
is_new earlier packet = not (is_combination (vectors_of packet.batch earlier) packet.coefs)

-- the new ones among the packets, where the earlier ones came before them
unfoldable pub new_after : List Packet → List Packet → List Packet
new_after earlier [] = []
new_after earlier (packet ∷ packets) =
    (if is_new earlier packet then packet ∷ [] else []) ++ new_after (earlier ++ packet ∷ []) packets

-- ---- kept packets

-- the kept packets of a batch: its new ones, in their order, as they came
abbrev pub kept_of : ℕ → List Packet → List Packet
kept_of batch packets = packets_in batch (new_after [] packets)

-- how many packets of a list are kept
abbrev pub kept_count : List Packet → ℕ
kept_count packets = length (new_after [] packets)

-- the numbers are those of the batches that have a kept packet, rising
pub record AreHeld (packets : List Packet) (numbers : List ℕ) : Type 0 where
  pub rising : IsStrictlyIncreasing numbers
  pub held : (number : ℕ) → Contains numbers number ↔ 0 < length (kept_of number packets)

-- ---- contradictions

-- a packet as one row: its coefficients, and behind them its payload
abbrev pub packet_row : Packet → List ℕ
packet_row packet = packet.coefs ++ packet.payload

-- one list of factors gives the packet's vector and its payload
abbrev pub Follows : List Packet → Packet → Type 0
Follows kept packet = IsCombination (map packet_row kept) (packet_row packet)

-- the vector is a combination of those that are kept of its batch, which are independent, and the payload isn't the
-- same combination of theirs
pub record Contradicts (kept : List Packet) (packet : Packet) : Type 0 where
  pub combination : IsCombination (coefs_of kept) packet.coefs
  pub differs : ¬ Follows kept packet

-- some packet of the list contradicts the kept packets of its batch before it
pub record HasContradiction (packets : List Packet) : Type 0 where
  pub at : ℕ
  pub packet : Packet
  pub stands : slice_get packets at ≡ Some packet
  pub contradicts : Contradicts (kept_of packet.batch (take at packets)) packet
