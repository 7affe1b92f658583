-- Kept packets with their factors over the kept packets in place of their payloads.
use Rattle.std.specs.Prelude.{ℕ, suc, List, [], ◌∷◌}
use Rattle.bats_model.specs.Coded.{unit_vector}
use Rattle.bats_model.specs.declared.packet.Packet.{Packet}

-- the packet as number so many of the kept ones: it is 1 times itself, and 0 times the others
abbrev pub marked : ℕ → ℕ → Packet → Packet
marked m number packet = record packet { payload = unit_vector m number }

-- and the packets of a list, numbered from this number on
abbrev pub marked_from : ℕ → ℕ → List Packet → List Packet
marked_from m number [] = []
marked_from m number (packet ∷ packets) = marked m number packet ∷ marked_from m (suc number) packets
