-- What a basis holds, and what becomes of a packet that is offered to it.
use Rattle.std.specs.Prelude.{ℕ, ◌≡◌, List, All, [], ◌∷◌, ◌++◌, map, length}
use Rattle.gf_core.specs.Bytes.{AreBytes}
use Rattle.bats_model.specs.declared.packet.Packet.{Packet}
use Rattle.bats_model.specs.declared.taken.Taken.{Taken}
use Rattle.bats_model.specs.declared.taken.Taken.TheVariants.{Kept, Dependent, Contradiction}
use Rattle.bats_model.specs.Kept.{IsCombination, Follows, Contradicts, kept_of}

-- how many coefficients and payload bytes a packet has, and the kept packets in order
pub record BasisData : Type 0 where
  pub m : ℕ
  pub t : ℕ
  pub kept : List Packet

-- what becomes of a packet, given the packets that are kept: it is new, it follows from them, or it contradicts them
abbrev pub IsTaken : List Packet → Packet → Taken → Type 0
IsTaken kept packet Kept = ¬ IsCombination (map (λ other. other.coefs) kept) packet.coefs
IsTaken kept packet Dependent = Follows kept packet
IsTaken kept packet Contradiction = Contradicts kept packet

-- the packets that are kept after it
abbrev pub kept_with : List Packet → Packet → Taken → List Packet
kept_with kept packet Kept = kept ++ packet ∷ []
kept_with kept packet Dependent = kept
kept_with kept packet Contradiction = kept

-- the packet has m coefficients and t payload bytes
pub record IsSized (m t : ℕ) (packet : Packet) : Type 0 where
  pub coefs : length packet.coefs ≡ m
  pub payload : length packet.payload ≡ t
  pub coef_bytes : AreBytes packet.coefs
  pub payload_bytes : AreBytes packet.payload

-- the packets are of the basis's sizes, and its kept ones are the new ones among those of this batch
pub record StandsForBatch (batch : ℕ) (packets : List Packet) (basis : BasisData) : Type 0 where
  pub sizes : All (IsSized basis.m basis.t) packets
  pub kept : basis.kept ≡ kept_of batch packets
