-- How far kept packets are mixed.
use Rattle.std.specs.Prelude.{ℕ, ◌≡◌, ◌≤◌, List, All, length, take}
use Rattle.gf_core.specs.Combinations.{combination}
use Rattle.bats_model.specs.declared.packet.Packet.{Packet}
use Rattle.bats_model.specs.Kept.{coefs_of}
use Rattle.bats_model.specs.Relay.{payloads_of}
use Rattle.bats_batch.specs.Basis.{IsSized}

-- the two rows are the sum of the first kept packets, so many, each times its factor
pub record IsMixed (m t : ℕ) (kept : List Packet) (factors : List ℕ) (count : ℕ) (coefs payload : List ℕ) : Type 0 where
  pub within : count ≤ length kept
  pub sized : All (IsSized m t) (take count kept)
  pub coefs_mixed : coefs ≡ combination m (take count factors) (coefs_of (take count kept))
  pub payload_mixed : payload ≡ combination t (take count factors) (payloads_of (take count kept))
