-- What a decoder holds, and which received packets it stands for.
use Rattle.std.specs.Prelude.{ℕ, ◌≡◌, ◌↔◌, ◌<◌, ◌-◌, ◌^◌, ◌∷◌, ◌++◌, [], Bool, true, ⊤, List, length, min, Result, IfErr, OnOk, OnErr}
use Rattle.bats_model.specs.Kept.{HasContradiction}
use Rattle.bats_model.specs.declared.packet.Packet.{Packet}
use Rattle.bats_model.specs.declared.taken.Taken.TheVariants.{Kept}
use Rattle.bats_batch.specs.Basis.{IsTaken}
use Rattle.bats_batch.specs.Held.{HeldData, kept_at, row_count, max_kept}
use Rattle.bats_batch.specs.Held.{StandsFor as HoldsFor}
use Rattle.bats_batch.specs.declared.held.HeldEnd.{HeldEnd}
use Rattle.bats_batch.specs.declared.held.HeldEnd.TheVariants.{Full}

-- the held batches, whether some packet contradicted those kept before it, and how many packets were received
pub record DecoderData : Type 0 where
  pub held : HeldData
  pub contradicted : Bool
  pub packets : ℕ

-- the decoder stands for these received packets: its held batches do, it knows whether some packet contradicts, and their
-- number is counted up to the last u64
pub record StandsFor (packets : List Packet) (decoder : DecoderData) : Type 0 where
  pub holds : HoldsFor packets decoder.held
  pub contradicted : (decoder.contradicted ≡ true) ↔ HasContradiction packets
  pub counted : decoder.packets ≡ min (length packets) (2 ^ 64 - 1)

-- A packet was offered to the decoder, and this came of it. Where it was taken, the decoder stands for one packet more; a new
-- packet is taken only where there is room. It is `Full` only where it is new and there is no room, and with any error the
-- decoder is as before.
pub record Collects (before after : DecoderData) (packet : Packet) (result : Result ⊤ HeldEnd) : Type 0 where
  pub session : after.held.session ≡ before.held.session
  pub stands : OnOk result ((packets : List Packet) → StandsFor packets before → StandsFor (packets ++ packet ∷ []) after)
  pub room : OnOk result (IsTaken (kept_at before.held.batches packet.batch) packet Kept
      → row_count before.held.batches < max_kept)
  pub full : IfErr result (λ e. e ≡ Full → ((row_count before.held.batches ≡ max_kept)
      × IsTaken (kept_at before.held.batches packet.batch) packet Kept))
  pub same : OnErr result (after ≡ before)
