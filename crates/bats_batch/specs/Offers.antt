-- What an offer of a packet does to held batches.
use Rattle.std.specs.Prelude.{ℕ, ◌≡◌, ◌≢◌, ◌<◌, ◌+◌, List, [], ◌∷◌, ◌++◌, length, min, Result, IfOk, IfErr, OnOk, OnErr}
use Rattle.bats_model.specs.declared.packet.Packet.{Packet}
use Rattle.bats_model.specs.declared.taken.Taken.{Taken}
use Rattle.bats_model.specs.declared.taken.Taken.TheVariants.{Kept}
use Rattle.bats_batch.specs.Basis.{IsTaken, kept_with}
use Rattle.bats_batch.specs.Held.{HeldData, StandsFor, kept_at, row_count, max_kept}
use Rattle.bats_batch.specs.declared.held.HeldEnd.{HeldEnd}
use Rattle.bats_batch.specs.declared.held.HeldEnd.TheVariants.{Full}

-- A packet was offered, and this came of it. Where it was taken, it is what its batch's kept packets say, is kept where it is
-- new and there is room, and other batches are as before; so what is held stands for one packet more. It is `Full` only where
-- it is new and there is no room, and with any error what is held is as before.
pub record Offers (before after : HeldData) (packet : Packet) (result : Result Taken HeldEnd) : Type 0 where
  pub session : after.session ≡ before.session
  pub taken : IfOk result (IsTaken (kept_at before.batches packet.batch) packet)
  pub kept : IfOk result (λ taken.
      kept_at after.batches packet.batch ≡ kept_with (kept_at before.batches packet.batch) packet taken)
  pub others : OnOk result ((number : ℕ) → number ≢ packet.batch
      → kept_at after.batches number ≡ kept_at before.batches number)
  pub stands : OnOk result ((packets : List Packet) → StandsFor packets before → StandsFor (packets ++ packet ∷ []) after)
  pub room : IfOk result (λ taken. taken ≡ Kept → row_count before.batches < max_kept)
  pub full : IfErr result (λ e. e ≡ Full → ((row_count before.batches ≡ max_kept)
      × IsTaken (kept_at before.batches packet.batch) packet Kept))
  pub same : OnErr result (after ≡ before)

-- operations on each counter, at most: one for each kept packet of its batch and one more, and never more than a packet has
-- coefficients
abbrev pub offer_cost : HeldData → Packet → ℕ
offer_cost held packet = min held.session.m (length (kept_at held.batches packet.batch) + 1)
