-- What stands in the slots of the held batches, and what an offer does to them.
use Rattle.std.specs.Prelude.{ℕ, ◌≡◌, ◌≢◌, ◌<◌, ◌≤◌, ◌+◌, Bool, IsTrue, IsFalse, List, All, map, length, Result, IfOk, IfErr, OnErr}
use Rattle.bats_model.specs.Session.{SessionData}
use Rattle.bats_model.specs.declared.packet.Packet.{Packet}
use Rattle.bats_model.specs.declared.taken.Taken.{Taken}
use Rattle.bats_model.specs.declared.taken.Taken.TheVariants.{Kept, Dependent, Contradiction}
use Rattle.bats_batch.specs.Basis.{IsTaken, kept_with}
use Rattle.bats_batch.specs.Held.{HeldBatch, kept_at, row_count, batch_at, HaveRisingNumbers, max_kept}
use Rattle.bats_batch.specs.Offers.{offer_cost}
use Rattle.bats_batch.specs.declared.held.HeldEnd.{HeldEnd}
use Rattle.bats_batch.specs.declared.held.HeldEnd.TheVariants.{Full}
use Rattle.bats_batch.specs.declared.slot.Slot.{Slot}

-- the held batch of a slot
abbrev pub batch_in : Slot → HeldBatch
batch_in slot = record { number = slot.number; kept = slot.basis.kept }

-- and of each slot
abbrev pub batches_in : List Slot → List HeldBatch
batches_in slots = map batch_in slots

-- the kept packets are of this batch
abbrev pub AreOf : ℕ → List Packet → Type 0
AreOf number packets = All (λ packet. packet.batch ≡ number) packets

-- the slot's basis is one of the session, and has kept packets, of the slot's batch alone
pub record IsSlot (session : SessionData) (slot : Slot) : Type 0 where
  pub m : slot.basis.m ≡ session.m
  pub t : slot.basis.t ≡ session.t
  pub some : 0 < length slot.basis.kept
  pub own : AreOf slot.number slot.basis.kept

-- each slot is one of the session, and the numbers rise
pub record AreSlots (session : SessionData) (slots : List Slot) : Type 0 where
  pub each : All (IsSlot session) slots
  pub rising : HaveRisingNumbers (batches_in slots)

-- so many packets are kept in the slots, and not too many
pub record AreWithin (session : SessionData) (slots : List Slot) (rows : ℕ) : Type 0 where
  pub are : AreSlots session slots
  pub count : rows ≡ row_count (batches_in slots)
  pub limit : rows ≤ max_kept

-- the batch with this number stands at the place
pub record StandsAt (batches : List HeldBatch) (number place : ℕ) : Type 0 where
  pub within : place < length batches
  pub same : (batch_at batches place).number ≡ number

-- the batch with this number isn't held, and would stand at the place
pub record BelongsAt (batches : List HeldBatch) (number place : ℕ) : Type 0 where
  pub within : place ≤ length batches
  pub before : (k : ℕ) → k < place → (batch_at batches k).number < number
  pub behind : (k : ℕ) → place ≤ k → k < length batches → number < (batch_at batches k).number

-- how many packets more are kept
abbrev pub gain_of : Taken → ℕ
gain_of Kept = 1
gain_of Dependent = 0
gain_of Contradiction = 0

-- a packet was offered to the slots, and became what its batch's kept packets say. Other batches are as before
pub record Takes (session : SessionData) (old new : List Slot) (packet : Packet) (taken : Taken) : Type 0 where
  pub slots : AreSlots session new
  pub is : IsTaken (kept_at (batches_in old) packet.batch) packet taken
  pub here : kept_at (batches_in new) packet.batch ≡ kept_with (kept_at (batches_in old) packet.batch) packet taken
  pub elsewhere : (number : ℕ) → number ≢ packet.batch
      → kept_at (batches_in new) number ≡ kept_at (batches_in old) number
  pub gain : row_count (batches_in new) ≡ row_count (batches_in old) + gain_of taken

-- and this came of the offer: it is kept only where there is room for one more, `Full` only where it is new and there is none,
-- and with any error the slots are as before
pub record OffersTo (session : SessionData) (old new : List Slot) (has_room : Bool) (packet : Packet)
    (result : Result Taken HeldEnd) : Type 0 where
  pub takes : IfOk result (Takes session old new packet)
  pub room : IfOk result (λ taken. taken ≡ Kept → IsTrue has_room)
  pub full : IfErr result (λ e. e ≡ Full
      → (IsFalse has_room × IsTaken (kept_at (batches_in old) packet.batch) packet Kept))
  pub same : OnErr result (new ≡ old)

-- what the offer may cost on each counter
abbrev pub slots_cost : SessionData → List Slot → Packet → ℕ
slots_cost session slots packet = offer_cost (record { session = session; batches = batches_in slots }) packet
