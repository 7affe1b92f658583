-- What the filling of a buffer leaves of a source.
use Rattle.std.specs.Prelude.{ℕ, ◌≡◌, ◌<◌, ◌≤◌, List, length, take, Option, Result, Ok, Err}
use Rattle.bats_io.specs.Faults.{Rose}
use Rattle.bats_io.specs.Streams.{InputState, IsTold, IsRead, IsEnded}
use Rattle.bats_io.specs.declared.failed.Failed.{Failed}
use Rattle.bats_model.specs.declared.read_end.ReadEnd.{ReadEnd}
use Rattle.bats_model.specs.declared.read_end.ReadEnd.TheVariants as ends

-- the next bytes, so many, stand at the front of the buffer, and where they don't fill it, the input has ended
pub record IsFilled (before after : InputState) (buffer : List ℕ) (count : ℕ) : Type 0 where
  pub within : count ≤ length buffer
  pub read : IsRead before.left after.left (take count buffer)
  pub end : count < length buffer → IsEnded after.left
  pub no_fault : after.faults ≡ before.faults

-- fewer bytes than this were read
pub record ReadsFewer (before after : Option (List ℕ)) (size : ℕ) : Type 0 where
  pub bytes : List ℕ
  pub read : IsRead before after bytes
  pub within : length bytes < size

-- a read failed, after fewer bytes than this
pub record FailsWithin (before after : InputState) (size : ℕ) : Type 0 where
  pub fault : Rose before.faults after.faults
  pub read : ReadsFewer before.left after.left size

-- a buffer was filled as far as the input goes, or a read failed
abbrev pub Fills : InputState → InputState → List ℕ → Result ℕ Failed → Type 0
Fills before after buffer (Ok count) = IsFilled before after buffer count
Fills before after buffer (Err _) = FailsWithin before after (length buffer)

-- the next bytes are the part's
pub record IsPart (before after : InputState) (part : List ℕ) : Type 0 where
  pub read : IsRead before.left after.left part
  pub no_fault : after.faults ≡ before.faults

-- the input had fewer bytes left than this, and they were read
pub record EndsWithin (before after : InputState) (size : ℕ) : Type 0 where
  pub left : List ℕ
  pub told : IsTold before.left left
  pub short : length left < size
  pub read : IsRead before.left after.left left
  pub no_fault : after.faults ≡ before.faults

-- a part of the record at this offset was filled, or the input ended in it, or a read failed
abbrev pub PartIsFilled : InputState → InputState → ℕ → List ℕ → Result (Unit {0}) ReadEnd → Type 0
PartIsFilled before after offset part (Ok _) = IsPart before after part
PartIsFilled before after offset part (Err ends.ReadFault) = FailsWithin before after (length part)
PartIsFilled before after offset part (Err (ends.Truncated at)) = (at ≡ offset) × EndsWithin before after (length part)
PartIsFilled before after offset part (Err _) = ⊥

pub record FillsPart (before after : InputState) (offset : ℕ) (part : List ℕ) (result : Result (Unit {0}) ReadEnd) : Type 0 where
  pub as_far : PartIsFilled before after offset part result
