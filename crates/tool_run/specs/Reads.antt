-- What the reading of a file leaves of the input.
use Rattle.std.specs.Prelude.{◌≡◌, ℕ, ◌+◌, ◌≤◌, List, ◌++◌, length, Vec, Result, Ok, Err}
use Rattle.std.specs.Global.{Global}
use Rattle.bats_io.specs.Faults.{Rose}
use Rattle.tool_run.specs.declared.stop.Stop.{Stop}
use Rattle.tool_run.specs.declared.stop.Stop.TheVariants as stops
use Rattle.bats_io.specs.Streams.{InputState, IsRead, IsEnded, ReadsAtMost}

-- these bytes were read: all that there were, where they are at most so many, else that many and one more
pub record ReadsUpTo (before after : InputState) (most : ℕ) (bytes : List ℕ) : Type 0 where
  pub read : IsRead before.left after.left bytes
  pub within : length bytes ≤ most + 1
  pub end : length bytes ≤ most → IsEnded after.left
  pub no_fault : after.faults ≡ before.faults

-- a read failed, of a file that was not too long so far
pub record FailsReading (before after : InputState) (most : ℕ) : Type 0 where
  pub fault : Rose before.faults after.faults
  pub read : ReadsAtMost before.left after.left most

-- memory ran out
pub record LacksMemoryReading (before after : InputState) (most : ℕ) : Type 0 where
  pub no_fault : after.faults ≡ before.faults
  pub read : ReadsAtMost before.left after.left most

-- the bytes were read, or a read failed, or memory ran out
abbrev pub Reads : InputState → InputState → ℕ → Result (Vec ℕ Global) Stop → Type 0
Reads before after most (Ok file) = ReadsUpTo before after most file.items
Reads before after most (Err stops.ReadFault) = FailsReading before after most
Reads before after most (Err stops.Memory) = LacksMemoryReading before after (most + 1)
Reads before after most (Err stops.WriteFault) = ⊥

-- one read: its bytes were appended to the file, and there are none only at the end
pub record ReadsSome (before after : InputState) (file : List ℕ) (file' : List ℕ) (room count : ℕ) : Type 0 where
  pub piece : List ℕ
  pub size : length piece ≡ count
  pub within : count ≤ room
  pub appended : file' ≡ file ++ piece
  pub read : IsRead before.left after.left piece
  pub end : count ≡ 0 → IsEnded after.left
  pub no_fault : after.faults ≡ before.faults

-- one read that failed took nothing
pub record TakesNothing (before after : InputState) : Type 0 where
  pub fault : Rose before.faults after.faults
  pub nothing : after.left ≡ before.left

-- one read, by what it answers
abbrev pub ReadsPiece : InputState → InputState → List ℕ → List ℕ → ℕ → Result ℕ Stop → Type 0
ReadsPiece before after file file' room (Ok count) = ReadsSome before after file file' room count
ReadsPiece before after file file' room (Err stops.ReadFault) = TakesNothing before after
ReadsPiece before after file file' room (Err stops.Memory) = LacksMemoryReading before after room
ReadsPiece before after file file' room (Err stops.WriteFault) = ⊥
