-- Parts of a certificate that were written.
use Rattle.std.specs.Prelude.{ℕ, ◌≡◌, ◌<◌, false, List, length, Result, Ok, Err}
use Rattle.bats_io.specs.Faults.{Rose}
use Rattle.bats_io.specs.Sink.{Appends, AppendsPrefix}
use Rattle.bats_io.specs.Streams.{OutputState}
use Rattle.bats_format.specs.declared.writing.WriteFault.{WriteFault}

-- these bytes were written
pub record HasWritten (before after : OutputState) (bytes : List ℕ) : Type 0 where
  pub appended : Appends before.written after.written bytes
  pub unflushed : 0 < length bytes → after.flushed ≡ false
  pub still_unflushed : before.flushed ≡ false → after.flushed ≡ false
  pub no_fault : after.faults ≡ before.faults

-- a write of them failed
pub record HasFailed (before after : OutputState) (bytes : List ℕ) : Type 0 where
  pub fault : Rose before.faults after.faults
  pub prefix : AppendsPrefix before.written after.written bytes

abbrev pub WritesAsFar : OutputState → OutputState → List ℕ → Result (Unit {0}) WriteFault → Type 0
WritesAsFar before after bytes (Ok _) = HasWritten before after bytes
WritesAsFar before after bytes (Err _) = HasFailed before after bytes

-- the bytes were written, or a write of them failed
pub record Writes (before after : OutputState) (bytes : List ℕ) (result : Result (Unit {0}) WriteFault) : Type 0 where
  pub as_far : WritesAsFar before after bytes result
