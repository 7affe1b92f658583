-- What a part of a run leaves of the output.
use Rattle.std.specs.Prelude.{◌≡◌, ℕ, List, Option, None, Some}
use Rattle.bats_io.specs.Faults.{Rose}
use Rattle.bats_io.specs.Sink.{Appends, AppendsPrefix}
use Rattle.bats_io.specs.Streams.{OutputState}
use Rattle.tool_run.specs.declared.stop.Stop.{Stop}
use Rattle.tool_run.specs.declared.stop.Stop.TheVariants as stops

-- With no error the bytes were appended. Else a prefix of them was, and a write failed or memory ran out.
abbrev pub AppendsAsFar : OutputState → OutputState → List ℕ → Option Stop → Type 0
AppendsAsFar before after bytes None = Appends before.written after.written bytes × (after.faults ≡ before.faults)
AppendsAsFar before after bytes (Some stops.WriteFault) =
    AppendsPrefix before.written after.written bytes × Rose before.faults after.faults
AppendsAsFar before after bytes (Some stops.Memory) =
    AppendsPrefix before.written after.written bytes × (after.faults ≡ before.faults)
AppendsAsFar before after bytes (Some stops.ReadFault) = ⊥

-- the output before and after a call that writes these bytes
pub record Writes (before after : OutputState) (bytes : List ℕ) (stop : Option Stop) : Type 0 where
  pub as_far : AppendsAsFar before after bytes stop
