-- A run that stops before it has read or written anything, since memory ran out: each command's promise allows it.
use Rattle.std.proofs.Common.{ℕ, ◌≡◌, List, [], Option, Err, refl, sym, inl, arith}
use Rattle.bats_io.specs.Streams.{ReadsAtMost}
use Rattle.bats_io.proofs.Appended.{appended-nil}
use Rattle.bats_io.proofs.ReadLemmas.{IsRead-nothing, told_or, IsTold-told_or}
use Rattle.tool_run.specs.declared.stop.Stop.TheVariants as stops
use Rattle.tool_run.specs.Streams.{Counters, Ends}
use Rattle.tool_run.specs.Ending.{Ending}
use Rattle.tool_run.specs.Promise.{Promise, takes_no_input, reads_nothing, reads_file}
use Rattle.tool_run.specs.Attempt.{Attempts}

-- the promise is kept by who reads and writes nothing
pub record MayStopAtOnce (promise : Promise) : Type 0 where
  pub reads : (left : Option (List ℕ)) → promise.reads left left
  pub partly : (input : List ℕ) → promise.partly input []

-- nothing was read
none_read : (most : ℕ) (left : Option (List ℕ)) → ReadsAtMost left left most
none_read most left = record { bytes = []; read = IsRead-nothing left; within = omega arith }

pub takes_no_input-at_once : (is_end : Ending → Type 0) → MayStopAtOnce (takes_no_input is_end)
takes_no_input-at_once is_end = record { reads = λ left. none_read 0 left; partly = λ input. inl refl }

pub reads_nothing-at_once : (end : Ending) → MayStopAtOnce (reads_nothing end)
reads_nothing-at_once end = takes_no_input-at_once (λ ending. ending ≡ end)

pub reads_file-at_once : (most : ℕ) (end_of : List ℕ → Ending) → MayStopAtOnce (reads_file most end_of)
reads_file-at_once most end_of = record { reads = λ left. none_read most left; partly = λ input. inl refl }

pub Attempts-at_once : (promise : Promise) (x : Ends) (given now : Counters) → MayStopAtOnce promise → Attempts promise x x given now (Err stops.Memory)
Attempts-at_once promise x given now may = record {
  input = told_or x.input.left [];
  told = IsTold-told_or x.input.left [];
  read = may.reads x.input.left;
  as_far = record {
    input_fault = refl;
    output = record { part = []; is_part = may.partly (told_or x.input.left []); written = sym (appended-nil x.output.written) };
    output_fault = refl;
  };
}
