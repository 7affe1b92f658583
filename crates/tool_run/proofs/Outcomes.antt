-- The end of a run, from what its command has done and what flushed and reported left.
use Rattle.std.proofs.Common.{ℕ, ◌≡◌, List, Result, Ok, Err, refl, sym, ◌∙◌, subst, inl, inr}
use Rattle.std.specs.Prelude.{string_bytes}
use Rattle.bats_io.specs.Faults.{Rose}
use Rattle.bats_io.specs.Streams.{OutputState}
use Rattle.tool_run.specs.declared.finish.Finish.{Finish}
use Rattle.tool_run.specs.declared.status.Status.{Status}
use Rattle.tool_run.specs.declared.status.Status.TheVariants as statuses
use Rattle.tool_run.specs.declared.stop.Stop.{Stop}
use Rattle.tool_run.specs.declared.stop.Stop.TheVariants as stops
use Rattle.tool_run.specs.Streams.{RunState, Counters, Ends}
use Rattle.tool_run.specs.Ending.{line_of}
use Rattle.tool_run.specs.Promise.{Promise, Keeps}
use Rattle.tool_run.specs.Run.{Reports, IsCutShort, HasRun, RunsBy, Finishes}
use Rattle.tool_run.specs.Concludes.{IsFlushed, IsNotFlushed, FlushesAndReports, Concludes}
use Rattle.tool_run.specs.Attempt.{Attempts, AttemptsAs, Completes, IsOfEnding}

-- the state before the run, and once the output was flushed
abbrev pub state : Ends → OutputState → Counters → RunState
state ends notes counters = record { input = ends.input; output = ends.output; notes = notes; counters = counters }

abbrev pub state_with : Ends → OutputState → OutputState → Counters → RunState
state_with ends output notes counters = record { input = ends.input; output = output; notes = notes; counters = counters }

-- what a run did, and what it reported of it
record Told (p : Promise) (i : List ℕ) (before after : RunState) (result : Status) : Type 0 where
  status : Status
  line : List ℕ
  has_run : HasRun p i before after status line
  reports : Reports before.notes after.notes line status result

-- the output was flushed, and the run did this; or its flush failed, and the run was cut short so after this part
flushed : (p : Promise) (i : List ℕ) (x y : Ends) (o n m : OutputState) (c d : Counters) (line part : List ℕ) (status result : Status)
    → (IsFlushed y.output o → HasRun p i (state x n c) (state_with y o m d) status line)
    → (IsNotFlushed y.output o → IsCutShort p i (state x n c) (state_with y o m d) stops.WriteFault part)
    → FlushesAndReports line status y.output o n m result
    → Told p i (state x n c) (state_with y o m d) result
flushed p i x y o n m c d line part status result good bad (inl (f, r)) =
    record { status = status; line = line; has_run = good f; reports = r }
flushed p i x y o n m c d line part status result good bad (inr (f, r)) = record {
  status = statuses.WriteFault;
  line = line_of stops.WriteFault;
  has_run = record { part = part; is_part = bad f; line_is = refl };
  reports = r;
}

-- the flush failed of an output that had not failed before
rose : (x y : Ends) (o : OutputState) → y.output.faults ≡ x.output.faults → IsNotFlushed y.output o → Rose x.output.faults o.faults
rose x y o e f = subst (λ (faults : ℕ). Rose faults o.faults) e f.faults

-- a run that finishes has the status of its ending
finished : (p : Promise) (i : List ℕ) (before after : RunState) (status : Status) (line : List ℕ) → IsOfEnding status
    → Finishes p i before after status line → HasRun p i before after status line
finished p i before after statuses.Done line o f = f
finished p i before after statuses.NeedMore line o f = f
finished p i before after statuses.Inconsistent line o f = f
finished p i before after statuses.Usage line o f = f
finished p i before after statuses.Input line o f = f
finished p i before after statuses.Limit line o f = f
finished p i before after statuses.ReadFault line o f = absurd o
finished p i before after statuses.WriteFault line o f = absurd o
finished p i before after statuses.Memory line o f = absurd o
finished p i before after statuses.Script line o f = f

finishes : (p : Promise) (i : List ℕ) (x y : Ends) (o n m : OutputState) (c d : Counters) (finish : Finish) → Completes p i x y c d finish
    → IsFlushed y.output o → Finishes p i (state x n c) (state_with y o m d) finish.status (string_bytes finish.line)
finishes p i x y o n m c d finish q f = record {
  ending = q.ending;
  is_ending = q.is_ending;
  status_is = q.status_is;
  line_is = q.line_is;
  read = q.read;
  input_fault = q.input_fault;
  worked = q.worked;
  output = record { written = f.written ∙ q.output; flushed = f.flushed; faults = f.faults ∙ q.output_fault };
}

-- each end of a command: the whole output of a right ending is a part, as the promise keeps
told : (p : Promise) → Keeps p → (i : List ℕ) (x y : Ends) (o n m : OutputState) (c d : Counters) (result : Result Finish Stop) (status : Status)
    → AttemptsAs p i x y c d result → Concludes result y.output o n m status → Told p i (state x n c) (state_with y o m d) status
told p keeps i x y o n m c d (Ok finish) status a r =
    flushed p i x y o n m c d (string_bytes finish.line) a.ending.output finish.status status
    (λ f. finished p i (state x n c) (state_with y o m d) finish.status (string_bytes finish.line) a.of_ending (finishes p i x y o n m c d finish a f))
    (λ f. (inl (a.input_fault, keeps.whole i a.ending a.is_ending), (f.written ∙ a.output, rose x y o a.output_fault f))) r
told p keeps i x y o n m c d (Err stops.ReadFault) status a r =
    flushed p i x y o n m c d (line_of stops.ReadFault) a.output.part statuses.ReadFault status
    (λ f. record {
      part = a.output.part;
      is_part = (
        (a.input_fault, a.output.is_part),
        record {
          written = f.written ∙ a.output.written;
          flushed = f.flushed;
          faults = f.faults ∙ a.output_fault;
        },
      );
      line_is = refl;
    })
    (λ f. (inr (a.input_fault, a.output.is_part), (f.written ∙ a.output.written, rose x y o a.output_fault f))) r
told p keeps i x y o n m c d (Err stops.Memory) status a r =
    flushed p i x y o n m c d (line_of stops.Memory) a.output.part statuses.Memory status
    (λ f. record {
      part = a.output.part;
      is_part = (
        (a.input_fault, a.output.is_part),
        record {
          written = f.written ∙ a.output.written;
          flushed = f.flushed;
          faults = f.faults ∙ a.output_fault;
        },
      );
      line_is = refl;
    })
    (λ f. (inl (a.input_fault, a.output.is_part), (f.written ∙ a.output.written, rose x y o a.output_fault f))) r
told p keeps i x y o n m c d (Err stops.WriteFault) status a r = record {
  status = statuses.WriteFault;
  line = line_of stops.WriteFault;
  has_run = record {
    part = a.output.part;
    is_part = subst (λ (z : OutputState). IsCutShort p i (state x n c) (state_with y z m d) stops.WriteFault a.output.part) (sym r.0)
        (inl (a.input_fault, a.output.is_part), (a.output.written, a.output_fault));
    line_is = refl;
  };
  reports = r.1;
}

-- a command that did what a promise asks, once concluded, is a run that keeps the promise
pub RunsBy-concluded : (p : Promise) → Keeps p → (x y : Ends) (o n m : OutputState) (c d : Counters) (result : Result Finish Stop) (status : Status)
    → Attempts p x y c d result → Concludes result y.output o n m status → RunsBy p (state x n c) (state_with y o m d) status
RunsBy-concluded p keeps x y o n m c d result status a r =
    let run = told p keeps a.input x y o n m c d result status a.as_far r in record {
      input = a.input;
      told = a.told;
      read = a.read;
      status = run.status;
      line = run.line;
      has_run = run.has_run;
      reports = run.reports;
    }
