-- Words that are no command.
use Rattle.std.proofs.Common.{◌≡◌, [], Result, Ok, refl, sym, subst, inl, arith}
use Rattle.std.specs.Prelude.{string_bytes}
use Rattle.std.specs.Result.{IsErrAnd}
use Rattle.bats_io.specs.Streams.{ReadsAtMost}
use Rattle.bats_io.proofs.Appended.{appended-nil}
use Rattle.bats_io.proofs.ReadLemmas.{IsRead-nothing, told_or, IsTold-told_or}
use Rattle.tool_run.specs.declared.finish.Finish.{Finish}
use Rattle.tool_run.specs.declared.status.Status.TheVariants as statuses
use Rattle.tool_run.specs.declared.stop.Stop.{Stop}
use Rattle.tool_run.specs.declared.stop.Stop.TheVariants as stops
use Rattle.tool_run.specs.Streams.{Ends}
use Rattle.tool_run.specs.Promise.{reads_nothing}
use Rattle.tool_run.specs.Attempt.{AttemptsUncounted, IsOfEnding}
use Rattle.tool_run.proofs.Attempts.{AttemptsUncounted-exit}
use Rattle.bats_tool.specs.Promises.{usage_ending}

-- nothing was read
none_read : (x : Ends) → ReadsAtMost x.input.left x.input.left 0
none_read x = record { bytes = []; read = IsRead-nothing x.input.left; within = omega arith }

pub Attempts-usage : (x : Ends) (finish : Finish) → finish.status ≡ statuses.Usage → string_bytes finish.line ≡ usage_ending.line
    → AttemptsUncounted (reads_nothing usage_ending) x x (Ok finish)
Attempts-usage x finish status line = λ c d. record {
  input = told_or x.input.left [];
  told = IsTold-told_or x.input.left [];
  read = none_read x;
  as_far = record {
    ending = usage_ending;
    is_ending = refl;
    status_is = status;
    of_ending = subst IsOfEnding (sym status) tt;
    line_is = line;
    read = refl;
    worked = tt;
    input_fault = refl;
    output = sym (appended-nil x.output.written);
    output_fault = refl;
  };
}

-- memory ran out at the notes line
pub Attempts-no_line : (x : Ends) (r : Result Finish Stop) → IsErrAnd r (λ y. y ≡ stops.Memory) → AttemptsUncounted (reads_nothing usage_ending) x x r
Attempts-no_line x r is =
    AttemptsUncounted-exit (reads_nothing usage_ending) x x stops.Memory r is (λ c d. record {
      input = told_or x.input.left [];
      told = IsTold-told_or x.input.left [];
      read = none_read x;
      as_far = record {
        input_fault = refl;
        output = record { part = []; is_part = inl refl; written = sym (appended-nil x.output.written) };
        output_fault = refl;
      };
    })
