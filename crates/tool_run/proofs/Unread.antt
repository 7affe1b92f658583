-- The run of a command that reads nothing, from what it wrote of the output of an ending.
use Rattle.std.proofs.Common.{◌≡◌, [], take, Some, None, Result, Ok, Err, refl, sym, subst}
use Rattle.std.specs.Prelude.{string_bytes}
use Rattle.std.specs.Result.{IsErrAnd}
use Rattle.bats_io.specs.Streams.{InputState, OutputState}
use Rattle.bats_io.proofs.ReadLemmas.{told_or, IsTold-told_or}
use Rattle.tool_run.specs.declared.finish.Finish.{Finish}
use Rattle.tool_run.specs.declared.stop.Stop.{Stop}
use Rattle.tool_run.specs.declared.stop.Stop.TheVariants as stops
use Rattle.tool_run.specs.Ending.{Ending, HasRead, HasWorked}
use Rattle.tool_run.specs.Streams.{Counters, Ends}
use Rattle.tool_run.specs.Promise.{takes_no_input}
use Rattle.tool_run.specs.Attempt.{Attempts, AttemptsAs, IsOfEnding}
use Rattle.tool_run.specs.Writes.{AppendsAsFar, Writes}
use Rattle.tool_run.proofs.Attempts.{Attempts-exit}
use Rattle.tool_run.proofs.AtOnce.{takes_no_input-at_once}
use Rattle.tool_run.proofs.Begun.{IsBegun-front}

-- the input as it is, and the output
abbrev pub ends_of : InputState → OutputState → Ends
ends_of input output = record { input = input; output = output }

module _ (is_end : Ending → Type 0) (ending : Ending) (is : is_end ending) (input : InputState) (x y : OutputState) (c d : Counters) where
  cut_short : (stop : Stop) → Writes x y ending.output (Some stop)
      → AttemptsAs (takes_no_input is_end) (told_or input.left []) (ends_of input x) (ends_of input y) c d (Err stop)
  cut_short stops.WriteFault w =
      let far : AppendsAsFar x y ending.output (Some stops.WriteFault) = w.as_far in
      record {
        input_fault = refl;
        output = record {
          part = take far.0.count ending.output;
          is_part = IsBegun-front (λ input ending. is_end ending) (told_or input.left []) ending far.0.count is;
          written = far.0.front;
        };
        output_fault = far.1;
      }
  cut_short stops.Memory w =
      let far : AppendsAsFar x y ending.output (Some stops.Memory) = w.as_far in
      record {
        input_fault = refl;
        output = record {
          part = take far.0.count ending.output;
          is_part = IsBegun-front (λ input ending. is_end ending) (told_or input.left []) ending far.0.count is;
          written = far.0.front;
        };
        output_fault = far.1;
      }
  cut_short stops.ReadFault w = absurd w.as_far

  -- it could not be written, and a `?` passes on why
  pub Unread-cut : (stop : Stop) (r : Result Finish Stop) → IsErrAnd r (λ z. z ≡ stop) → Writes x y ending.output (Some stop)
      → Attempts (takes_no_input is_end) (ends_of input x) (ends_of input y) c d r
  Unread-cut stop r failed w =
      Attempts-exit (takes_no_input is_end) (ends_of input x) (ends_of input y) c d stop r failed (record {
        input = told_or input.left [];
        told = IsTold-told_or input.left [];
        read = (takes_no_input-at_once is_end).reads input.left;
        as_far = cut_short stop w;
      })

  -- it was written, and the finish is that of the ending
  pub Unread-whole : (finish : Finish) → finish.status ≡ ending.status → IsOfEnding ending.status → string_bytes finish.line ≡ ending.line
      → HasRead ending.reach input.left input.left → HasWorked ending.work c d → Writes x y ending.output None
      → Attempts (takes_no_input is_end) (ends_of input x) (ends_of input y) c d (Ok finish)
  Unread-whole finish status of_ending line read worked w = record {
    input = told_or input.left [];
    told = IsTold-told_or input.left [];
    read = (takes_no_input-at_once is_end).reads input.left;
    as_far = record {
      ending = ending;
      is_ending = is;
      status_is = status;
      of_ending = subst IsOfEnding (sym status) of_ending;
      line_is = line;
      read = read;
      worked = worked;
      input_fault = refl;
      output = w.as_far.0;
      output_fault = w.as_far.1;
    };
  }
