use Rattle.std.proofs.Common.{arith}
use Rattle.tool_run.specs.declared.stop.Stop.TheVariants as stops
use Rattle.tool_run.proofs.Attempts.{AttemptsUncounted-exit}
use Rattle.tool_source.specs.Source.{source_promise}
use Rattle.tool_source.proofs.Sourcing.{Attempts-no_line, Attempts-too_long}
use Rattle.tool_source.proofs.sending.too_long.Goals as goal

pub returns-in_err-refusal : goal.returns-in_err-refusal
returns-in_err-refusal c = λ options before after output file ranges read long.
    AttemptsUncounted-exit (source_promise options) _ _ stops.Memory _ c.from_residual.ensures.1
    (Attempts-no_line options before after output file read)

pub returns : goal.returns
returns c = λ options before after output file ranges read long.
    Attempts-too_long options before after output file _ (omega (arith, ranges.t_low)) read long
    c.in_ok-refusal.ensures.status c.in_ok-refusal.ensures.line
