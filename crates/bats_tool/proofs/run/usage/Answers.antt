use Rattle.bats_tool.proofs.Usage.{Attempts-usage, Attempts-no_line}
use Rattle.bats_tool.proofs.run.usage.Goals as goal

pub returns : goal.returns
returns c = λ ends. Attempts-usage ends c.in_ok-refusal.field-0 c.in_ok-refusal.ensures.status c.in_ok-refusal.ensures.line

pub returns-in_err-refusal : goal.returns-in_err-refusal
returns-in_err-refusal c = λ ends. Attempts-no_line ends _ c.from_residual.ensures.1
