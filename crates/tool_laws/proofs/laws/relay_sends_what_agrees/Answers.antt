use Rattle.tool_laws.proofs.RelayedFiles.{sends_what_agrees}
use Rattle.tool_laws.proofs.laws.relay_sends_what_agrees.Goals as goal

pub returns : goal.returns
returns c = λ seed extra count session list input ending range file ends done.
    sends_what_agrees seed extra count session list input ending range.high file ends done
