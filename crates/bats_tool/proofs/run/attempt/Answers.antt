use Rattle.std.proofs.Common.{Result, subst}
use Rattle.std.specs.Prelude.{IfOk}
use Rattle.bats_words.specs.declared.command.Command.{Command}
use Rattle.bats_words.specs.declared.words_end.WordsEnd.{WordsEnd}
use Rattle.bats_words.specs.Options.{InRanges}
use Rattle.tool_run.proofs.AtOnce.{Attempts-at_once}
use Rattle.bats_tool.proofs.PromisesKept.{promise_of-at_once}
use Rattle.bats_tool.proofs.run.attempt.Goals as goal

pub source-requires : goal.source-requires
source-requires g c =
    (subst (λ (command : Command). InRanges command) c.in-Ok-Source.field-0-is
    (subst (λ (x : Result Command WordsEnd). IfOk x InRanges) c.in-Ok-Source.is c.parse.ensures.ranges)).0

pub sink-requires-after_bounds : goal.sink-requires-after_bounds
sink-requires-after_bounds g c _ _ =
    subst (λ (command : Command). InRanges command) c.in-Ok-Sink.field-0-is
    (subst (λ (x : Result Command WordsEnd). IfOk x InRanges) c.in-Ok-Sink.is c.parse.ensures.ranges)

pub replay-requires-after_bounds : goal.replay-requires-after_bounds
replay-requires-after_bounds g c _ _ =
    subst (λ (command : Command). InRanges command) c.in-Ok-Replay.field-0-is
    (subst (λ (x : Result Command WordsEnd). IfOk x InRanges) c.in-Ok-Replay.is c.parse.ensures.ranges)

pub check-requires-after_bounds : goal.check-requires-after_bounds
check-requires-after_bounds g c _ _ =
    subst (λ (command : Command). InRanges command) c.in-Ok-Check.field-0-is
    (subst (λ (x : Result Command WordsEnd). IfOk x InRanges) c.in-Ok-Check.is c.parse.ensures.ranges)

pub relay-requires : goal.relay-requires
relay-requires g c =
    (subst (λ (command : Command). InRanges command) c.in-Ok-Relay.field-0-is
    (subst (λ (x : Result Command WordsEnd). IfOk x InRanges) c.in-Ok-Relay.is c.parse.ensures.ranges)).0.high

-- memory ran out while the words were read
pub returns-in-Err-Memory : goal.returns-in-Err-Memory
returns-in-Err-Memory g c = Attempts-at_once _ _ _ _ (promise_of-at_once _)
