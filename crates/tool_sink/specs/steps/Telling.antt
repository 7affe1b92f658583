-- What a command does once all packets were received.
use Rattle.std.specs.Prelude.{ℕ, ◌≡◌, ◌⊎◌, Bool, List, length, None, Some, Result, Ok, Err, string_bytes}
use Rattle.bats_io.specs.Streams.{OutputState}
use Rattle.bats_model.specs.Session.{SessionData}
use Rattle.bats_model.specs.RightAnswer.{IsRightAnswer}
use Rattle.bats_model.specs.declared.packet.Packet.{Packet}
use Rattle.bats_model.specs.declared.answer.Answer.{Answer}
use Rattle.bats_model.specs.Kept.{AreHeld}
use Rattle.bats_model.specs.Peeling.{IsInactiveList}
use Rattle.tool_run.specs.declared.finish.Finish.{Finish}
use Rattle.tool_run.specs.declared.stop.Stop.{Stop}
use Rattle.tool_run.specs.declared.stop.Stop.TheVariants as stops
use Rattle.tool_run.specs.Ending.{Ending, HasWorked}
use Rattle.tool_run.specs.Streams.{Counters}
use Rattle.tool_run.specs.Writes.{Writes}
use Rattle.tool_sink.specs.Sink.{answer_ending}
use Rattle.tool_sink.specs.Check.{check_ending}

-- the ending of a right answer to these packets
pub record IsFileEnding (both : Bool) (session : SessionData) (packets : List Packet) (ending : Ending) : Type 0 where
  pub answer : Answer
  pub right : IsRightAnswer session packets answer
  pub inactive : List ℕ
  pub is_inactive : IsInactiveList session packets inactive
  pub ending_is : ending ≡ answer_ending both session packets (length inactive) answer

-- the ending of the held batches of these packets, and of a right answer to them
pub record IsListEnding (session : SessionData) (packets : List Packet) (ending : Ending) : Type 0 where
  pub numbers : List ℕ
  pub held : AreHeld packets numbers
  pub answer : Answer
  pub right : IsRightAnswer session packets answer
  pub inactive : List ℕ
  pub is_inactive : IsInactiveList session packets inactive
  pub ending_is : ending ≡ check_ending session packets numbers (length inactive) answer

-- the output of such an ending was written, with no more work than it promises, of counters that were first and are last so
pub record Tells (is : Ending → Type 0) (first last : Counters) (before after : OutputState) (finish : Finish) : Type 0 where
  pub ending : Ending
  pub is_ending : is ending
  pub status : finish.status ≡ ending.status
  pub line : string_bytes finish.line ≡ ending.line
  pub worked : HasWorked ending.work first last
  pub written : Writes before after ending.output None

-- it could not be written
pub record CannotTell (is : Ending → Type 0) (first last : Counters) (before after : OutputState) (stop : Stop) : Type 0 where
  pub ending : Ending
  pub is_ending : is ending
  pub worked : HasWorked ending.work first last
  pub written : Writes before after ending.output (Some stop)

-- memory may also run out before such an ending is known
abbrev pub TellsAs : (Ending → Type 0) → Counters → Counters → OutputState → OutputState → Result Finish Stop → Type 0
TellsAs is first last before after (Ok finish) = Tells is first last before after finish
TellsAs is first last before after (Err stops.Memory) = (after ≡ before) ⊎ CannotTell is first last before after stops.Memory
TellsAs is first last before after (Err stop) = CannotTell is first last before after stop
