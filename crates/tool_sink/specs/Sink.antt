-- How `sink` ends on an input, and what it promises.
use Rattle.std.specs.Prelude.{ℕ, ◌≡◌, ◌⊎◌, Bool, List, [], ◌++◌, length, codes, Some, if◌then◌else◌}
use Rattle.bats_model.specs.Session.{SessionData}
use Rattle.bats_model.specs.Kept.{kept_count}
use Rattle.bats_model.specs.PacketFile.{IsPacketFile, packets_of}
use Rattle.bats_model.specs.Peeling.{IsInactiveList}
use Rattle.bats_model.specs.RightAnswer.{IsRightAnswer}
use Rattle.bats_model.specs.declared.packet.Packet.{Packet}
use Rattle.bats_model.specs.declared.item.Item.{Item}
use Rattle.bats_model.specs.declared.answer.Answer.{Answer}
use Rattle.bats_model.specs.declared.answer.Answer.TheVariants.{File, Inconsistent, NeedMore}
use Rattle.tool_run.specs.Ending.{Ending, to_end}
use Rattle.tool_run.specs.Promise.{Promise}
use Rattle.tool_records.specs.Keeping.{AreFew, StopsKeeping, keeping_promise}
use Rattle.tool_sink.specs.Answers.{answer_line, answer_status, answer_work}

-- what is written of an answer: the file, and the two files of need-more where both are asked for
abbrev pub answer_output : Bool → Answer → List ℕ
answer_output both (File file) = file
answer_output both Inconsistent = []
answer_output both (NeedMore at_symbol first second) = if both then (first ++ second) else []

-- the ending of an answer to these packets, with so many inactive symbols
abbrev pub answer_ending : Bool → SessionData → List Packet → ℕ → Answer → Ending
answer_ending both session packets inactive answer = record {
  status = answer_status answer;
  output = answer_output both answer;
  line = answer_line (codes "sink") (length packets) (kept_count packets) inactive answer;
  reach = to_end;
  work = Some (answer_work session packets inactive);
}

-- the whole input is a packet file, and no more of its packets are kept than may be: the ending is that of a right answer
-- to them, and tells how long their inactive list is
pub record SinkAnswers (both : Bool) (input : List ℕ) (ending : Ending) : Type 0 where
  pub session : SessionData
  pub list : List Item
  pub file : IsPacketFile session list input
  pub few : AreFew list
  pub answer : Answer
  pub right : IsRightAnswer session (packets_of list) answer
  pub inactive : List ℕ
  pub is_inactive : IsInactiveList session (packets_of list) inactive
  pub ending_is : ending ≡ answer_ending both session (packets_of list) (length inactive) answer

-- how `sink` ends where memory is found and no read, write or flush fails
abbrev pub IsSinkEnding : Bool → List ℕ → Ending → Type 0
IsSinkEnding both input ending = SinkAnswers both input ending ⊎ StopsKeeping input ending

-- what `sink` promises
abbrev pub sink_promise : Bool → Promise
sink_promise both = keeping_promise (IsSinkEnding both)
