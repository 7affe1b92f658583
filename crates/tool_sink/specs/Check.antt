-- How `check` ends on an input, and what it promises.
use Rattle.std.specs.Prelude.{ℕ, ◌≡◌, ◌⊎◌, List, ◌++◌, length, flat_map, codes, Some}
use Rattle.std.specs.Fmt.{decimal}
use Rattle.bats_model.specs.Session.{SessionData}
use Rattle.bats_model.specs.Batch.{batch_of, degree_of}
use Rattle.bats_model.specs.Kept.{kept_of, kept_count, AreHeld}
use Rattle.bats_model.specs.PacketFile.{IsPacketFile, packets_of}
use Rattle.bats_model.specs.Peeling.{IsInactiveList}
use Rattle.bats_model.specs.RightAnswer.{IsRightAnswer}
use Rattle.bats_model.specs.declared.packet.Packet.{Packet}
use Rattle.bats_model.specs.declared.item.Item.{Item}
use Rattle.bats_model.specs.declared.answer.Answer.{Answer}
use Rattle.bats_model.specs.declared.answer.Answer.TheVariants.{File, Inconsistent, NeedMore}
use Rattle.tool_run.specs.Ending.{Ending, to_end}
use Rattle.tool_run.specs.Promise.{Promise}
use Rattle.tool_records.specs.Keeping.{AreFew, StopsKeeping, keeping_promise}
use Rattle.tool_sink.specs.Answers.{answer_line, answer_status, answer_work}

-- the line of a held batch: its number, its degree, and how many of its packets are kept
abbrev pub batch_line : SessionData → List Packet → ℕ → List ℕ
batch_line session packets number =
    codes "batch " ++ (decimal number ++ (codes " degree " ++ (decimal (degree_of (batch_of session number))
    ++ (codes " kept " ++ (decimal (length (kept_of number packets)) ++ codes "\n")))))

-- the line of an answer
abbrev pub answer_text : Answer → List ℕ
answer_text (File file) = codes "answer file\n"
answer_text Inconsistent = codes "answer inconsistent\n"
answer_text (NeedMore at_symbol first second) = codes "answer need-more open " ++ (decimal at_symbol ++ codes "\n")

-- the lines of the held batches, which have these numbers, and then that of the answer
abbrev pub check_output : SessionData → List Packet → List ℕ → Answer → List ℕ
check_output session packets numbers answer = flat_map (batch_line session packets) numbers ++ answer_text answer

-- the ending of an answer to these packets, whose held batches have these numbers, with so many inactive symbols
abbrev pub check_ending : SessionData → List Packet → List ℕ → ℕ → Answer → Ending
check_ending session packets numbers inactive answer = record {
  status = answer_status answer;
  output = check_output session packets numbers answer;
  line = answer_line (codes "check") (length packets) (kept_count packets) inactive answer;
  reach = to_end;
  work = Some (answer_work session packets inactive);
}

-- the whole input is a packet file, and no more of its packets are kept than may be: the ending is that of its held
-- batches and of a right answer to its packets, and tells how long their inactive list is
pub record CheckTells (input : List ℕ) (ending : Ending) : Type 0 where
  pub session : SessionData
  pub list : List Item
  pub file : IsPacketFile session list input
  pub few : AreFew list
  pub numbers : List ℕ
  pub held : AreHeld (packets_of list) numbers
  pub answer : Answer
  pub right : IsRightAnswer session (packets_of list) answer
  pub inactive : List ℕ
  pub is_inactive : IsInactiveList session (packets_of list) inactive
  pub ending_is : ending ≡ check_ending session (packets_of list) numbers (length inactive) answer

-- how `check` ends where memory is found and no read, write or flush fails
abbrev pub IsCheckEnding : List ℕ → Ending → Type 0
IsCheckEnding input ending = CheckTells input ending ⊎ StopsKeeping input ending

-- what `check` promises
abbrev pub check_promise : Promise
check_promise = keeping_promise IsCheckEnding
