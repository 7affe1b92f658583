-- What is said of an answer, by each command that solves.
use Rattle.std.specs.Prelude.{ℕ, List, ◌++◌, length, codes}
use Rattle.std.specs.Fmt.{decimal}
use Rattle.bats_model.specs.Session.{SessionData}
use Rattle.bats_model.specs.Kept.{kept_count}
use Rattle.bats_model.specs.Peeling.{largest_degree, payload_bound}
use Rattle.bats_model.specs.declared.packet.Packet.{Packet}
use Rattle.bats_model.specs.declared.answer.Answer.{Answer}
use Rattle.bats_model.specs.declared.answer.Answer.TheVariants.{File, Inconsistent, NeedMore}
use Rattle.tool_run.specs.declared.status.Status.{Status}
use Rattle.tool_run.specs.declared.status.Status.TheVariants as statuses

-- the end of a notes line: the packets received, those of them that were kept, and the inactive symbols
abbrev pub counts_text : ℕ → ℕ → ℕ → List ℕ
counts_text packets kept inactive =
    codes " packets=" ++ (decimal packets ++ (codes " kept=" ++ (decimal kept ++ (codes " inactive=" ++ (decimal inactive ++ codes "\n")))))

-- the notes line of an answer, from the name of the command on: for so many packets received and kept, and so many inactive
-- symbols
abbrev pub answer_line : List ℕ → ℕ → ℕ → ℕ → Answer → List ℕ
answer_line name packets kept inactive (File file) =
    name ++ (codes ": file length=" ++ (decimal (length file) ++ counts_text packets kept inactive))
answer_line name packets kept inactive Inconsistent = name ++ (codes ": inconsistent" ++ counts_text packets kept inactive)
answer_line name packets kept inactive (NeedMore at_symbol first second) =
    name ++ (codes ": need-more open=" ++ (decimal at_symbol ++ counts_text packets kept inactive))

-- the status of an answer
abbrev pub answer_status : Answer → Status
answer_status (File file) = statuses.Done
answer_status Inconsistent = statuses.Inconsistent
answer_status (NeedMore at_symbol first second) = statuses.NeedMore

-- operations on payload rows, at most, of a run that receives these packets and solves, with so many inactive symbols
abbrev pub answer_work : SessionData → List Packet → ℕ → ℕ
answer_work session packets inactive =
    payload_bound (length packets) session.m (kept_count packets) (largest_degree session packets) inactive
