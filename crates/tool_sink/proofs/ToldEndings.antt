-- A command that has received all packets, from what it then told.
use Rattle.std.proofs.Common.{ℕ, ◌≡◌, ◌≤◌, ◌+◌, ◌*◌, ◌-◌, ◌^◌, min, ◌∙◌, ap, Bool, List, ◌++◌, None, Some, Result, Ok, Err, refl, sym, subst, inl, inr, arith, length}
use Rattle.std.specs.Prelude.{string_bytes, codes}
use Rattle.std.specs.Result.{IsErrAnd}
use Rattle.std.proofs.lemmas.Result.{err_from_is_err_and}
use Rattle.bats_io.specs.Streams.{OutputState}
use Rattle.bats_batch.specs.Held.{HeldData, row_count}
use Rattle.bats_batch.specs.Held.{StandsFor as HoldsFor}
use Rattle.bats_batch.proofs.Offers.{row_count-stands}
use Rattle.bats_decode.specs.Decoder.{DecoderData, StandsFor}
use Rattle.bats_model.specs.PacketFile.{packets_of, most_records}
use Rattle.bats_model.specs.Session.{SessionData}
use Rattle.bats_model.specs.Kept.{kept_count}
use Rattle.bats_model.specs.Peeling.{IsInactiveList, largest_degree}
use Rattle.bats_model.specs.RightAnswer.{IsRightAnswer}
use Rattle.bats_model.specs.declared.packet.Packet.{Packet}
use Rattle.bats_model.specs.declared.answer.Answer.{Answer}
use Rattle.bats_model.specs.declared.answer.Answer.TheVariants.{File, Inconsistent, NeedMore}
use Rattle.tool_run.specs.declared.finish.Finish.{Finish}
use Rattle.tool_run.specs.declared.stop.Stop.{Stop}
use Rattle.tool_run.specs.declared.stop.Stop.TheVariants as stops
use Rattle.tool_run.specs.Attempt.{Attempts, AttemptsUncounted, IsOfEnding}
use Rattle.tool_run.specs.Ending.{Ending, Reach, HasRead, HasWorked, to_end}
use Rattle.tool_run.specs.Streams.{Counters, Ends}
use Rattle.tool_run.specs.Writes.{Writes}
use Rattle.tool_run.proofs.Writing.{Writes-same}
use Rattle.tool_records.specs.declared.walking.WalkEnd.TheVariants as walks
use Rattle.tool_records.specs.Keeping.{StopsKeeping, keeping_promise}
use Rattle.tool_records.specs.Walk.{Walks, WalksToEnd}
use Rattle.bats_batch.proofs.HeldNumbers.{numbers_of, AreHeld-numbers}
use Rattle.tool_records.proofs.KeptItems.{packets_of-within}
use Rattle.tool_records.proofs.Keepers.{few_walked, Attempts-stopping}
use Rattle.tool_records.proofs.KeptWalks.{EndsAs, Attempts-ended, Attempts-unwritten}
use Rattle.tool_sink.specs.Answers.{answer_line, answer_status, answer_work}
use Rattle.tool_sink.specs.Sink.{IsSinkEnding, answer_ending, answer_output, sink_promise}
use Rattle.tool_sink.specs.Check.{IsCheckEnding, answer_text, check_ending, check_output, check_promise}
use Rattle.tool_sink.specs.declared.receiving.Intake.{Intake}
use Rattle.tool_sink.specs.steps.Lines.{held_lines}
use Rattle.tool_records.specs.steps.Kept.{Keeps}
use Rattle.tool_sink.specs.steps.Receiving.{HasReceived}
use Rattle.tool_sink.specs.steps.Reception.{received_in}
use Rattle.tool_sink.specs.steps.Telling.{CannotTell, IsFileEnding, IsListEnding, Tells, TellsAs}
use Rattle.tool_sink.proofs.CheckLines.{held_lines-numbers}

-- ---- the input isn't taken whole

-- so a command ends that has further endings where the input is taken whole
pub sink-stopped : (both : Bool) (start now : Ends) (result : Result Finish Stop) → AttemptsUncounted (keeping_promise StopsKeeping) start now result
    → AttemptsUncounted (sink_promise both) start now result
sink-stopped both start now result a = Attempts-stopping (IsSinkEnding both) (λ input ending stops. inr stops) start now result a

pub check-stopped : (start now : Ends) (result : Result Finish Stop) → AttemptsUncounted (keeping_promise StopsKeeping) start now result
    → AttemptsUncounted check_promise start now result
check-stopped start now result a = Attempts-stopping IsCheckEnding (λ input ending stops. inr stops) start now result a

-- ---- an ending was told, or could not be

cut_short : (is : Ending → Type 0) (c d : Counters) (x y : OutputState) (stop : Stop) → CannotTell is c d x y stop
    → TellsAs is c d x y (Err stop)
cut_short is c d x y stops.Memory h = inr h
cut_short is c d x y stops.ReadFault h = h
cut_short is c d x y stops.WriteFault h = h

-- what a `?` returns that passes on that the ending could not be told
pub TellsAs-cut_short : (is : Ending → Type 0) (c d : Counters) (x y : OutputState) (stop : Stop) (result : Result Finish Stop)
    → IsErrAnd result (λ e. e ≡ stop) → CannotTell is c d x y stop → TellsAs is c d x y result
TellsAs-cut_short is c d x y stop result is_err h =
    let e = err_from_is_err_and result is_err in
    subst (λ (r : Result Finish Stop). TellsAs is c d x y r) (sym e.1)
    (subst (λ (s : Stop). TellsAs is c d x y (Err s)) (sym e.2) (cut_short is c d x y stop h))

-- a solving found this answer to the packets and these counts of them, and was no more work with what came before than may be
pub record HasSolved (session : SessionData) (packets : List Packet) (answer : Answer) (received kept told : ℕ) (c d : Counters) : Type 0 where
  pub right : IsRightAnswer session packets answer
  pub all : received ≡ length packets
  pub new : kept ≡ kept_count packets
  pub inactive : List ℕ
  pub is_inactive : IsInactiveList session packets inactive
  pub counted : told ≡ length inactive
  pub worked : d.payloads ≤ c.payloads + answer_work session packets (length inactive)

-- the operations of all offers and of the plan
pub sum_of_work : (first mid last plan offers most : ℕ) → mid ≤ first + offers → plan ≤ most → last ≡ mid + plan → last ≤ first + (offers + most)
sum_of_work first mid last plan offers most h k e = omega arith

pub HasSolved-solved : (packets : List Packet) (decoder : DecoderData) (answer : Answer) (received kept told plan mid : ℕ) (c d : Counters)
    → StandsFor packets decoder → decoder.packets ≡ length packets → IsRightAnswer decoder.held.session packets answer
    → received ≡ decoder.packets → kept ≡ kept_count packets
    → (list : List ℕ) × (IsInactiveList decoder.held.session packets list × (told ≡ length list))
    → plan ≤ row_count decoder.held.batches * (largest_degree decoder.held.session packets + told)
    → mid ≤ c.payloads + length packets * decoder.held.session.m → d.payloads ≡ mid + plan
    → HasSolved decoder.held.session packets answer received kept told c d
HasSolved-solved packets decoder answer received kept told plan mid c d stands all right count new inactive bound offers rise =
    let degree : ℕ = largest_degree decoder.held.session packets in
    let rows : row_count decoder.held.batches ≡ kept_count packets = row_count-stands packets decoder.held stands.holds in
    let most : plan ≤ kept_count packets * (degree + length inactive.0) =
    subst (λ (n : ℕ). plan ≤ n * (degree + length inactive.0)) rows
    (subst (λ (n : ℕ). plan ≤ row_count decoder.held.batches * (degree + n)) inactive.1.1 bound) in
    record {
      right = right;
      all = count ∙ all;
      new = new;
      inactive = inactive.0;
      is_inactive = inactive.1.0;
      counted = inactive.1.1;
      worked = sum_of_work c.payloads mid d.payloads plan (length packets * decoder.held.session.m)
          (kept_count packets * (degree + length inactive.0)) offers most rise;
    }

-- the line of an answer, whose counts are those of the packets
line_of_counts : (name line : List ℕ) (session : SessionData) (packets : List Packet) (answer : Answer) (received kept told : ℕ) (c d : Counters)
    → (h : HasSolved session packets answer received kept told c d) → line ≡ answer_line name received kept told answer
    → line ≡ answer_line name (length packets) (kept_count packets) (length h.inactive) answer
line_of_counts name line session packets answer received kept told c d h is =
    is ∙ ap (λ (n : ℕ). answer_line name n kept told answer) h.all
    ∙ ap (λ (n : ℕ). answer_line name (length packets) n told answer) h.new
    ∙ ap (λ (n : ℕ). answer_line name (length packets) (kept_count packets) n answer) h.counted

-- an answer was written
pub Tells-file : (both : Bool) (session : SessionData) (packets : List Packet) (answer : Answer) (x y : OutputState) (finish : Finish)
    (received kept told : ℕ) (c d : Counters) → HasSolved session packets answer received kept told c d
    → finish.status ≡ answer_status answer → string_bytes finish.line ≡ answer_line (codes "sink") received kept told answer
    → Writes x y (answer_output both answer) None → Tells (IsFileEnding both session packets) c d x y finish
Tells-file both session packets answer x y finish received kept told c d h status line written = record {
  ending = answer_ending both session packets (length h.inactive) answer;
  is_ending = record { answer = answer; right = h.right; inactive = h.inactive; is_inactive = h.is_inactive; ending_is = refl };
  status = status;
  line = line_of_counts (codes "sink") (string_bytes finish.line) session packets answer received kept told c d h line;
  worked = h.worked;
  written = written;
}

pub CannotTell-file : (both : Bool) (session : SessionData) (packets : List Packet) (answer : Answer) (x y : OutputState) (stop : Stop)
    (received kept told : ℕ) (c d : Counters) → HasSolved session packets answer received kept told c d
    → Writes x y (answer_output both answer) (Some stop) → CannotTell (IsFileEnding both session packets) c d x y stop
CannotTell-file both session packets answer x y stop received kept told c d h written = record {
  ending = answer_ending both session packets (length h.inactive) answer;
  is_ending = record { answer = answer; right = h.right; inactive = h.inactive; is_inactive = h.is_inactive; ending_is = refl };
  worked = h.worked;
  written = written;
}

-- the lines of what a decoder holds, and of an answer
abbrev lines_with : SessionData → HeldData → Answer → List ℕ
lines_with session held answer = held_lines session held.batches ++ answer_text answer

lines_told : (session : SessionData) (packets : List Packet) (held : HeldData) (answer : Answer) → HoldsFor packets held
    → check_output session packets (numbers_of held.batches) answer ≡ lines_with session held answer
lines_told session packets held answer holds =
    ap (λ (lines : List ℕ). lines ++ answer_text answer) (sym (held_lines-numbers session packets held holds))

list_ending : (session : SessionData) (packets : List Packet) (held : HeldData) (answer : Answer) (received kept told : ℕ) (c d : Counters)
    → HoldsFor packets held → (h : HasSolved session packets answer received kept told c d)
    → IsListEnding session packets (check_ending session packets (numbers_of held.batches) (length h.inactive) answer)
list_ending session packets held answer received kept told c d holds h = record {
  numbers = numbers_of held.batches;
  held = AreHeld-numbers packets held holds;
  answer = answer;
  right = h.right;
  inactive = h.inactive;
  is_inactive = h.is_inactive;
  ending_is = refl;
}

-- lines were written
pub Tells-list : (session : SessionData) (packets : List Packet) (held : HeldData) (answer : Answer) (x y : OutputState) (finish : Finish)
    (lines : List ℕ) (received kept told : ℕ) (c d : Counters) → HoldsFor packets held → HasSolved session packets answer received kept told c d
    → lines ≡ held_lines session held.batches ++ answer_text answer → finish.status ≡ answer_status answer
    → string_bytes finish.line ≡ answer_line (codes "check") received kept told answer → Writes x y lines None
    → Tells (IsListEnding session packets) c d x y finish
Tells-list session packets held answer x y finish lines received kept told c d holds h lines_are status line written = record {
  ending = check_ending session packets (numbers_of held.batches) (length h.inactive) answer;
  is_ending = list_ending session packets held answer received kept told c d holds h;
  status = status;
  line = line_of_counts (codes "check") (string_bytes finish.line) session packets answer received kept told c d h line;
  worked = h.worked;
  written = Writes-same (lines_told session packets held answer holds ∙ sym lines_are) written;
}

pub CannotTell-list : (session : SessionData) (packets : List Packet) (held : HeldData) (answer : Answer) (x y : OutputState) (stop : Stop)
    (lines : List ℕ) (received kept told : ℕ) (c d : Counters) → HoldsFor packets held → HasSolved session packets answer received kept told c d
    → lines ≡ held_lines session held.batches ++ answer_text answer → Writes x y lines (Some stop)
    → CannotTell (IsListEnding session packets) c d x y stop
CannotTell-list session packets held answer x y stop lines received kept told c d holds h lines_are written = record {
  ending = check_ending session packets (numbers_of held.batches) (length h.inactive) answer;
  is_ending = list_ending session packets held answer received kept told c d holds h;
  worked = h.worked;
  written = Writes-same (lines_told session packets held answer holds ∙ sym lines_are) written;
}

-- what may be told once the whole input was received
record IsWholeEnding (ends : List ℕ → Ending → Type 0) (input : List ℕ) (ending : Ending) : Type 0 where
  is_ending : ends input ending
  of_ending : IsOfEnding ending.status
  reach : ending.reach ≡ to_end

module _ (ends : List ℕ → Ending → Type 0) (intake : Intake) (c d : Counters) (mid : ℕ) (start now : Ends) (w : WalksToEnd (Keeps (received_in intake) c.payloads mid) start now) where
  told : (after : OutputState) (ending : Ending) (result : Result Finish Stop) → IsWholeEnding ends w.input ending → HasWorked ending.work c d
      → EndsAs ending now.output after result → Attempts (keeping_promise ends) start (record { input = now.input; output = after }) c d result
  told after ending result whole worked done =
      let stands : HasReceived w.session (packets_of w.list) intake = w.given.as_far.held in
      Attempts-ended ends (Keeps (received_in intake) c.payloads mid) start now c d after ending result w w.given.as_far.few w.given.nothing_written
      whole.is_ending whole.of_ending (subst (λ (r : Reach). HasRead r start.input.left now.input.left) (sym whole.reach) w.end) worked done

  unknown : (after : OutputState) → after ≡ now.output
      → Attempts (keeping_promise ends) start (record { input = now.input; output = after }) c d (Err stops.Memory)
  unknown after same =
      let walked : Walks (Keeps (received_in intake) c.payloads mid) start now (Ok walks.Whole) = record { as_far = w } in
      subst (λ (o : OutputState). Attempts (keeping_promise ends) start (record { input = now.input; output = o }) c d (Err stops.Memory)) (sym same)
      (Attempts-unwritten ends start now (few_walked (received_in intake) c.payloads mid start now (Ok walks.Whole) walked) c d)

  told_as : (is : Ending → Type 0) → ((ending : Ending) → is ending → IsWholeEnding ends w.input ending) → (after : OutputState)
      (result : Result Finish Stop) → TellsAs is c d now.output after result
      → Attempts (keeping_promise ends) start (record { input = now.input; output = after }) c d result
  told_as is whole after (Ok finish) t =
      told after t.ending (Ok finish) (whole t.ending t.is_ending) t.worked (t.status, t.line, t.written)
  told_as is whole after (Err stops.Memory) (inl same) = unknown after same
  told_as is whole after (Err stops.Memory) (inr t) =
      told after t.ending (Err stops.Memory) (whole t.ending t.is_ending) t.worked t.written
  told_as is whole after (Err stops.WriteFault) t =
      told after t.ending (Err stops.WriteFault) (whole t.ending t.is_ending) t.worked t.written
  told_as is whole after (Err stops.ReadFault) t =
      told after t.ending (Err stops.ReadFault) (whole t.ending t.is_ending) t.worked t.written

-- ---- what is told of the packets of the whole input

-- an answer's status is that of an ending
pub is_of_answer : (answer : Answer) → IsOfEnding (answer_status answer)
is_of_answer (File file) = tt
is_of_answer Inconsistent = tt
is_of_answer (NeedMore at_symbol first second) = tt

-- the packets are counted whole, since there are no more than records
counted : (n m k : ℕ) → k ≡ min n (2 ^ 64 - 1) → n ≤ m → m ≤ most_records → k ≡ n
counted n m k e h f = omega arith

module _ (intake : Intake) (c d : Counters) (mid : ℕ) (start now : Ends) (w : WalksToEnd (Keeps (received_in intake) c.payloads mid) start now) where
  all_counted : intake.decoder.packets ≡ length (packets_of w.list)
  all_counted =
      let stands : HasReceived w.session (packets_of w.list) intake = w.given.as_far.held in
      counted (length (packets_of w.list)) (length w.list) intake.decoder.packets stands.stands.counted (packets_of-within w.list) w.file.few

  offers_counted : mid ≤ c.payloads + length (packets_of w.list) * intake.decoder.held.session.m
  offers_counted =
      let stands : HasReceived w.session (packets_of w.list) intake = w.given.as_far.held in
      subst (λ (s : SessionData). mid ≤ c.payloads + length (packets_of w.list) * s.m) (sym stands.held_session) w.given.worked

  file_whole : (both : Bool) (ending : Ending) → IsFileEnding both intake.decoder.held.session (packets_of w.list) ending
      → IsWholeEnding (IsSinkEnding both) w.input ending
  file_whole both ending is =
      let stands : HasReceived w.session (packets_of w.list) intake = w.given.as_far.held in
      record {
        is_ending = inl (record {
          session = w.session;
          list = w.list;
          file = w.file;
          few = w.given.as_far.few;
          answer = is.answer;
          right = subst (λ (s : SessionData). IsRightAnswer s (packets_of w.list) is.answer) stands.held_session is.right;
          inactive = is.inactive;
          is_inactive = subst (λ (s : SessionData). IsInactiveList s (packets_of w.list) is.inactive) stands.held_session is.is_inactive;
          ending_is = subst (λ (s : SessionData). ending ≡ answer_ending both s (packets_of w.list) (length is.inactive) is.answer)
              stands.held_session is.ending_is;
        });
        of_ending = subst (λ (e : Ending). IsOfEnding e.status) (sym is.ending_is) (is_of_answer is.answer);
        reach = ap (λ (e : Ending). e.reach) is.ending_is;
      }

  list_whole : (ending : Ending) → IsListEnding intake.session (packets_of w.list) ending → IsWholeEnding IsCheckEnding w.input ending
  list_whole ending is =
      let stands : HasReceived w.session (packets_of w.list) intake = w.given.as_far.held in
      record {
        is_ending = inl (record {
          session = w.session;
          list = w.list;
          file = w.file;
          few = w.given.as_far.few;
          numbers = is.numbers;
          held = is.held;
          answer = is.answer;
          right = subst (λ (s : SessionData). IsRightAnswer s (packets_of w.list) is.answer) stands.session_is is.right;
          inactive = is.inactive;
          is_inactive = subst (λ (s : SessionData). IsInactiveList s (packets_of w.list) is.inactive) stands.session_is is.is_inactive;
          ending_is = subst (λ (s : SessionData). ending ≡ check_ending s (packets_of w.list) is.numbers (length is.inactive) is.answer)
              stands.session_is is.ending_is;
        });
        of_ending = subst (λ (e : Ending). IsOfEnding e.status) (sym is.ending_is) (is_of_answer is.answer);
        reach = ap (λ (e : Ending). e.reach) is.ending_is;
      }

  pub sink-told : (both : Bool) (after : OutputState) (result : Result Finish Stop)
      → ((packets : List Packet) (first : Counters) → StandsFor packets intake.decoder → intake.decoder.packets ≡ length packets
      → mid ≤ first.payloads + length packets * intake.decoder.held.session.m
      → TellsAs (IsFileEnding both intake.decoder.held.session packets) first d now.output after result)
      → Attempts (sink_promise both) start (record { input = now.input; output = after }) c d result
  sink-told both after result tells =
      let stands : HasReceived w.session (packets_of w.list) intake = w.given.as_far.held in
      told_as (IsSinkEnding both) intake c d mid start now w (IsFileEnding both intake.decoder.held.session (packets_of w.list)) (file_whole both)
      after result (tells (packets_of w.list) c stands.stands all_counted offers_counted)

  pub check-told : (after : OutputState) (result : Result Finish Stop)
      → ((packets : List Packet) (first : Counters) → StandsFor packets intake.decoder → intake.decoder.packets ≡ length packets
      → intake.decoder.held.session ≡ intake.session → mid ≤ first.payloads + length packets * intake.decoder.held.session.m
      → TellsAs (IsListEnding intake.session packets) first d now.output after result)
      → Attempts check_promise start (record { input = now.input; output = after }) c d result
  check-told after result tells =
      let stands : HasReceived w.session (packets_of w.list) intake = w.given.as_far.held in
      told_as IsCheckEnding intake c d mid start now w (IsListEnding intake.session (packets_of w.list)) list_whole after result
      (tells (packets_of w.list) c stands.stands all_counted (stands.held_session ∙ sym stands.session_is) offers_counted)
