-- `show`, from its walk over the records.
use Rattle.std.proofs.Common.{ℕ, ◌≡◌, ◌+◌, ◌-◌, List, [], ◌∷◌, ◌++◌, length, take, Option, None, Some, Result, Ok, Err, refl, sym, ap, ◌∙◌, subst, length-append, arith, inl, inr}
use Rattle.std.specs.Prelude.{string_bytes}
use Rattle.std.specs.Result.{IsErrAnd}
use Rattle.std.proofs.lemmas.Result.{err_from_is_err_and}
use Rattle.bats_io.specs.Sink.{AppendsPrefix}
use Rattle.bats_io.specs.Streams.{OutputState, IsTold}
use Rattle.bats_model.specs.Session.{SessionData}
use Rattle.bats_model.specs.PacketFile.{packets_of, record_of}
use Rattle.bats_model.specs.declared.item.Item.{Item}
use Rattle.bats_model.specs.declared.read_end.ReadEnd.{ReadEnd}
use Rattle.tool_run.specs.declared.finish.Finish.{Finish}
use Rattle.tool_run.specs.declared.status.Status.TheVariants as statuses
use Rattle.tool_run.specs.declared.stop.Stop.{Stop}
use Rattle.tool_run.specs.declared.stop.Stop.TheVariants as stops
use Rattle.tool_run.specs.Attempt.{AttemptsAs, AttemptsUncounted, IsOfEnding, WritesPart}
use Rattle.tool_run.specs.Streams.{Counters, Ends}
use Rattle.tool_run.specs.Writes.{Writes, AppendsAsFar}
use Rattle.tool_run.proofs.Writing.{Writes-after, Writes-same, Writes-nothing}
use Rattle.tool_records.specs.declared.walking.Next.{Next}
use Rattle.tool_records.specs.declared.walking.Next.TheVariants as takes
use Rattle.tool_records.specs.declared.walking.WalkEnd.{WalkEnd}
use Rattle.tool_records.specs.declared.walking.WalkEnd.TheVariants as walks
use Rattle.tool_records.specs.Reading.{refusal_status, refusal_line, refusal_ending}
use Rattle.tool_records.specs.ReadsRecords.{ReadsRecords}
use Rattle.tool_records.specs.Walk.{AreRecords, GivenSoFar, Walks, WalksToEnd, WalksToRefusal, WalksToItem, WalksToStop}
use Rattle.tool_records.proofs.WalksRead.{told_items, told_last, any_session, ReadsRecords-items, ReadsRecords-item}
use Rattle.tool_stream.specs.Show.{item_line, item_lines, lines_read, show_line, show_ending, show_promise, takes_all, AreLinesBegun}
use Rattle.tool_stream.specs.steps.Shown.{HasShown}
use Rattle.tool_stream.proofs.ShowLines.{count-append, item_lines-more, no_lines, lines_begun, lines_front, whole_lines}

-- ---- one item after another

-- nothing was shown yet
pub HasShown-nothing : (session : SessionData) (start : OutputState) → HasShown 0 0 session [] start start (Ok takes.GoesOn)
unfolding packets_of item_lines
HasShown-nothing session start = record { as_far = record { counted = refl; packets_are = refl; written = Writes-nothing start } }

-- the lines so far, and then one more or a part of it
lines_with : (session : SessionData) (list : List Item) (item : Item) (start now after : OutputState) (stop : Option Stop)
    → Writes start now (item_lines session list) None → Writes now after (item_line session item) stop
    → Writes start after (item_lines session (list ++ item ∷ [])) stop
lines_with session list item start now after stop so_far line = Writes-same (sym (item_lines-more session list item)) (Writes-after so_far line)

-- an item's line was written, and it is counted
pub HasShown-more : (h p k q : ℕ) (session : SessionData) (list : List Item) (item : Item) (start now after : OutputState)
    → HasShown h p session list start now (Ok takes.GoesOn) → Writes now after (item_line session item) None
    → k + q ≡ h + p + 1 → q ≡ p + length (packets_of (item ∷ [])) → HasShown k q session (list ++ item ∷ []) start after (Ok takes.GoesOn)
HasShown-more h p k q session list item start now after s w all packets = record {
  as_far = record {
    counted = all ∙ ap (λ (n : ℕ). n + 1) s.as_far.counted ∙ sym (length-append list (item ∷ []));
    packets_are = packets ∙ ap (λ (n : ℕ). n + length (packets_of (item ∷ []))) s.as_far.packets_are ∙ sym (count-append list (item ∷ []));
    written = lines_with session list item start now after None s.as_far.written w;
  };
}

-- its line was cut short, and a `?` passes on why
pub HasShown-cut : (h p : ℕ) (session : SessionData) (list : List Item) (item : Item) (start now after : OutputState) (stop : Stop) (result : Result Next Stop)
    → IsErrAnd result (λ y. y ≡ stop) → HasShown h p session list start now (Ok takes.GoesOn) → Writes now after (item_line session item) (Some stop)
    → HasShown h p session (list ++ item ∷ []) start after result
HasShown-cut h p session list item start now after stop result is s w =
    let e = err_from_is_err_and result is in
    subst (λ (r : Result Next Stop). HasShown h p session (list ++ item ∷ []) start after r) (sym e.1)
    (subst (λ (x : Stop). HasShown h p session (list ++ item ∷ []) start after (Err x)) (sym e.2)
    (record { as_far = lines_with session list item start now after (Some stop) s.as_far.written w }))

-- ---- the run is cut short

-- the lines of the items so far
so_far : (h p : ℕ) (known : Option SessionData) (list : List Item) (front : List ℕ) (start now : OutputState) → AreRecords known list front
    → GivenSoFar (HasShown h p) known list start now → Writes start now (lines_read known list) None
so_far h p None list front start now records given = Writes-same (no_lines any_session list records.1) (given any_session).as_far.written
so_far h p (Some session) list front start now records given = given.as_far.written

-- memory ran out after whole lines
memory : (start now : Ends) (input lines : List ℕ) → IsTold start.input.left input → ReadsRecords takes_all start.input.left now.input.left
    → now.input.faults ≡ start.input.faults → AreLinesBegun input lines → Writes start.output now.output lines None
    → AttemptsUncounted show_promise start now (Err stops.Memory)
memory start now input lines told reads no_fault begun w = λ c d. record {
  input = input;
  told = told;
  read = reads;
  as_far = record {
    input_fault = no_fault;
    output = record { part = lines; is_part = begun; written = w.as_far.0 };
    output_fault = w.as_far.1;
  };
}

-- a part of the lines of the items that were read
part_of : (h p : ℕ) (start now : Ends) (stop : Stop) (w : WalksToItem (HasShown h p) start now (Err stop)) (rest : List ℕ)
    → AppendsPrefix start.output.written now.output.written (item_lines w.session (w.list ++ w.item ∷ []))
    → WritesPart show_promise ((w.reads.front ++ record_of w.session w.item) ++ rest) start.output now.output
part_of h p start now stop w rest prefix =
    let list : List Item = w.list ++ w.item ∷ [] in
    record {
      part = take prefix.count (item_lines w.session list);
      is_part = lines_front w.session (w.reads.front ++ record_of w.session w.item) rest list prefix.count w.reads.file;
      written = prefix.front;
    }

cut_as : (h p : ℕ) (start now : Ends) (c d : Counters) (stop : Stop) (w : WalksToItem (HasShown h p) start now (Err stop)) (rest : List ℕ)
    → AppendsAsFar start.output now.output (item_lines w.session (w.list ++ w.item ∷ [])) (Some stop)
    → AttemptsAs show_promise ((w.reads.front ++ record_of w.session w.item) ++ rest) start now c d (Err stop)
cut_as h p start now c d stops.WriteFault w rest a =
    record { input_fault = w.no_fault; output = part_of h p start now stops.WriteFault w rest a.0; output_fault = a.1 }
cut_as h p start now c d stops.Memory w rest a =
    record { input_fault = w.no_fault; output = part_of h p start now stops.Memory w rest a.0; output_fault = a.1 }
cut_as h p start now c d stops.ReadFault w rest a = absurd a

-- the last line was cut short
cut : (h p : ℕ) (start now : Ends) (stop : Stop) → WalksToItem (HasShown h p) start now (Err stop) → AttemptsUncounted show_promise start now (Err stop)
cut h p start now stop w =
    let told = told_last w.reads in
    λ c d. record {
      input = (w.reads.front ++ record_of w.session w.item) ++ told.0;
      told = told.1;
      read = ReadsRecords-item takes_all w.session w.list w.item start.input.left now.input.left tt w.reads;
      as_far = cut_as h p start now c d stop w told.0 w.given.as_far.as_far;
    }

-- no further record could be read
not_read : (h p : ℕ) (start now : Ends) (stop : Stop) → WalksToStop (HasShown h p) start now stop → AttemptsUncounted show_promise start now (Err stop)
unfolding ReadsRecords-items
not_read h p start now stops.ReadFault w =
    let told = told_items w.reads in
    let reads = ReadsRecords-items takes_all w.session w.list start.input.left now.input.left tt w.reads in
    let lines = so_far h p w.session w.list w.reads.front start.output now.output w.reads.records w.given in
    λ c d. record {
      input = w.reads.front ++ told.0;
      told = told.1;
      read = reads;
      as_far = record {
        input_fault = w.faults;
        output = record {
          part = lines_read w.session w.list;
          is_part = record { reads = reads; lines = refl };
          written = lines.as_far.0;
        };
        output_fault = lines.as_far.1;
      };
    }
not_read h p start now stops.Memory w =
    let told = told_items w.reads in
    memory start now (w.reads.front ++ told.0) (lines_read w.session w.list) told.1
    (ReadsRecords-items takes_all w.session w.list start.input.left now.input.left tt w.reads)
    w.faults (lines_begun w.session w.reads.front told.0 w.list w.reads.records)
    (so_far h p w.session w.list w.reads.front start.output now.output w.reads.records w.given)
not_read h p start now stops.WriteFault w = absurd w.faults

pub Attempts-stopped : (h p : ℕ) (start now : Ends) (stop : Stop) → Walks (HasShown h p) start now (Err stop) → AttemptsUncounted show_promise start now (Err stop)
Attempts-stopped h p start now stop w =
    elim w.as_far [
      | inl item ↦ cut h p start now stop item
      | inr reading ↦ not_read h p start now stop reading
    ]

-- ---- the walk ends

-- memory ran out for the notes line
pub Attempts-unsaid : (h p : ℕ) (start now : Ends) (end : WalkEnd) → Walks (HasShown h p) start now (Ok end) → AttemptsUncounted show_promise start now (Err stops.Memory)
Attempts-unsaid h p start now walks.Whole w =
    let q : WalksToEnd (HasShown h p) start now = w.as_far in
    memory start now q.input (item_lines q.session q.list) q.told
    (ReadsRecords-items takes_all (Some q.session) q.list start.input.left now.input.left tt q.reads)
    q.no_fault (whole_lines q.input (Some q.session) q.list None q.file) q.given.as_far.written
Attempts-unsaid h p start now (walks.Refused end) w =
    let q : WalksToRefusal (HasShown h p) start now end = w.as_far in
    memory start now q.input (lines_read q.session q.list) q.told
    (ReadsRecords-items takes_all q.session q.list start.input.left now.input.left tt q.reads)
    q.no_fault (whole_lines q.input q.session q.list (Some end) q.reading)
    (so_far h p q.session q.list q.reads.front start.output now.output q.reads.records q.given)
Attempts-unsaid h p start now walks.Halted w = absurd w.as_far.given.as_far

-- the whole input was shown
pub Attempts-whole : (h p : ℕ) (start now : Ends) (finish : Finish) → Walks (HasShown h p) start now (Ok walks.Whole)
    → finish.status ≡ statuses.Done → string_bytes finish.line ≡ show_line h p → AttemptsUncounted show_promise start now (Ok finish)
Attempts-whole h p start now finish w status line =
    let q : WalksToEnd (HasShown h p) start now = w.as_far in
    let s = q.given.as_far in
    let headers : h ≡ length q.list - length (packets_of q.list) = omega (arith, s.counted, s.packets_are) in
    λ c d. record {
      input = q.input;
      told = q.told;
      read = ReadsRecords-items takes_all (Some q.session) q.list start.input.left now.input.left tt q.reads;
      as_far = record {
        ending = show_ending (Some q.session) q.list None;
        is_ending = record { session = Some q.session; list = q.list; end = None; reading = q.file; ending_is = refl };
        status_is = status;
        of_ending = subst IsOfEnding (sym status) tt;
        line_is = line ∙ ap (λ (n : ℕ). show_line n p) headers
            ∙ ap (show_line (length q.list - length (packets_of q.list))) s.packets_are;
        read = q.end;
        worked = tt;
        input_fault = q.no_fault;
        output = s.written.as_far.0;
        output_fault = s.written.as_far.1;
      };
    }

-- the input is refused
pub Attempts-refused : (h p : ℕ) (start now : Ends) (end : ReadEnd) (finish : Finish) → Walks (HasShown h p) start now (Ok (walks.Refused end))
    → finish.status ≡ refusal_status end → string_bytes finish.line ≡ refusal_line end → AttemptsUncounted show_promise start now (Ok finish)
Attempts-refused h p start now end finish w status line =
    let q : WalksToRefusal (HasShown h p) start now end = w.as_far in
    let lines = so_far h p q.session q.list q.reads.front start.output now.output q.reads.records q.given in
    λ c d. record {
      input = q.input;
      told = q.told;
      read = ReadsRecords-items takes_all q.session q.list start.input.left now.input.left tt q.reads;
      as_far = record {
        ending = refusal_ending (lines_read q.session q.list) end;
        is_ending = record { session = q.session; list = q.list; end = Some end; reading = q.reading; ending_is = refl };
        status_is = status;
        of_ending = subst IsOfEnding (sym status) q.of_input;
        line_is = line;
        read = tt;
        worked = tt;
        input_fault = q.no_fault;
        output = lines.as_far.0;
        output_fault = lines.as_far.1;
      };
    }
