-- A command that keeps packets, from its walk over the records: what its run has done, however the walk ended.
use Rattle.std.proofs.Common.{ℕ, ◌≡◌, List, [], ◌∷◌, ◌++◌, take, Option, None, Some, Result, Ok, Err, refl, sym, ap, ◌∙◌, subst, arith, inl, inr}
use Rattle.std.specs.Prelude.{string_bytes}
use Rattle.std.specs.Result.{IsErrAnd}
use Rattle.std.proofs.lemmas.Bool.{cases_lt}
use Rattle.std.proofs.lemmas.Result.{err_from_is_err_and}
use Rattle.bats_io.specs.Sink.{Appends}
use Rattle.bats_io.specs.Streams.{OutputState, IsTold}
use Rattle.bats_io.proofs.Appended.{appended-nil}
use Rattle.bats_model.specs.Session.{SessionData}
use Rattle.bats_model.specs.Kept.{kept_count}
use Rattle.bats_model.specs.PacketFile.{IsPacketFile, packets_of, record_of}
use Rattle.bats_model.specs.declared.item.Item.{Item}
use Rattle.bats_model.specs.declared.read_end.ReadEnd.{ReadEnd}
use Rattle.bats_batch.specs.Held.{max_kept}
use Rattle.tool_run.specs.declared.finish.Finish.{Finish}
use Rattle.tool_run.specs.declared.stop.Stop.{Stop}
use Rattle.tool_run.specs.declared.stop.Stop.TheVariants as stops
use Rattle.tool_run.specs.Attempt.{Attempts, AttemptsAs, AttemptsUncounted, IsOfEnding}
use Rattle.tool_run.specs.Ending.{Ending, HasRead, HasWorked}
use Rattle.tool_run.specs.Promise.{Keeps}
use Rattle.tool_run.specs.Streams.{Counters, Ends}
use Rattle.tool_run.specs.Writes.{Writes, AppendsAsFar}
use Rattle.tool_run.proofs.Begun.{IsBegun-whole, IsBegun-front}
use Rattle.tool_records.specs.declared.walking.Next.{Next}
use Rattle.tool_records.specs.declared.walking.Next.TheVariants as takes
use Rattle.tool_records.specs.declared.walking.WalkEnd.TheVariants as walks
use Rattle.tool_records.specs.Keeping.{AreFew, RefusesAfterFew, PassesLimit, StopsKeeping, kept_limit_ending, keeping_promise}
use Rattle.tool_records.specs.Reading.{IsReading, refusal_ending}
use Rattle.tool_records.specs.ReadsRecords.{ReadsRecords}
use Rattle.tool_records.specs.Walk.{AreRecords, Gives, GivenSoFar, ReadsLast, Walks, WalksToEnd, WalksToRefusal, WalksToItem, WalksToStop}
use Rattle.tool_records.specs.steps.Came.{CameAfterFew, EndsFull}
use Rattle.tool_records.specs.steps.Kept.{FinishesBy}
use Rattle.tool_records.proofs.KeptItems.{AreFew-nothing, MeetsFull-ends, few_before_last}
use Rattle.tool_run.proofs.AtOnce.{MayStopAtOnce}
use Rattle.tool_records.proofs.WalksRead.{ReadsRecords-nothing, told_items, told_last, any_session, ReadsRecords-items, ReadsRecords-item, ReadsRecords-last}

-- ---- what any command has done that keeps packets

-- no more of the items' packets are kept than may be, or the last is a packet too many, or memory ran out for it
abbrev pub KeepsFewAs : SessionData → List Item → Result Next Stop → Type 0
KeepsFewAs session list (Ok takes.GoesOn) = AreFew list
KeepsFewAs session list (Ok takes.Halts) = EndsFull session list
KeepsFewAs session list (Err stop) = (stop ≡ stops.Memory) × CameAfterFew session list

-- and nothing was written
pub record KeepsFew (session : SessionData) (list : List Item) (start now : OutputState) (result : Result Next Stop) : Type 0 where
  pub as_far : KeepsFewAs session list result
  pub nothing_written : now ≡ start

pub keeping_promise-keeps : (ends : List ℕ → Ending → Type 0) → Keeps (keeping_promise ends)
keeping_promise-keeps ends = record { whole = λ input ending e. IsBegun-whole ends input ending e }

-- it may stop before it has read anything
pub keeping_promise-at_once : (ends : List ℕ → Ending → Type 0) → MayStopAtOnce (keeping_promise ends)
keeping_promise-at_once ends = record { reads = λ left. ReadsRecords-nothing AreFew left; partly = λ input. inl refl }

-- few are kept of the items before the next
few_so_far : (session : Option SessionData) (list : List Item) (front : List ℕ) (o p : OutputState) → AreRecords session list front
    → GivenSoFar KeepsFew session list o p → AreFew list
few_so_far None list front o p records h = AreFew-nothing list records.1
few_so_far (Some session) list front o p records h = h.as_far

nothing_so_far : (session : Option SessionData) (list : List Item) (o p : OutputState) → GivenSoFar KeepsFew session list o p → p ≡ o
nothing_so_far None list o p h = (h any_session).nothing_written
nothing_so_far (Some session) list o p h = h.nothing_written

-- one item more was read, after few
reads_one_more : (session : SessionData) (list : List Item) (item : Item) (before after : Option (List ℕ)) → AreFew list
    → ReadsLast session list item before after → ReadsRecords AreFew before after
reads_one_more session list item before after few q =
    elim (cases_lt max_kept (kept_count (packets_of (list ++ item ∷ [])))) [
      | inl many ↦ ReadsRecords-last AreFew session list item before after few (λ under. omega (arith, many, under)) q
      | inr under ↦ ReadsRecords-item AreFew session list item before after under q
    ]

unwritten : (o p : OutputState) → p ≡ o → Appends o.written p.written []
unwritten o p e = ap (λ (x : OutputState). x.written) e ∙ sym (appended-nil o.written)

-- ---- an ending that nothing is written for

-- a `?` passes on that memory ran out for it
pub FinishesBy-exit : (ending : Ending) (result : Result Finish Stop) → IsErrAnd result (λ y. y ≡ stops.Memory) → FinishesBy ending result
FinishesBy-exit ending result is =
    let e = err_from_is_err_and result is in subst (λ (r : Result Finish Stop). FinishesBy ending r) (sym e.1) e.2

-- what was read makes the ending a right one, and nothing was written
record HasEnding (ends : List ℕ → Ending → Type 0) (start now : Ends) (ending : Ending) : Type 0 where
  input : List ℕ
  told : IsTold start.input.left input
  is_ending : ends input ending
  of_ending : IsOfEnding ending.status
  no_output : ending.output ≡ []
  no_work : ending.work ≡ None
  reach : HasRead ending.reach start.input.left now.input.left
  reads : ReadsRecords AreFew start.input.left now.input.left
  no_fault : now.input.faults ≡ start.input.faults
  nothing : now.output ≡ start.output

-- ---- what the input is

-- it is refused, after few packets were kept
RefusesAfterFew-reading : (input : List ℕ) (session : Option SessionData) (list : List Item) (end : ReadEnd)
    → IsReading input session list (Some end) → AreFew list → RefusesAfterFew input (refusal_ending [] end)
RefusesAfterFew-reading input None list end reading few = record { end = end; refused = inl reading.1; ending_is = refl }
RefusesAfterFew-reading input (Some session) list end reading few =
    record { end = end; refused = inr (session, list, reading, few); ending_is = refl }

pub RefusesAfterFew-walked : (start now : Ends) (end : ReadEnd) → (w : WalksToRefusal KeepsFew start now end) → RefusesAfterFew w.input (refusal_ending [] end)
RefusesAfterFew-walked start now end w =
    RefusesAfterFew-reading w.input w.session w.list end w.reading
    (few_so_far w.session w.list w.reads.front start.output now.output w.reads.records w.given)

-- or a packet too many came
pub PassesLimit-walked : (start now : Ends) (w : WalksToItem KeepsFew start now (Ok takes.Halts)) (rest : List ℕ)
    → PassesLimit ((w.reads.front ++ record_of w.session w.item) ++ rest) kept_limit_ending
PassesLimit-walked start now w rest =
    let meets = MeetsFull-ends w.session w.list w.item w.given.as_far in
    let front : List ℕ = w.reads.front ++ record_of w.session w.item in
    record {
      session = w.session;
      list = w.list;
      at = meets.at;
      packet = meets.packet;
      front = front;
      rest = rest;
      is_front = record {
        file = subst (λ (i : Item). IsPacketFile w.session (w.list ++ i ∷ []) front) meets.item_is w.reads.file;
        split = refl;
      };
      few = meets.few;
      full = subst (λ (i : Item). ¬ AreFew (w.list ++ i ∷ [])) meets.item_is meets.full;
      ending_is = refl;
    }

module _ (ends : List ℕ → Ending → Type 0) (start now : Ends) where
  -- memory ran out before anything was written
  lacks_memory : (input : List ℕ) → IsTold start.input.left input → ReadsRecords AreFew start.input.left now.input.left
      → now.input.faults ≡ start.input.faults → now.output ≡ start.output → AttemptsUncounted (keeping_promise ends) start now (Err stops.Memory)
  lacks_memory input told reads no_fault nothing = λ c d. record {
    input = input;
    told = told;
    read = reads;
    as_far = record {
      input_fault = no_fault;
      output = record { part = []; is_part = inl refl; written = unwritten start.output now.output nothing };
      output_fault = ap (λ (x : OutputState). x.faults) nothing;
    };
  }

  ends_by : (ending : Ending) (result : Result Finish Stop) → HasEnding ends start now ending → FinishesBy ending result
      → AttemptsUncounted (keeping_promise ends) start now result
  ends_by ending (Ok finish) q e = λ c d. record {
    input = q.input;
    told = q.told;
    read = q.reads;
    as_far = record {
      ending = ending;
      is_ending = q.is_ending;
      status_is = e.0;
      of_ending = subst IsOfEnding (sym e.0) q.of_ending;
      line_is = e.1;
      read = q.reach;
      worked = subst (λ (most : Option ℕ). HasWorked most c d) (sym q.no_work) tt;
      input_fault = q.no_fault;
      output = subst (λ (bytes : List ℕ). Appends start.output.written now.output.written bytes) (sym q.no_output)
          (unwritten start.output now.output q.nothing);
      output_fault = ap (λ (x : OutputState). x.faults) q.nothing;
    };
  }
  ends_by ending (Err stop) q e =
      subst (λ (x : Stop). AttemptsUncounted (keeping_promise ends) start now (Err x)) (sym e)
      (lacks_memory q.input q.told q.reads q.no_fault q.nothing)

  -- ---- the input isn't taken whole

  -- it is refused
  pub Attempts-refused : ((input : List ℕ) (ending : Ending) → StopsKeeping input ending → ends input ending) → (end : ReadEnd)
      (result : Result Finish Stop) → Walks KeepsFew start now (Ok (walks.Refused end)) → FinishesBy (refusal_ending [] end) result
      → AttemptsUncounted (keeping_promise ends) start now result
  Attempts-refused stopping end result walked finishes =
      let w : WalksToRefusal KeepsFew start now end = walked.as_far in
      ends_by (refusal_ending [] end) result (record {
        input = w.input;
        told = w.told;
        is_ending = stopping w.input (refusal_ending [] end) (inl (RefusesAfterFew-walked start now end w));
        of_ending = w.of_input;
        no_output = refl;
        no_work = refl;
        reach = tt;
        reads = ReadsRecords-items AreFew w.session w.list start.input.left now.input.left
            (few_so_far w.session w.list w.reads.front start.output now.output w.reads.records w.given) w.reads;
        no_fault = w.no_fault;
        nothing = nothing_so_far w.session w.list start.output now.output w.given;
      }) finishes

  -- a packet too many came
  pub Attempts-full : ((input : List ℕ) (ending : Ending) → StopsKeeping input ending → ends input ending)
      → (result : Result Finish Stop) → Walks KeepsFew start now (Ok walks.Halted) → FinishesBy kept_limit_ending result
      → AttemptsUncounted (keeping_promise ends) start now result
  Attempts-full stopping result walked finishes =
      let w : WalksToItem KeepsFew start now (Ok takes.Halts) = walked.as_far in
      let meets = MeetsFull-ends w.session w.list w.item w.given.as_far in
      let told = told_last w.reads in
      let input : List ℕ = (w.reads.front ++ record_of w.session w.item) ++ told.0 in
      ends_by kept_limit_ending result (record {
        input = input;
        told = told.1;
        is_ending = stopping input kept_limit_ending (inr (PassesLimit-walked start now w told.0));
        of_ending = tt;
        no_output = refl;
        no_work = refl;
        reach = tt;
        reads = ReadsRecords-last AreFew w.session w.list w.item start.input.left now.input.left meets.few meets.full w.reads;
        no_fault = w.no_fault;
        nothing = w.given.nothing_written;
      }) finishes

  -- ---- the walk stopped

  -- memory ran out for an item
  stopped_at_item : (stop : Stop) → WalksToItem KeepsFew start now (Err stop) → AttemptsUncounted (keeping_promise ends) start now (Err stop)
  stopped_at_item stop w =
      let told = told_last w.reads in
      subst (λ (x : Stop). AttemptsUncounted (keeping_promise ends) start now (Err x)) (sym w.given.as_far.0)
      (lacks_memory ((w.reads.front ++ record_of w.session w.item) ++ told.0) told.1
      (reads_one_more w.session w.list w.item start.input.left now.input.left (few_before_last w.session w.list w.item w.given.as_far.1) w.reads)
      w.no_fault w.given.nothing_written)

  -- no further record could be read
  stopped_reading : (stop : Stop) → WalksToStop KeepsFew start now stop → AttemptsUncounted (keeping_promise ends) start now (Err stop)
  stopped_reading stops.ReadFault w =
      let told = told_items w.reads in
      let nothing = nothing_so_far w.session w.list start.output now.output w.given in
      λ c d. record {
        input = w.reads.front ++ told.0;
        told = told.1;
        read = ReadsRecords-items AreFew w.session w.list start.input.left now.input.left
            (few_so_far w.session w.list w.reads.front start.output now.output w.reads.records w.given) w.reads;
        as_far = record {
          input_fault = w.faults;
          output = record { part = []; is_part = refl; written = unwritten start.output now.output nothing };
          output_fault = ap (λ (x : OutputState). x.faults) nothing;
        };
      }
  stopped_reading stops.Memory w =
      let told = told_items w.reads in
      lacks_memory (w.reads.front ++ told.0) told.1
      (ReadsRecords-items AreFew w.session w.list start.input.left now.input.left
      (few_so_far w.session w.list w.reads.front start.output now.output w.reads.records w.given) w.reads)
      w.faults (nothing_so_far w.session w.list start.output now.output w.given)
  stopped_reading stops.WriteFault w = absurd w.faults

  pub Attempts-stopped : (stop : Stop) → Walks KeepsFew start now (Err stop) → AttemptsUncounted (keeping_promise ends) start now (Err stop)
  Attempts-stopped stop w =
      elim w.as_far [
        | inl item ↦ stopped_at_item stop item
        | inr reading ↦ stopped_reading stop reading
      ]

-- ---- the whole input was taken

-- and memory ran out before anything was written
pub Attempts-unwritten : (ends : List ℕ → Ending → Type 0) (start now : Ends) → Walks KeepsFew start now (Ok walks.Whole)
    → AttemptsUncounted (keeping_promise ends) start now (Err stops.Memory)
Attempts-unwritten ends start now walked =
    let w : WalksToEnd KeepsFew start now = walked.as_far in
    lacks_memory ends start now w.input w.told
    (ReadsRecords-items AreFew (Some w.session) w.list start.input.left now.input.left w.given.as_far w.reads)
    w.no_fault w.given.nothing_written

-- the output of a right ending was begun
begun_as : (ends : List ℕ → Ending → Type 0) (input : List ℕ) (start now : Ends) (c d : Counters) (ending : Ending) (stop : Stop) → ends input ending
    → now.input.faults ≡ start.input.faults → Writes start.output now.output ending.output (Some stop)
    → AttemptsAs (keeping_promise ends) input start now c d (Err stop)
begun_as ends input start now c d ending stops.WriteFault is no_fault writes =
    let w : AppendsAsFar start.output now.output ending.output (Some stops.WriteFault) = writes.as_far in
    record {
      input_fault = no_fault;
      output = record {
        part = take w.0.count ending.output;
        is_part = IsBegun-front ends input ending w.0.count is;
        written = w.0.front;
      };
      output_fault = w.1;
    }
begun_as ends input start now c d ending stops.Memory is no_fault writes =
    let w : AppendsAsFar start.output now.output ending.output (Some stops.Memory) = writes.as_far in
    record {
      input_fault = no_fault;
      output = record {
        part = take w.0.count ending.output;
        is_part = IsBegun-front ends input ending w.0.count is;
        written = w.0.front;
      };
      output_fault = w.1;
    }
begun_as ends input start now c d ending stops.ReadFault is no_fault writes = absurd writes.as_far

-- the output of a right ending was written after the walk, or begun
abbrev pub EndsAs : Ending → OutputState → OutputState → Result Finish Stop → Type 0
EndsAs ending before after (Ok finish) =
    (finish.status ≡ ending.status) × (string_bytes finish.line ≡ ending.line) × Writes before after ending.output None
EndsAs ending before after (Err stop) = Writes before after ending.output (Some stop)

ended_as : (ends : List ℕ → Ending → Type 0) (input : List ℕ) (start now : Ends) (c d : Counters) (ending : Ending) (result : Result Finish Stop)
    → ends input ending → IsOfEnding ending.status → HasRead ending.reach start.input.left now.input.left → HasWorked ending.work c d
    → now.input.faults ≡ start.input.faults → EndsAs ending start.output now.output result
    → AttemptsAs (keeping_promise ends) input start now c d result
ended_as ends input start now c d ending (Ok finish) is of_ending reach worked no_fault done = record {
  ending = ending;
  is_ending = is;
  status_is = done.0;
  of_ending = subst IsOfEnding (sym done.0) of_ending;
  line_is = done.1;
  read = reach;
  worked = worked;
  input_fault = no_fault;
  output = done.2.as_far.0;
  output_fault = done.2.as_far.1;
}
ended_as ends input start now c d ending (Err stop) is of_ending reach worked no_fault cut = begun_as ends input start now c d ending stop is no_fault cut

-- after the walk of any taker that has kept few of the items' packets and has written nothing
pub Attempts-ended : (ends : List ℕ → Ending → Type 0) (gives : Gives) (start now : Ends) (c d : Counters) (after : OutputState) (ending : Ending)
    (result : Result Finish Stop) → (w : WalksToEnd gives start now) → AreFew w.list → now.output ≡ start.output
    → ends w.input ending → IsOfEnding ending.status → HasRead ending.reach start.input.left now.input.left → HasWorked ending.work c d
    → EndsAs ending now.output after result → Attempts (keeping_promise ends) start (record { input = now.input; output = after }) c d result
Attempts-ended ends gives start now c d after ending result w few nothing is of_ending reach worked done =
    let written : EndsAs ending start.output after result = subst (λ (o : OutputState). EndsAs ending o after result) nothing done in
    record {
      input = w.input;
      told = w.told;
      read = ReadsRecords-items AreFew (Some w.session) w.list start.input.left now.input.left few w.reads;
      as_far = ended_as ends w.input start (record { input = now.input; output = after }) c d ending result is of_ending reach worked w.no_fault written;
    }
