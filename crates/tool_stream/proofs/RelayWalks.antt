-- `relay`, from its walk over the records and from what it sends.
use Rattle.std.proofs.Common.{ℕ, ◌≡◌, Bool, List, [], ◌++◌, length, Option, None, Some, Result, Ok, Err, refl, sym, ap, ◌∙◌, subst, append-nil, inl, inr}
use Rattle.std.specs.Prelude.{string_bytes}
use Rattle.std.specs.Result.{IsErrAnd}
use Rattle.std.proofs.lemmas.List.{length-map}
use Rattle.std.proofs.lemmas.Result.{err_from_is_err_and}
use Rattle.bats_io.specs.Streams.{InputState, OutputState}
use Rattle.bats_format.specs.Taking.{FirstStops}
use Rattle.bats_model.specs.Session.{SessionData}
use Rattle.bats_model.specs.Records.{header_record}
use Rattle.bats_model.specs.Kept.{kept_count}
use Rattle.bats_model.specs.PacketFile.{packets_of}
use Rattle.bats_model.specs.declared.item.Item.{Item}
use Rattle.bats_model.specs.declared.read_end.ReadEnd.{ReadEnd}
use Rattle.bats_batch.specs.Held.{HeldBatch}
use Rattle.tool_run.specs.declared.finish.Finish.{Finish}
use Rattle.tool_run.specs.declared.status.Status.TheVariants as statuses
use Rattle.tool_run.specs.declared.stop.Stop.{Stop}
use Rattle.tool_run.specs.declared.stop.Stop.TheVariants as stops
use Rattle.tool_run.specs.Attempt.{AttemptsUncounted}
use Rattle.tool_run.specs.Ending.{Ending}
use Rattle.tool_run.specs.Promise.{Keeps as HasPromise}
use Rattle.tool_run.specs.Streams.{Ends}
use Rattle.tool_run.specs.Writes.{Writes}
use Rattle.tool_run.proofs.Writing.{Writes-same, Writes-exit_memory}
use Rattle.tool_records.specs.Keeping.{AreFew, StopsKeeping, keeping_promise}
use Rattle.tool_records.specs.Walk.{WalksToEnd}
use Rattle.tool_records.specs.steps.Kept.{FinishesUnopened, Keeps, KeepsAll}
use Rattle.bats_batch.proofs.HeldNumbers.{numbers_of, AreHeld-numbers}
use Rattle.tool_records.proofs.Keepers.{Attempts-stopping, Attempts-unopened}
use Rattle.tool_records.proofs.KeptWalks.{keeping_promise-keeps, Attempts-ended}
use Rattle.tool_stream.specs.declared.keeping.Intake.{Intake}
use Rattle.tool_stream.specs.Relay.{IsRelayEnding, output_count, relay_line, relay_promise, relayed_ending}
use Rattle.tool_stream.specs.steps.Keeping.{HasTakenIn, taken_in}
use Rattle.tool_stream.specs.steps.Sending.{held_records, sent_count}
use Rattle.tool_stream.specs.steps.Relaying.{SendsAs, SendsRight, CannotSend}
use Rattle.tool_stream.proofs.SentNumbers.{held_records-sent, sent_count-sent}

-- what the run of `relay` rests on
pub relay_promise-keeps : (seed : List ℕ) (extra : Bool) (count : ℕ) → HasPromise (relay_promise seed extra count)
relay_promise-keeps seed extra count = keeping_promise-keeps (IsRelayEnding seed extra count)

-- ---- what is sent of an intake

-- the ending of what was taken in
abbrev ending_of : List ℕ → Bool → ℕ → SessionData → List Item → Intake → Ending
ending_of seed extra count session list intake =
    relayed_ending session seed (output_count session extra count) (packets_of list) (numbers_of intake.mixer.held.batches)

-- what is written of it
abbrev written_of : Bool → ℕ → Intake → List ℕ
written_of extra count intake =
    header_record intake.session ++ held_records intake.session intake.mixer.seed (output_count intake.session extra count) intake.mixer.held.batches

module _ (seed : List ℕ) (extra : Bool) (count : ℕ) (session : SessionData) (list : List Item) (intake : Intake) (s : HasTakenIn seed session (packets_of list) intake) where
  output_same : (ending_of seed extra count session list intake).output ≡ written_of extra count intake
  output_same =
      let batches : List HeldBatch = intake.mixer.held.batches in
      ap (λ (xs : List ℕ). header_record session ++ xs)
      (sym (held_records-sent session seed (output_count session extra count) (packets_of list) intake.mixer.held s.stands))
      ∙ ap (λ (t : SessionData). header_record t ++ held_records t seed (output_count t extra count) batches) (sym s.session_is)
      ∙ ap (λ (xs : List ℕ). header_record intake.session ++ held_records intake.session xs (output_count intake.session extra count) batches) (sym s.seed_is)

  cannot_send : (before after : OutputState) (stop : Stop) → Writes before after (written_of extra count intake) (Some stop)
      → CannotSend seed extra count session list before after stop
  cannot_send before after stop w = record {
    numbers = numbers_of intake.mixer.held.batches;
    held = AreHeld-numbers (packets_of list) intake.mixer.held s.stands;
    written = Writes-same output_same w;
  }

  -- it could not be written, and a `?` passes on why
  pub SendsAs-cut : (before after : OutputState) (stop : Stop) (result : Result Finish Stop) → IsErrAnd result (λ y. y ≡ stop)
      → Writes before after (written_of extra count intake) (Some stop) → SendsAs seed extra count session list before after result
  SendsAs-cut before after stop result is w =
      let e = err_from_is_err_and result is in
      subst (λ (r : Result Finish Stop). SendsAs seed extra count session list before after r) (sym e.1)
      (subst (λ (x : Stop). SendsAs seed extra count session list before after (Err x)) (sym e.2) (cannot_send before after stop w))

  -- it was written, and memory ran out for the notes line
  pub SendsAs-unsaid : (before after : OutputState) (result : Result Finish Stop) → IsErrAnd result (λ y. y ≡ stops.Memory)
      → Writes before after (written_of extra count intake) None → SendsAs seed extra count session list before after result
  SendsAs-unsaid before after result is w =
      let failed : Result Finish Stop = Err stops.Memory in
      SendsAs-cut before after stops.Memory result is
      (Writes-exit_memory failed [] (sym (append-nil (written_of extra count intake))) refl w)

  -- it was written and told
  pub SendsAs-done : (before after : OutputState) (finish : Finish) (packets kept batches sent : ℕ)
      → Writes before after (written_of extra count intake) None → finish.status ≡ statuses.Done
      → string_bytes finish.line ≡ relay_line packets kept batches sent → packets ≡ intake.packets → kept ≡ kept_count (packets_of list)
      → batches ≡ length intake.mixer.held.batches → sent ≡ sent_count (output_count intake.session extra count) intake.mixer.held.batches
      → SendsAs seed extra count session list before after (Ok finish)
  SendsAs-done before after finish packets kept batches sent w status line packets_are kept_are batches_are sent_are =
      let numbers : List ℕ = numbers_of intake.mixer.held.batches in
      let all : batches ≡ length numbers =
      batches_are ∙ sym (length-map intake.mixer.held.batches (λ (batch : HeldBatch). batch.number)) in
      let made = sent_are
      ∙ ap (λ (t : SessionData). sent_count (output_count t extra count) intake.mixer.held.batches) s.session_is
      ∙ sent_count-sent session seed (output_count session extra count) (packets_of list) intake.mixer.held s.stands in
      record {
        numbers = numbers;
        held = AreHeld-numbers (packets_of list) intake.mixer.held s.stands;
        status = status;
        line =
            line ∙ ap (λ (n : ℕ). relay_line n kept batches sent) (packets_are ∙ s.counted)
            ∙ ap (λ (n : ℕ). relay_line (length (packets_of list)) n batches sent) kept_are
            ∙ ap (λ (n : ℕ). relay_line (length (packets_of list)) (kept_count (packets_of list)) n sent) all
            ∙ ap (relay_line (length (packets_of list)) (kept_count (packets_of list)) (length numbers)) made;
        written = Writes-same output_same w;
      }

-- ---- all was taken in, and sent

-- so a relay ends whose input isn't taken whole
pub relay-stopped : (seed : List ℕ) (extra : Bool) (count : ℕ) (start now : Ends) (result : Result Finish Stop)
    → AttemptsUncounted (keeping_promise StopsKeeping) start now result → AttemptsUncounted (relay_promise seed extra count) start now result
relay-stopped seed extra count start now result a =
    Attempts-stopping (IsRelayEnding seed extra count) (λ input ending stops. inr stops) start now result a

pub relay-unopened : (seed : List ℕ) (extra : Bool) (count : ℕ) (start : Ends) (z : InputState) (end : ReadEnd) (result : Result Finish Stop)
    → FirstStops start.input z [] end → FinishesUnopened end result
    → AttemptsUncounted (relay_promise seed extra count) start (record { input = z; output = start.output }) result
relay-unopened seed extra count start z end result s f =
    Attempts-unopened (IsRelayEnding seed extra count) (λ input ending stops. inr stops) start z end result s f

-- what was sent of the whole input
pub Attempts-sent : (seed : List ℕ) (extra : Bool) (count : ℕ) (intake : Intake) (first last : ℕ) (start now : Ends) (after : OutputState)
    (result : Result Finish Stop) → WalksToEnd (Keeps (taken_in seed intake) first last) start now
    → ((session : SessionData) (list : List Item) → HasTakenIn seed session (packets_of list) intake
    → SendsAs seed extra count session list now.output after result)
    → AttemptsUncounted (relay_promise seed extra count) start (record { input = now.input; output = after }) result
Attempts-sent seed extra count intake first last start now after (Ok finish) q sends =
    let s : SendsRight seed extra count q.session q.list now.output after finish = sends q.session q.list q.given.as_far.held in
    let few : AreFew q.list = q.given.as_far.few in
    λ c d. Attempts-ended (IsRelayEnding seed extra count) (Keeps (taken_in seed intake) first last) start now c d after
    (relayed_ending q.session seed (output_count q.session extra count) (packets_of q.list) s.numbers) (Ok finish) q few q.given.nothing_written
    (inl (record { session = q.session; list = q.list; file = q.file; few = few; numbers = s.numbers; held = s.held; ending_is = refl }))
    tt q.end tt (s.status, s.line, s.written)
Attempts-sent seed extra count intake first last start now after (Err stop) q sends =
    let s : CannotSend seed extra count q.session q.list now.output after stop = sends q.session q.list q.given.as_far.held in
    let few : AreFew q.list = q.given.as_far.few in
    λ c d. Attempts-ended (IsRelayEnding seed extra count) (Keeps (taken_in seed intake) first last) start now c d after
    (relayed_ending q.session seed (output_count q.session extra count) (packets_of q.list) s.numbers) (Err stop) q few q.given.nothing_written
    (inl (record { session = q.session; list = q.list; file = q.file; few = few; numbers = s.numbers; held = s.held; ending_is = refl }))
    tt q.end tt s.written

-- what was kept of the whole input
pub whole_kept : (seed : List ℕ) (intake : Intake) (first last : ℕ) (start now : Ends) (answer : Option Finish) → answer ≡ None
    → KeepsAll (taken_in seed intake) first last start now (Ok answer) → WalksToEnd (Keeps (taken_in seed intake) first last) start now
whole_kept seed intake first last start now answer e k =
    (subst (λ (o : Option Finish). KeepsAll (taken_in seed intake) first last start now (Ok o)) e k).as_far

pub stopped_kept : (seed : List ℕ) (intake : Intake) (first last : ℕ) (start now : Ends) (answer : Option Finish) (finish : Finish) → answer ≡ Some finish
    → KeepsAll (taken_in seed intake) first last start now (Ok answer) → AttemptsUncounted (keeping_promise StopsKeeping) start now (Ok finish)
stopped_kept seed intake first last start now answer finish e k =
    (subst (λ (o : Option Finish). KeepsAll (taken_in seed intake) first last start now (Ok o)) e k).as_far

-- by the seed that a relay was given
pub Attempts-seed : (seed seed' : List ℕ) (extra : Bool) (count : ℕ) (start now : Ends) (result : Result Finish Stop) → seed' ≡ seed
    → AttemptsUncounted (relay_promise seed' extra count) start now result → AttemptsUncounted (relay_promise seed extra count) start now result
Attempts-seed seed seed' extra count start now result e a =
    subst (λ (s : List ℕ). AttemptsUncounted (relay_promise s extra count) start now result) e a
