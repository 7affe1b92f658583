-- A keeper of packets: each item, and how its walk ends.
use Rattle.std.proofs.Common.{ℕ, ◌≡◌, ◌≤◌, ◌+◌, ◌*◌, List, [], ◌∷◌, ◌++◌, length, Option, None, Some, Result, Ok, Err, refl, sym, ap, ◌∙◌, subst, append-nil, length-append, arith, inl, inr}
use Rattle.std.specs.Prelude.{string_bytes}
use Rattle.std.specs.Result.{IsErrAnd}
use Rattle.std.proofs.lemmas.Result.{err_from_is_err_and}
use Rattle.bats_io.specs.Streams.{InputState, OutputState}
use Rattle.bats_format.specs.Taking.{FirstStops}
use Rattle.bats_format.proofs.JoinedFiles.{packets_of-append}
use Rattle.bats_model.specs.Session.{SessionData}
use Rattle.bats_model.specs.PacketFile.{HasShape, IsPacketFile, packets_of, record_of}
use Rattle.bats_model.specs.Kept.{kept_count}
use Rattle.bats_model.specs.declared.packet.Packet.{Packet}
use Rattle.bats_model.specs.declared.item.Item.{Item}
use Rattle.bats_model.specs.declared.item.Item.TheVariants as items
use Rattle.bats_model.specs.declared.read_end.ReadEnd.{ReadEnd}
use Rattle.bats_model.specs.declared.read_end.ReadEnd.TheVariants as ends
use Rattle.bats_batch.specs.Held.{max_kept}
use Rattle.bats_batch.specs.declared.held.HeldEnd.TheVariants.{Full}
use Rattle.tool_run.specs.declared.finish.Finish.{Finish}
use Rattle.tool_run.specs.declared.stop.Stop.{Stop}
use Rattle.tool_run.specs.declared.stop.Stop.TheVariants as stops
use Rattle.tool_run.specs.Attempt.{Attempts, AttemptsAs, AttemptsUncounted}
use Rattle.tool_run.specs.Ending.{Ending}
use Rattle.tool_run.specs.Promise.{IsBegun}
use Rattle.tool_run.specs.Streams.{Counters, Ends}
use Rattle.tool_records.specs.declared.walking.Next.{Next}
use Rattle.tool_records.specs.declared.walking.Next.TheVariants as takes
use Rattle.tool_records.specs.declared.walking.WalkEnd.{WalkEnd}
use Rattle.tool_records.specs.declared.walking.WalkEnd.TheVariants as walks
use Rattle.tool_records.specs.Keeping.{StopsKeeping, keeping_promise, kept_limit_ending}
use Rattle.tool_records.specs.Reading.{refusal_status, refusal_ending}
use Rattle.tool_records.specs.Walk.{Begins, CanTake, Walks}
use Rattle.tool_records.specs.steps.Came.{HasShapeOf}
use Rattle.tool_records.specs.steps.Kept.{Holds, CanHold, HoldsAs, Keeps, KeepsAs, KeepsAll, FinishesBy, FinishesUnopened}
use Rattle.tool_records.specs.steps.Walked.{ending_of}
use Rattle.tool_records.proofs.KeptItems.{AreFew-nothing, HasShapeOf-place, packets_of-more, packets_of-room}
use Rattle.tool_records.proofs.KeptWalks.{KeepsFew, KeepsFewAs, Attempts-refused, Attempts-full, Attempts-stopped}
use Rattle.tool_records.proofs.WalkLemmas.{Walks-map}
use Rattle.tool_records.proofs.WalkSteps.{Walks-unopened, with_input}

-- ---- no item yet

-- a holder that holds nothing
pub Keeps-nothing : (holds : Holds) (count : ℕ) (session : SessionData) (o : OutputState) → holds session []
    → Keeps holds count count session [] o o (Ok takes.GoesOn)
unfolding packets_of
Keeps-nothing holds count session o h = record {
  as_far = record { held = h; few = AreFew-nothing [] refl };
  nothing_written = refl;
  worked = omega arith;
}

-- ---- one item more

-- a header leaves all as it was
pub Keeps-header : (holds : Holds) (first last : ℕ) (session : SessionData) (list : List Item) (at : ℕ) (start now : OutputState)
    → Keeps holds first last session list start now (Ok takes.GoesOn)
    → Keeps holds first last session (list ++ items.Header at ∷ []) start now (Ok takes.GoesOn)
unfolding packets_of
Keeps-header holds first last session list at start now k =
    let same : packets_of list ≡ packets_of (list ++ items.Header at ∷ []) =
    sym (packets_of-append list (items.Header at ∷ []) ∙ append-nil (packets_of list)) in
    record {
      as_far = record {
        held = subst (λ (xs : List Packet). holds session xs) same k.as_far.held;
        few = subst (λ (xs : List Packet). kept_count xs ≤ max_kept) same k.as_far.few;
      };
      nothing_written = k.nothing_written;
      worked = subst (λ (xs : List Packet). last ≤ first + length xs * session.m) same k.worked;
    }

-- what the holder may rely on at a packet
pub CanHold-packet : (holds : Holds) (first last : ℕ) (session : SessionData) (list : List Item) (at : ℕ) (packet : Packet) (bytes : List ℕ)
    (start now : OutputState) → Keeps holds first last session list start now (Ok takes.GoesOn) → HasShape session packet
    → IsPacketFile session (list ++ items.Packet at packet ∷ []) bytes → CanHold holds session (packets_of list) packet
CanHold-packet holds first last session list at packet bytes start now k shape file = record {
  held = k.as_far.held;
  few = k.as_far.few;
  shape = shape;
  room = packets_of-room session list (items.Packet at packet) bytes file;
}

one_more : (n m : ℕ) → (n + 1) * m ≡ n * m + m
one_more n m = omega arith

work_more : (session : SessionData) (list : List Item) (at : ℕ) (packet : Packet)
    → length (packets_of (list ++ items.Packet at packet ∷ [])) * session.m ≡ length (packets_of list) * session.m + session.m
work_more session list at packet =
    let all : length (packets_of (list ++ items.Packet at packet ∷ [])) ≡ length (packets_of list) + 1 =
    ap length (packets_of-more list at packet) ∙ length-append (packets_of list) (packet ∷ []) in
    ap (λ (n : ℕ). n * session.m) all ∙ one_more (length (packets_of list)) session.m

-- the packet was offered to the holder
module _ (before : Holds) (first mid : ℕ) (session : SessionData) (list : List Item) (at : ℕ) (packet : Packet) (start now : OutputState)
    (k : Keeps before first mid session list start now (Ok takes.GoesOn)) (after : Holds) (last : ℕ) (more : last ≤ mid + session.m) where
  worked : last ≤ first + length (packets_of (list ++ items.Packet at packet ∷ [])) * session.m
  worked = omega (arith, more, k.worked, work_more session list at packet)

  -- it was taken in
  pub Keeps-held : HoldsAs after session (packets_of list ++ packet ∷ []) (Ok tt)
      → Keeps after first last session (list ++ items.Packet at packet ∷ []) start now (Ok takes.GoesOn)
  Keeps-held h = record {
    as_far = record {
      held = subst (λ (xs : List Packet). after session xs) (sym (packets_of-more list at packet)) h.0;
      few = subst (λ (xs : List Packet). kept_count xs ≤ max_kept) (sym (packets_of-more list at packet)) h.1;
    };
    nothing_written = k.nothing_written;
    worked = worked;
  }

  -- it is one too many
  pub Keeps-full : HoldsAs after session (packets_of list ++ packet ∷ []) (Err Full)
      → Keeps after first last session (list ++ items.Packet at packet ∷ []) start now (Ok takes.Halts)
  Keeps-full h = record {
    as_far = record {
      before = list;
      at = at;
      packet = packet;
      list_is = refl;
      few = k.as_far.few;
      full = λ few. h (subst (λ (xs : List Packet). kept_count xs ≤ max_kept) (packets_of-more list at packet) few);
    };
    nothing_written = k.nothing_written;
    worked = worked;
  }

  -- memory ran out for it
  pub Keeps-memory : Keeps after first last session (list ++ items.Packet at packet ∷ []) start now (Err stops.Memory)
  Keeps-memory = record {
    as_far = (refl, record { before = list; item = items.Packet at packet; list_is = refl; few = k.as_far.few });
    nothing_written = k.nothing_written;
    worked = worked;
  }

-- ---- the item that a walk gives

module _ (before : Holds) (first mid : ℕ) (session : SessionData) (item : Item) (now : OutputState) (so_far : CanTake (Keeps before first mid) session item now) where
  -- a header
  pub Keeps-item_header : (at : ℕ) → item ≡ items.Header at
      → Keeps before first mid session (so_far.list ++ item ∷ []) so_far.start now (Ok takes.GoesOn)
  Keeps-item_header at e =
      subst (λ (i : Item). Keeps before first mid session (so_far.list ++ i ∷ []) so_far.start now (Ok takes.GoesOn)) (sym e)
      (Keeps-header before first mid session so_far.list at so_far.start now so_far.given)

  module _ (at : ℕ) (packet : Packet) (e : item ≡ items.Packet at packet) where
    -- a packet, and what the holder may rely on
    pub CanHold-item : CanHold before session (packets_of so_far.list) packet
    CanHold-item =
        let shape : HasShapeOf session (items.Packet at packet) =
        subst (λ (i : Item). HasShapeOf session i) e (HasShapeOf-place session (length so_far.bytes) item so_far.place) in
        let file : IsPacketFile session (so_far.list ++ items.Packet at packet ∷ []) (so_far.bytes ++ record_of session item) =
        subst (λ (i : Item). IsPacketFile session (so_far.list ++ i ∷ []) (so_far.bytes ++ record_of session item)) e so_far.file in
        CanHold-packet before first mid session so_far.list at packet (so_far.bytes ++ record_of session item) so_far.start now so_far.given shape file

    module _ (after : Holds) (last : ℕ) (more : last ≤ mid + session.m) where
      -- it was held
      pub Keeps-item_held : HoldsAs after session (packets_of so_far.list ++ packet ∷ []) (Ok tt)
          → Keeps after first last session (so_far.list ++ item ∷ []) so_far.start now (Ok takes.GoesOn)
      Keeps-item_held h =
          subst (λ (i : Item). Keeps after first last session (so_far.list ++ i ∷ []) so_far.start now (Ok takes.GoesOn)) (sym e)
          (Keeps-held before first mid session so_far.list at packet so_far.start now so_far.given after last more h)

      -- it is one too many
      pub Keeps-item_full : HoldsAs after session (packets_of so_far.list ++ packet ∷ []) (Err Full)
          → Keeps after first last session (so_far.list ++ item ∷ []) so_far.start now (Ok takes.Halts)
      Keeps-item_full h =
          subst (λ (i : Item). Keeps after first last session (so_far.list ++ i ∷ []) so_far.start now (Ok takes.Halts)) (sym e)
          (Keeps-full before first mid session so_far.list at packet so_far.start now so_far.given after last more h)

      -- memory ran out for it
      pub Keeps-item_memory : Keeps after first last session (so_far.list ++ item ∷ []) so_far.start now (Err stops.Memory)
      Keeps-item_memory =
          subst (λ (i : Item). Keeps after first last session (so_far.list ++ i ∷ []) so_far.start now (Err stops.Memory)) (sym e)
          (Keeps-memory before first mid session so_far.list at packet so_far.start now so_far.given after last more)

-- ---- what any keeper has done

few_as : (holds : Holds) (session : SessionData) (list : List Item) (result : Result Next Stop) → KeepsAs holds session list result
    → KeepsFewAs session list result
few_as holds session list (Ok takes.GoesOn) h = h.few
few_as holds session list (Ok takes.Halts) h = h
few_as holds session list (Err stop) h = h

-- it keeps few packets, and writes nothing
pub few_walked : (holds : Holds) (first last : ℕ) (start now : Ends) (result : Result WalkEnd Stop)
    → Walks (Keeps holds first last) start now result → Walks KeepsFew start now result
few_walked holds first last start now result walked =
    Walks-map (Keeps holds first last) KeepsFew start now result
    (λ session list o p taken h. record { as_far = few_as holds session list taken h.as_far; nothing_written = h.nothing_written })
    walked

-- ---- how its walk ends

abbrev as_stopping : (input : List ℕ) (ending : Ending) → StopsKeeping input ending → StopsKeeping input ending
as_stopping input ending stops = stops

module _ (holds : Holds) (first last : ℕ) (start now : Ends) where
  -- how the walk ended, once that is known
  so : (one other : WalkEnd) → one ≡ other → Walks (Keeps holds first last) start now (Ok one) → Walks KeepsFew start now (Ok other)
  so one other e w =
      few_walked holds first last start now (Ok other) (subst (λ (end : WalkEnd). Walks (Keeps holds first last) start now (Ok end)) e w)

  cut : (stop : Stop) (result : Result (Option Finish) Stop) → IsErrAnd result (λ y. y ≡ stop)
      → AttemptsUncounted (keeping_promise StopsKeeping) start now (Err stop) → KeepsAll holds first last start now result
  cut stop result is a =
      let e = err_from_is_err_and result is in
      subst (λ (r : Result (Option Finish) Stop). KeepsAll holds first last start now r) (sym e.1)
      (subst (λ (x : Stop). KeepsAll holds first last start now (Err x)) (sym e.2) (record { as_far = a }))

  -- the walk stopped
  pub KeepsAll-stopped : (stop : Stop) (result : Result (Option Finish) Stop) → IsErrAnd result (λ y. y ≡ stop)
      → Walks (Keeps holds first last) start now (Err stop) → KeepsAll holds first last start now result
  KeepsAll-stopped stop result is w =
      cut stop result is (Attempts-stopped StopsKeeping start now stop (few_walked holds first last start now (Err stop) w))

  -- the whole input was kept
  pub KeepsAll-whole : (end : WalkEnd) → end ≡ walks.Whole → Walks (Keeps holds first last) start now (Ok end)
      → KeepsAll holds first last start now (Ok None)
  KeepsAll-whole end e w = record { as_far = (subst (λ (x : WalkEnd). Walks (Keeps holds first last) start now (Ok x)) e w).as_far }

  -- the input is refused, and that is told
  pub KeepsAll-refused : (one : WalkEnd) (end : ReadEnd) (finish : Finish) → one ≡ walks.Refused end → Walks (Keeps holds first last) start now (Ok one)
      → finish.status ≡ refusal_status end → string_bytes finish.line ≡ (refusal_ending [] end).line
      → KeepsAll holds first last start now (Ok (Some finish))
  KeepsAll-refused one end finish e w status line = record {
    as_far = Attempts-refused StopsKeeping start now as_stopping end (Ok finish) (so one (walks.Refused end) e w) (status, line);
  }

  -- or memory ran out for that
  pub KeepsAll-refused_unsaid : (one : WalkEnd) (end : ReadEnd) (result : Result (Option Finish) Stop) → one ≡ walks.Refused end
      → Walks (Keeps holds first last) start now (Ok one) → IsErrAnd result (λ y. y ≡ stops.Memory) → KeepsAll holds first last start now result
  KeepsAll-refused_unsaid one end result e w is =
      cut stops.Memory result is
      (Attempts-refused StopsKeeping start now as_stopping end (Err stops.Memory) (so one (walks.Refused end) e w) refl)

  -- a packet too many came, and that is told
  pub KeepsAll-full : (one : WalkEnd) (finish : Finish) → one ≡ walks.Halted → Walks (Keeps holds first last) start now (Ok one)
      → finish.status ≡ kept_limit_ending.status → string_bytes finish.line ≡ kept_limit_ending.line
      → KeepsAll holds first last start now (Ok (Some finish))
  KeepsAll-full one finish e w status line = record {
    as_far = Attempts-full StopsKeeping start now as_stopping (Ok finish) (so one walks.Halted e w) (status, line);
  }

  -- or memory ran out for that
  pub KeepsAll-full_unsaid : (one : WalkEnd) (result : Result (Option Finish) Stop) → one ≡ walks.Halted
      → Walks (Keeps holds first last) start now (Ok one) → IsErrAnd result (λ y. y ≡ stops.Memory) → KeepsAll holds first last start now result
  KeepsAll-full_unsaid one result e w is =
      cut stops.Memory result is (Attempts-full StopsKeeping start now as_stopping (Err stops.Memory) (so one walks.Halted e w) refl)

-- ---- the input has no first header

begins_few : (o : OutputState) → Begins KeepsFew o
begins_few o session = record { as_far = AreFew-nothing [] refl; nothing_written = refl }

module _ (endings : List ℕ → Ending → Type 0) (stopping : (input : List ℕ) (ending : Ending) → StopsKeeping input ending → endings input ending) (start : Ends) (z : InputState) where
  unopened_walk : (end : ReadEnd) → FirstStops start.input z [] end → Walks KeepsFew start (with_input start z) (ending_of end)
  unopened_walk end s = Walks-unopened KeepsFew start z end (ending_of end) refl (begins_few start.output) s

  refused_so : (end : ReadEnd) (result : Result Finish Stop) → Walks KeepsFew start (with_input start z) (Ok (walks.Refused end))
      → FinishesBy (refusal_ending [] end) result → AttemptsUncounted (keeping_promise endings) start (with_input start z) result
  refused_so end result w f = Attempts-refused endings start (with_input start z) stopping end result w f

  -- what a command promises that keeps packets, from how it ends then
  pub Attempts-unopened : (end : ReadEnd) (result : Result Finish Stop) → FirstStops start.input z [] end → FinishesUnopened end result
      → AttemptsUncounted (keeping_promise endings) start (with_input start z) result
  Attempts-unopened ends.Memory result s f = absurd s
  Attempts-unopened ends.ReadFault result s f =
      subst (λ (r : Result Finish Stop). AttemptsUncounted (keeping_promise endings) start (with_input start z) r) (sym f)
      (Attempts-stopped endings start (with_input start z) stops.ReadFault (unopened_walk ends.ReadFault s))
  Attempts-unopened ends.NoHeader result s f = refused_so ends.NoHeader result (unopened_walk ends.NoHeader s) f
  Attempts-unopened (ends.BadHeader field) result s f = refused_so (ends.BadHeader field) result (unopened_walk (ends.BadHeader field) s) f
  Attempts-unopened (ends.BadTag at byte) result s f = refused_so (ends.BadTag at byte) result (unopened_walk (ends.BadTag at byte) s) f
  Attempts-unopened (ends.OtherSession at) result s f = refused_so (ends.OtherSession at) result (unopened_walk (ends.OtherSession at) s) f
  Attempts-unopened (ends.Truncated at) result s f = refused_so (ends.Truncated at) result (unopened_walk (ends.Truncated at) s) f
  Attempts-unopened ends.TooManyRecords result s f = refused_so ends.TooManyRecords result (unopened_walk ends.TooManyRecords s) f

-- ---- any command that keeps packets and ends so where the input isn't taken whole

begun_wider : (ends : List ℕ → Ending → Type 0) → ((input : List ℕ) (ending : Ending) → StopsKeeping input ending → ends input ending)
    → (input part : List ℕ) → IsBegun StopsKeeping input part → IsBegun ends input part
begun_wider ends stopping input part (inl e) = inl e
begun_wider ends stopping input part (inr f) =
    inr (record { ending = f.ending; is_ending = stopping input f.ending f.is_ending; front = f.front })

wider_as : (ends : List ℕ → Ending → Type 0) → ((input : List ℕ) (ending : Ending) → StopsKeeping input ending → ends input ending)
    → (input : List ℕ) (start now : Ends) (c d : Counters) (result : Result Finish Stop) → AttemptsAs (keeping_promise StopsKeeping) input start now c d result
    → AttemptsAs (keeping_promise ends) input start now c d result
wider_as ends stopping input start now c d (Ok finish) a = record {
  ending = a.ending;
  is_ending = stopping input a.ending a.is_ending;
  status_is = a.status_is;
  of_ending = a.of_ending;
  line_is = a.line_is;
  read = a.read;
  worked = a.worked;
  input_fault = a.input_fault;
  output = a.output;
  output_fault = a.output_fault;
}
wider_as ends stopping input start now c d (Err stops.ReadFault) a = record {
  input_fault = a.input_fault;
  output = record { part = a.output.part; is_part = a.output.is_part; written = a.output.written };
  output_fault = a.output_fault;
}
wider_as ends stopping input start now c d (Err stops.WriteFault) a = record {
  input_fault = a.input_fault;
  output = record {
    part = a.output.part;
    is_part = begun_wider ends stopping input a.output.part a.output.is_part;
    written = a.output.written;
  };
  output_fault = a.output_fault;
}
wider_as ends stopping input start now c d (Err stops.Memory) a = record {
  input_fault = a.input_fault;
  output = record {
    part = a.output.part;
    is_part = begun_wider ends stopping input a.output.part a.output.is_part;
    written = a.output.written;
  };
  output_fault = a.output_fault;
}

-- what any such command promises, from how it ends where the input isn't taken whole
pub Attempts-stopping : (ends : List ℕ → Ending → Type 0) → ((input : List ℕ) (ending : Ending) → StopsKeeping input ending → ends input ending)
    → (start now : Ends) (result : Result Finish Stop) → AttemptsUncounted (keeping_promise StopsKeeping) start now result
    → AttemptsUncounted (keeping_promise ends) start now result
Attempts-stopping ends stopping start now result a = λ c d.
    let b : Attempts (keeping_promise StopsKeeping) start now c d result = a c d in
    record { input = b.input; told = b.told; read = b.read; as_far = wider_as ends stopping b.input start now c d result b.as_far }
