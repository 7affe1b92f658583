-- A script whose events all took place, and what is then told of what the sink was given.
use Rattle.std.proofs.Common.{ℕ, ◌≡◌, ◌+◌, ◌*◌, ◌-◌, ◌^◌, ◌<◌, ◌≤◌, ◌∙◌, min, ap, sym, subst, refl, inr, arith, ◌==◌, if◌then◌else◌, Bool, true, false, List, ◌++◌, flat_map, get_or, length, None, Some, Result, Ok, Err}
use Rattle.std.specs.Prelude.{All, codes, string_bytes}
use Rattle.std.specs.List.{filter}
use Rattle.std.specs.Result.{IsErrAnd}
use Rattle.std.proofs.lemmas.List.{length-map}
use Rattle.std.proofs.lemmas.List.Sums.{count_by-le-length, length-filter}
use Rattle.bats_io.specs.Streams.{InputState, OutputState}
use Rattle.bats_batch.specs.Held.{row_count}
use Rattle.bats_batch.proofs.Offers.{row_count-stands}
use Rattle.bats_model.specs.Agreement.{Agrees, IsFile}
use Rattle.bats_model.specs.Kept.{kept_count}
use Rattle.bats_model.specs.Peeling.{IsInactiveList, largest_degree, payload_bound}
use Rattle.bats_model.specs.Records.{header_record}
use Rattle.bats_model.specs.RightAnswer.{IsRightAnswer}
use Rattle.bats_model.specs.Session.{SessionData}
use Rattle.bats_model.specs.declared.answer.Answer.{Answer}
use Rattle.bats_model.specs.declared.packet.Packet.{Packet}
use Rattle.bats_script.specs.declared.script.Script.{Script}
use Rattle.bats_world.specs.Standing.{IsHonestAnswer, StandsFor, WorldData}
use Rattle.bats_world.specs.World.{Given, IsReached, NetworkState, received_by, sink_of}
use Rattle.bats_world.specs.declared.made.Made.{Made}
use Rattle.bats_world.proofs.Finishing.{IsFile-same}
use Rattle.bats_world.proofs.Honest.{AreHonest-reached}
use Rattle.tool_run.specs.declared.finish.Finish.{Finish}
use Rattle.tool_run.specs.declared.stop.Stop.{Stop}
use Rattle.tool_run.specs.declared.stop.Stop.TheVariants as stops
use Rattle.tool_run.specs.Attempt.{Attempts, AttemptsAs, IsOfEnding}
use Rattle.tool_run.specs.Ending.{Ending}
use Rattle.tool_run.specs.Streams.{Counters}
use Rattle.tool_run.specs.Writes.{Writes}
use Rattle.tool_run.proofs.Attempts.{Attempts-exit}
use Rattle.tool_run.proofs.Begun.{IsBegun-front, front-all, front-take}
use Rattle.tool_run.proofs.Unread.{ends_of}
use Rattle.tool_sink.specs.Answers.{answer_line, answer_status}
use Rattle.tool_sink.specs.Sink.{answer_output}
use Rattle.tool_sink.proofs.ToldEndings.{is_of_answer, sum_of_work}
use Rattle.tool_replay.specs.Replay.{IsReplayEnding, PlaysTo, played_ending, pool_output, pool_record, replay_promise, sink_packets}
use Rattle.tool_replay.specs.steps.Playing.{HasPlayedScript}
use Rattle.tool_replay.proofs.EventsPlayed.{HasPlayed-all}

-- a solving found this answer to what the sink was given and these counts of it, and the run was no more work than may be
pub record HasSolved (script : Script) (state : NetworkState) (answer : Answer) (received kept told first last : ℕ) : Type 0 where
  pub right : IsRightAnswer script.session (sink_packets state) answer
  pub honest : IsHonestAnswer script.file answer
  pub all : received ≡ length (sink_packets state)
  pub new : kept ≡ kept_count (sink_packets state)
  pub inactive : List ℕ
  pub is_inactive : IsInactiveList script.session (sink_packets state) inactive
  pub counted : told ≡ length inactive
  pub worked : last ≤ first + payload_bound (length script.events) state.session.m (kept_count (sink_packets state))
      (largest_degree state.session (sink_packets state)) (length inactive)

-- the packets are counted whole, since there are no more than events
counted_whole : (given events count received : ℕ) → received ≡ min count (2 ^ 64 - 1) → count ≤ given → given ≤ 0 + events → events < 2 ^ 64
    → received ≡ count
counted_whole given events count received is few least most = omega arith

received_within : (node : ℕ) (given : List Given) → length (received_by node given) ≤ length given
received_within node given =
    rw (
      length-map (filter (λ (one : Given). one.node == node) given) (λ (one : Given). one.packet),
      length-filter (λ (one : Given). one.node == node) given,
    ) (count_by-le-length (λ (one : Given). one.node == node) given)

within_work : (c d : Counters) (first last most : ℕ) → c.payloads ≡ first → d.payloads ≡ last → last ≤ first + most
    → d.payloads ≤ c.payloads + most
within_work c d first last most given now worked = omega arith

module _ (a b : InputState) (script : Script) (first mid : ℕ) (world : WorldData) (p : HasPlayedScript a b script first mid world) where
  session_is : p.played.state.session ≡ script.session
  session_is = p.played.same.session

  pub plays : PlaysTo p.source.bytes script p.played.state
  plays = record {
    short = p.source.short;
    is_read = p.source.is_read;
    plays = HasPlayed-all _ script.events first mid world p.played;
  }

  agrees : All (λ made. Agrees script.session script.file made.packet) p.played.state.pool
  agrees = λ k d within.
      let state = p.played.state in
      let f : IsFile state.session state.file =
      IsFile-same script.session state.session script.file state.file (sym session_is) (sym p.played.same.file) p.is_file in
      let packet : Packet = (get_or state.pool k d).packet in
      subst (λ (s : SessionData). Agrees s script.file packet) session_is
      (subst (λ (file : List ℕ). Agrees state.session file packet) p.played.same.file
      ((AreHonest-reached state f p.played.reached).pool k d within).agrees)

  -- from what solving says of each state that the world stands for
  pub HasSolved-finish : (answer : Answer) (received kept told plan last : ℕ)
      → ((state : NetworkState) → StandsFor state world → IsRightAnswer state.session (sink_packets state) answer)
      → ((state : NetworkState) → StandsFor state world → IsReached state → IsHonestAnswer state.file answer)
      → received ≡ world.sink.packets → ((state : NetworkState) → StandsFor state world → kept ≡ kept_count (sink_packets state))
      → ((state : NetworkState) → StandsFor state world → (list : List ℕ)
      × (IsInactiveList state.session (sink_packets state) list × (told ≡ length list)))
      → ((state : NetworkState) → StandsFor state world
      → plan ≤ row_count world.sink.held.batches * (largest_degree state.session (sink_packets state) + told))
      → last ≡ mid + plan → HasSolved script p.played.state answer received kept told first last
  HasSolved-finish answer received kept told plan last right honest count new inactive bound rise =
      let state : NetworkState = p.played.state in
      let stands : StandsFor state world = p.played.stands in
      let packets : List Packet = sink_packets state in
      let degree : ℕ = largest_degree state.session packets in
      let list = inactive state stands in
      let rows : row_count world.sink.held.batches ≡ kept_count packets = row_count-stands packets world.sink.held stands.sink.holds in
      let most : plan ≤ kept_count packets * (degree + length list.0) =
      subst (λ (n : ℕ). plan ≤ n * (degree + length list.0)) rows
      (subst (λ (n : ℕ). plan ≤ row_count world.sink.held.batches * (degree + n)) list.1.1 (bound state stands)) in
      let offers : mid ≤ first + length script.events * state.session.m =
      subst (λ (s : SessionData). mid ≤ first + length script.events * s.m) (sym session_is) p.played.worked in
      record {
        right = subst (λ (s : SessionData). IsRightAnswer s packets answer) session_is (right state stands);
        honest = subst (λ (file : List ℕ). IsHonestAnswer file answer) p.played.same.file (honest state stands p.played.reached);
        all = counted_whole (length state.given) (length script.events) (length packets) received
            (count ∙ stands.sink.counted) (received_within (sink_of state) state.given) p.played.given p.few;
        new = new state stands;
        inactive = list.0;
        is_inactive = subst (λ (s : SessionData). IsInactiveList s packets list.0) session_is list.1.0;
        counted = list.1.1;
        worked = sum_of_work first mid last plan (length script.events * state.session.m)
            (kept_count packets * (degree + length list.0)) offers most rise;
      }

  -- ---- the pool

  -- what is written of the pool of the world
  pub pool_of_world : (session : SessionData) → world.session ≡ session
      → pool_output p.played.state ≡ header_record session ++ flat_map pool_record world.pool
  unfolding pool_output
  pool_of_world session is =
      ap (λ (s : SessionData). header_record s ++ flat_map pool_record p.played.state.pool) (sym p.played.stands.session ∙ is)
      ∙ ap (λ (pool : List Made). header_record session ++ flat_map pool_record pool) (sym p.played.stands.pool)

  module _ (both : Bool) (x y : OutputState) (c d : Counters) where
    pool_cut : (stop : Stop) → Writes x y (pool_output p.played.state) (Some stop)
        → AttemptsAs (replay_promise both true) p.source.bytes (ends_of a x) (ends_of b y) c d (Err stop)
    pool_cut stops.WriteFault w = record {
      input_fault = p.source.no_fault;
      output = record {
        part = _;
        is_part = inr (record {
          script = script;
          state = p.played.state;
          plays = plays;
          front = front-take w.as_far.0.count (pool_output p.played.state);
        });
        written = w.as_far.0.front;
      };
      output_fault = w.as_far.1;
    }
    pool_cut stops.Memory w = record {
      input_fault = p.source.no_fault;
      output = record {
        part = _;
        is_part = inr (record {
          script = script;
          state = p.played.state;
          plays = plays;
          front = front-take w.as_far.0.count (pool_output p.played.state);
        });
        written = w.as_far.0.front;
      };
      output_fault = w.as_far.1;
    }
    pool_cut stops.ReadFault w = absurd w.as_far

    -- a `?` that passes on that the pool could not be written
    pub Attempts-no_pool : (stop : Stop) (result : Result Finish Stop) → IsErrAnd result (λ e. e ≡ stop)
        → Writes x y (pool_output p.played.state) (Some stop)
        → Attempts (replay_promise both true) (ends_of a x) (ends_of b y) c d result
    Attempts-no_pool stop result is w =
        Attempts-exit (replay_promise both true) (ends_of a x) (ends_of b y) c d stop result is (record {
          input = p.source.bytes;
          told = p.source.told;
          read = p.source.read;
          as_far = pool_cut stop w;
        })

    -- memory ran out once the pool was written
    pub Attempts-unsolved : (result : Result Finish Stop) → IsErrAnd result (λ e. e ≡ stops.Memory)
        → Writes x y (pool_output p.played.state) None
        → Attempts (replay_promise both true) (ends_of a x) (ends_of b y) c d result
    Attempts-unsolved result is w =
        Attempts-exit (replay_promise both true) (ends_of a x) (ends_of b y) c d stops.Memory result is (record {
          input = p.source.bytes;
          told = p.source.told;
          read = p.source.read;
          as_far = record {
            input_fault = p.source.no_fault;
            output = record {
              part = pool_output p.played.state;
              is_part = inr (record {
                script = script;
                state = p.played.state;
                plays = plays;
                front = front-all (pool_output p.played.state);
              });
              written = w.as_far.0;
            };
            output_fault = w.as_far.1;
          };
        })

  -- ---- the answer

  module _ (both pool : Bool) (answer : Answer) (received kept told last : ℕ)
      (h : HasSolved script p.played.state answer received kept told first last) where
    abbrev pub ending_of : Ending
    ending_of = played_ending both pool (length script.events) p.played.state (length h.inactive) answer

    is_ending : IsReplayEnding both pool p.source.bytes ending_of
    is_ending = inr (inr (inr (record {
      script = script;
      state = p.played.state;
      plays = plays;
      answer = answer;
      right = h.right;
      honest = h.honest;
      agrees = agrees;
      inactive = h.inactive;
      is_inactive = h.is_inactive;
      ending_is = refl;
    })))

    -- the line of an answer, whose counts are those of the packets
    line_of : (line : List ℕ) → line ≡ answer_line (codes "replay") received kept told answer
        → line ≡ answer_line (codes "replay") (length (sink_packets p.played.state)) (kept_count (sink_packets p.played.state)) (length h.inactive) answer
    line_of line is =
        is ∙ ap (λ (n : ℕ). answer_line (codes "replay") n kept told answer) h.all
        ∙ ap (λ (n : ℕ). answer_line (codes "replay") (length (sink_packets p.played.state)) n told answer) h.new
        ∙ ap (λ (n : ℕ). answer_line (codes "replay") (length (sink_packets p.played.state)) (kept_count (sink_packets p.played.state)) n answer) h.counted

    -- it was told, and its output written
    pub Attempts-told : (x y : OutputState) (c d : Counters) (finish : Finish) → c.payloads ≡ first → d.payloads ≡ last
        → finish.status ≡ answer_status answer → string_bytes finish.line ≡ answer_line (codes "replay") received kept told answer
        → Writes x y (if pool then pool_output p.played.state else answer_output both answer) None
        → Attempts (replay_promise both pool) (ends_of a x) (ends_of b y) c d (Ok finish)
    Attempts-told x y c d finish given now status line w = record {
      input = p.source.bytes;
      told = p.source.told;
      read = p.source.read;
      as_far = record {
        ending = ending_of;
        is_ending = is_ending;
        status_is = status;
        of_ending = subst IsOfEnding (sym status) (is_of_answer answer);
        line_is = line_of (string_bytes finish.line) line;
        read = p.source.end;
        worked = within_work c d first last _ given now h.worked;
        input_fault = p.source.no_fault;
        output = w.as_far.0;
        output_fault = w.as_far.1;
      };
    }

  module _ (both : Bool) (answer : Answer) (received kept told last : ℕ)
      (h : HasSolved script p.played.state answer received kept told first last) (x y : OutputState) (c d : Counters) where
    answer_cut : (stop : Stop) → Writes x y (answer_output both answer) (Some stop)
        → AttemptsAs (replay_promise both false) p.source.bytes (ends_of a x) (ends_of b y) c d (Err stop)
    answer_cut stops.WriteFault w = record {
      input_fault = p.source.no_fault;
      output = record {
        part = _;
        is_part = IsBegun-front (IsReplayEnding both false) p.source.bytes (ending_of both false answer received kept told last h)
            w.as_far.0.count (is_ending both false answer received kept told last h);
        written = w.as_far.0.front;
      };
      output_fault = w.as_far.1;
    }
    answer_cut stops.Memory w = record {
      input_fault = p.source.no_fault;
      output = record {
        part = _;
        is_part = IsBegun-front (IsReplayEnding both false) p.source.bytes (ending_of both false answer received kept told last h)
            w.as_far.0.count (is_ending both false answer received kept told last h);
        written = w.as_far.0.front;
      };
      output_fault = w.as_far.1;
    }
    answer_cut stops.ReadFault w = absurd w.as_far

    -- a `?` that passes on that the answer could not be written
    pub Attempts-no_answer : (stop : Stop) (result : Result Finish Stop) → IsErrAnd result (λ e. e ≡ stop)
        → Writes x y (answer_output both answer) (Some stop)
        → Attempts (replay_promise both false) (ends_of a x) (ends_of b y) c d result
    Attempts-no_answer stop result is w =
        Attempts-exit (replay_promise both false) (ends_of a x) (ends_of b y) c d stop result is (record {
          input = p.source.bytes;
          told = p.source.told;
          read = p.source.read;
          as_far = answer_cut stop w;
        })
