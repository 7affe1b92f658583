-- A trial, from what its sink solved and the line that was written of it.
use Rattle.std.proofs.Common.{ℕ, ◌≡◌, ◌≤◌, ◌+◌, ◌*◌, ◌∙◌, List, [], ◌++◌, length, Result, Ok, Err, sym, ap, refl, subst, arith}
use Rattle.std.specs.Prelude.{IfOk, string_bytes, sum_by}
use Rattle.std.specs.List.{range_with_len}
use Rattle.std.specs.Result.{IsErrAnd, result_err}
use Rattle.std.proofs.lemmas.List.Sums.{sum_by_push}
use Rattle.bats_decode.specs.declared.decoder.Solved.{Solved}
use Rattle.bats_io.specs.Streams.{InputState, OutputState}
use Rattle.bats_model.specs.Kept.{kept_count}
use Rattle.bats_model.specs.Peeling.{largest_degree}
use Rattle.bats_model.specs.Session.{SessionData, symbols_of}
use Rattle.bats_model.specs.declared.packet.Packet.{Packet}
use Rattle.bats_words.specs.Options.{HasTrialRanges}
use Rattle.bats_words.specs.declared.trial_options.TrialOptions.{TrialOptions}
use Rattle.bats_world.proofs.Finishing.{honest-right}
use Rattle.tool_replay.specs.Trial.{IsTrialEnding, answer_words, arrived, sink_arrivals, trial_counts, trial_ending, trial_promise, trial_session}
use Rattle.tool_replay.specs.steps.Hops.{arrivals_before}
use Rattle.tool_replay.specs.steps.Solving.{Solves}
use Rattle.tool_replay.proofs.ArrivedPackets.{agrees-honest, file_of, honest-arrived}
use Rattle.tool_run.specs.Attempt.{Attempts}
use Rattle.tool_run.specs.Ending.{Ending}
use Rattle.tool_run.specs.Streams.{Counters}
use Rattle.tool_run.specs.Writes.{Writes}
use Rattle.tool_run.specs.declared.finish.Finish.{Finish}
use Rattle.tool_run.specs.declared.stop.Stop.{Stop}
use Rattle.tool_run.specs.declared.stop.Stop.TheVariants as stops
use Rattle.tool_run.proofs.AtOnce.{Attempts-at_once, takes_no_input-at_once}
use Rattle.tool_run.proofs.Attempts.{Attempts-exit}
use Rattle.tool_run.proofs.Ranges.{range-append}
use Rattle.tool_run.proofs.Unread.{Unread-cut, Unread-whole, ends_of}
use Rattle.tool_sink.specs.Answers.{answer_status}
use Rattle.tool_sink.proofs.ToldEndings.{is_of_answer}

-- memory ran out before anything was written
pub Attempts-lacking : (options : TrialOptions) (input : InputState) (x : OutputState) (c d : Counters) (r : Result Finish Stop)
    → IsErrAnd r (λ e. e ≡ stops.Memory) → Attempts (trial_promise options) (ends_of input x) (ends_of input x) c d r
Attempts-lacking options input x c d r is =
    Attempts-exit (trial_promise options) (ends_of input x) (ends_of input x) c d stops.Memory r is
    (Attempts-at_once (trial_promise options) (ends_of input x) c d (takes_no_input-at_once (IsTrialEnding options)))

-- ---- the work

-- what arrived on one more hop
pub arrivals_before-more : (options : TrialOptions) (hops : ℕ)
    → arrivals_before options (hops + 1) ≡ arrivals_before options hops + length (arrived options hops)
arrivals_before-more options hops =
    let count : ℕ → ℕ = λ hop. length (arrived options hop) in
    let first : 0 + hops ≡ hops = omega arith in
    ap (λ (numbers : List ℕ). sum_by count numbers) (range-append 0 hops 1) ∙ sum_by_push count (range_with_len 0 hops) (0 + hops)
    ∙ ap (λ (n : ℕ). sum_by count (range_with_len 0 hops) + count n) first

pub times-sum : (a b m : ℕ) → (a + b) * m ≡ a * m + b * m
times-sum a b m = omega arith

-- the operations at one relay more
pub work-relay : (options : TrialOptions) (hop start before after count m : ℕ) → before ≤ start + arrivals_before options hop * options.m
    → after ≤ before + count * m → count ≡ length (arrived options hop) → m ≡ options.m
    → after ≤ start + arrivals_before options (hop + 1) * options.m
work-relay options hop start before after count m so_far now count_is m_is =
    let sum : ℕ = arrivals_before options hop in
    let times : arrivals_before options (hop + 1) * options.m ≡ sum * options.m + count * m =
    ap (λ (n : ℕ). n * options.m) (arrivals_before-more options hop) ∙ times-sum sum (length (arrived options hop)) options.m
    ∙ ap (λ (n : ℕ). sum * options.m + n * options.m) (sym count_is) ∙ ap (λ (n : ℕ). sum * options.m + count * n) (sym m_is) in
    omega (arith, so_far, now, times)

all_work : (first mid last before count total m rest : ℕ) → mid ≤ first + before * m → last ≤ mid + (count * m + rest) → total ≡ before + count
    → last ≤ first + (total * m + rest)
all_work first mid last before count total m rest relays sink sum =
    let times : total * m ≡ before * m + count * m = ap (λ (n : ℕ). n * m) sum ∙ times-sum before count m in
    omega (arith, relays, sink, times)

-- ---- the line

module _ (options : TrialOptions) (ranges : HasTrialRanges options) (solved : Solved) (mid : ℕ) (c d : Counters)
    (h : Solves (trial_session options) (sink_arrivals options) mid d.payloads solved)
    (relayed : mid ≤ c.payloads + arrivals_before options options.relays * options.m) where
  abbrev packets : List Packet
  packets = sink_arrivals options

  abbrev ending : Ending
  ending = trial_ending options (length h.inactive) solved.answer

  is_ending : IsTrialEnding options ending
  is_ending = record {
    answer = solved.answer;
    right = h.right;
    honest = honest-right (trial_session options) packets (file_of options) solved.answer
        (agrees-honest options packets (honest-arrived options ranges options.relays)) h.right;
    inactive = h.inactive;
    is_inactive = h.is_inactive;
    ending_is = refl;
  }

  worked : d.payloads ≤ c.payloads + (arrivals_before options (options.relays + 1) * options.m
      + kept_count packets * (largest_degree (trial_session options) packets + length h.inactive))
  worked =
      all_work c.payloads mid d.payloads (arrivals_before options options.relays) (length packets) (arrivals_before options (options.relays + 1))
      options.m (kept_count packets * (largest_degree (trial_session options) packets + length h.inactive)) relayed h.worked
      (arrivals_before-more options options.relays)

  -- the line was written, or could not be
  told : (input : InputState) (x y : OutputState) (r : Result Finish Stop) → Writes x y ending.output (result_err r)
      → IfOk r (λ finish. finish.status ≡ answer_status solved.answer) → IfOk r (λ finish. string_bytes finish.line ≡ [])
      → Attempts (trial_promise options) (ends_of input x) (ends_of input y) c d r
  told input x y (Ok finish) w status line =
      Unread-whole (IsTrialEnding options) ending is_ending input x y c d finish status (is_of_answer solved.answer) line refl worked w
  told input x y (Err stop) w status line =
      Unread-cut (IsTrialEnding options) ending is_ending input x y c d stop (Err stop) refl w

  output_is : (count : ℕ) → count ≡ length packets
      → ending.output ≡ trial_counts options.number (symbols_of (trial_session options)) options.batches count solved.kept solved.inactive
      ++ answer_words solved.answer
  output_is count count_is =
      let counts : ℕ → ℕ → ℕ → List ℕ = λ a k i.
      trial_counts options.number (symbols_of (trial_session options)) options.batches a k i ++ answer_words solved.answer in
      ap (λ (n : ℕ). counts n (kept_count packets) (length h.inactive)) (sym count_is)
      ∙ ap (λ (n : ℕ). counts count n (length h.inactive)) (sym h.kept)
      ∙ ap (λ (n : ℕ). counts count solved.kept n) (sym h.counted)

  told_count : (input : InputState) (x y : OutputState) (r : Result Finish Stop) (count : ℕ) → count ≡ length packets
      → Writes x y (trial_counts options.number (symbols_of (trial_session options)) options.batches count solved.kept solved.inactive
      ++ answer_words solved.answer) (result_err r)
      → IfOk r (λ finish. finish.status ≡ answer_status solved.answer) → IfOk r (λ finish. string_bytes finish.line ≡ [])
      → Attempts (trial_promise options) (ends_of input x) (ends_of input y) c d r
  told_count input x y r count count_is w status line =
      told input x y r (subst (λ (text : List ℕ). Writes x y text (result_err r)) (sym (output_is count count_is)) w) status line

pub Attempts-told : (options : TrialOptions) (ranges : HasTrialRanges options) (session : SessionData) (came : List Packet) (solved : Solved)
    (mid count : ℕ) (c d : Counters) (input : InputState) (x y : OutputState) (r : Result Finish Stop) → session ≡ trial_session options
    → came ≡ sink_arrivals options → count ≡ length came → Solves session came mid d.payloads solved
    → mid ≤ c.payloads + arrivals_before options options.relays * options.m
    → Writes x y (trial_counts options.number (symbols_of session) options.batches count solved.kept solved.inactive ++ answer_words solved.answer) (result_err r)
    → IfOk r (λ finish. finish.status ≡ answer_status solved.answer) → IfOk r (λ finish. string_bytes finish.line ≡ [])
    → Attempts (trial_promise options) (ends_of input x) (ends_of input y) c d r
Attempts-told options ranges session came solved mid count c d input x y r session_is came_is count_is h relayed w status line =
    let solves : Solves (trial_session options) (sink_arrivals options) mid d.payloads solved =
    subst (λ (s : SessionData). Solves s (sink_arrivals options) mid d.payloads solved) session_is
    (subst (λ (ps : List Packet). Solves session ps mid d.payloads solved) came_is h) in
    told_count options ranges solved mid c d solves relayed input x y r count (count_is ∙ ap (λ (ps : List Packet). length ps) came_is)
    (subst (λ (s : SessionData). Writes x y
    (trial_counts options.number (symbols_of s) options.batches count solved.kept solved.inactive ++ answer_words solved.answer) (result_err r)) session_is w)
    status line
