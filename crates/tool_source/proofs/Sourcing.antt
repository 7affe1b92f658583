-- `source`, from its parts.
use Rattle.std.proofs.Common.{ℕ, ◌≡◌, ◌*◌, ◌<◌, ◌≤◌, List, [], length, Option, None, Some, Result, Ok, Err, refl, sym, ap, ◌∙◌, subst, inl, arith, length-append}
use Rattle.std.specs.Prelude.{string_bytes}
use Rattle.std.specs.Result.{IsErrAnd}
use Rattle.bats_io.specs.Streams.{InputState, OutputState, IsRead, ReadsAtMost}
use Rattle.bats_io.proofs.Appended.{appended-nil}
use Rattle.bats_io.proofs.ReadLemmas.{told_or, IsTold-told_or, IsTold-read}
use Rattle.tool_run.proofs.FilesRead.{length-told_or}
use Rattle.bats_model.specs.Session.{SessionData, symbols_of}
use Rattle.tool_run.specs.declared.finish.Finish.{Finish}
use Rattle.tool_run.specs.declared.status.Status.TheVariants as statuses
use Rattle.tool_run.specs.declared.stop.Stop.{Stop}
use Rattle.tool_run.specs.declared.stop.Stop.TheVariants as stops
use Rattle.tool_run.specs.Ending.{Ending, Reach, HasRead, HasWorked}
use Rattle.tool_run.specs.Attempt.{AttemptsAs, AttemptsUncounted, IsOfEnding, WritesPart}
use Rattle.tool_run.specs.Reads.{Reads, ReadsUpTo}
use Rattle.tool_run.specs.Streams.{Counters}
use Rattle.tool_run.specs.Writes.{Writes}
use Rattle.tool_run.proofs.Attempts.{AttemptsUncounted-exit}
use Rattle.tool_run.proofs.Begun.{IsBegun-front}
use Rattle.tool_run.proofs.Writing.{Writes-same}
use Rattle.bats_words.specs.declared.source_options.SourceOptions.{SourceOptions}
use Rattle.tool_source.specs.FileSession.{session_for}
use Rattle.tool_source.specs.Source.{source_output, source_line, source_ending, source_promise, symbols_ending, most_read}
use Rattle.tool_source.specs.steps.Ready.{IsReady}
use Rattle.tool_source.proofs.Counts.{length-within, length-beyond, symbols-beyond}
use Rattle.tool_source.proofs.Endings.{source_ending-too_long, source_ending-done, done_ending}

-- nothing was written
nothing : (o : SourceOptions) (file : List ℕ) (x : OutputState) → WritesPart (source_promise o) file x x
nothing o file x = record { part = []; is_part = inl refl; written = sym (appended-nil x.written) }

-- ---- the reading of the file

ReadsAtMost-more : (a b : Option (List ℕ)) (m n : ℕ) → ReadsAtMost a b m → m ≤ n → ReadsAtMost a b n
ReadsAtMost-more a b m n p h = record { bytes = p.bytes; read = p.read; within = omega (arith, p.within) }

failed : (o : SourceOptions) (a b : InputState) (x : OutputState) (e : Stop) → Reads a b (4096 * o.t) (Err e)
    → AttemptsUncounted (source_promise o) (record { input = a; output = x }) (record { input = b; output = x }) (Err e)
failed o a b x stops.ReadFault q = λ c d. record {
  input = told_or a.left [];
  told = IsTold-told_or a.left [];
  read = ReadsAtMost-more a.left b.left (4096 * o.t) (most_read o) q.read (omega arith);
  as_far = record {
    input_fault = q.fault;
    output = record { part = []; is_part = refl; written = sym (appended-nil x.written) };
    output_fault = refl;
  };
}
failed o a b x stops.Memory q = λ c d. record {
  input = told_or a.left [];
  told = IsTold-told_or a.left [];
  read = q.read;
  as_far = record { input_fault = q.no_fault; output = nothing o (told_or a.left []) x; output_fault = refl };
}
failed o a b x stops.WriteFault q = absurd q

-- a `?` that passes on what the reading of the file answered
pub Attempts-failed : (o : SourceOptions) (a b : InputState) (x : OutputState) (e : Stop) (r : Result Finish Stop) → Reads a b (4096 * o.t) (Err e)
    → IsErrAnd r (λ y. y ≡ e) → AttemptsUncounted (source_promise o) (record { input = a; output = x }) (record { input = b; output = x }) r
Attempts-failed o a b x e r q is =
    AttemptsUncounted-exit (source_promise o) (record { input = a; output = x }) (record { input = b; output = x }) e r is (failed o a b x e q)

-- ---- a file that is too long

-- memory ran out at its notes line
pub Attempts-no_line : (o : SourceOptions) (a b : InputState) (x : OutputState) (file : List ℕ) → ReadsUpTo a b (4096 * o.t) file
    → AttemptsUncounted (source_promise o) (record { input = a; output = x }) (record { input = b; output = x }) (Err stops.Memory)
Attempts-no_line o a b x file q = λ c d. record {
  input = told_or a.left file;
  told = IsTold-told_or a.left file;
  read = record { bytes = file; read = q.read; within = q.within };
  as_far = record { input_fault = q.no_fault; output = nothing o (told_or a.left file) x; output_fault = refl };
}

pub Attempts-too_long : (o : SourceOptions) (a b : InputState) (x : OutputState) (file : List ℕ) (finish : Finish) → 0 < o.t
    → ReadsUpTo a b (4096 * o.t) file → 4096 < symbols_of (session_for o (length file))
    → finish.status ≡ statuses.Limit → string_bytes finish.line ≡ symbols_ending.line
    → AttemptsUncounted (source_promise o) (record { input = a; output = x }) (record { input = b; output = x }) (Ok finish)
Attempts-too_long o a b x file finish pos q long status line =
    let whole : List ℕ = told_or a.left file in
    let grows : length file ≤ length whole = length-told_or a.left b.left file q.read in
    let far : 4096 * o.t < length file = length-beyond (length file) o.t 4096 pos long in
    let long' : 4096 < symbols_of (session_for o (length whole)) = symbols-beyond (length whole) o.t 4096 pos (omega arith) in
    λ c d. record {
      input = whole;
      told = IsTold-told_or a.left file;
      read = record { bytes = file; read = q.read; within = q.within };
      as_far = record {
        ending = symbols_ending;
        is_ending = sym (source_ending-too_long o whole long');
        status_is = status;
        of_ending = subst IsOfEnding (sym status) tt;
        line_is = line;
        read = tt;
        worked = tt;
        input_fault = q.no_fault;
        output = sym (appended-nil x.written);
        output_fault = refl;
      };
    }

-- ---- a file that is sent

pub IsReady-read : (o : SourceOptions) (a b : InputState) (file : List ℕ) (session : SessionData) → 0 < o.t → ReadsUpTo a b (4096 * o.t) file
    → symbols_of (session_for o (length file)) ≤ 4096 → session ≡ session_for o (length file) → IsReady o a b session file
IsReady-read o a b file session pos q short is =
    let ended = q.end (length-within (length file) o.t 4096 pos short) in
    record {
      told = IsTold-read a.left b.left file q.read ended;
      read = record { bytes = file; read = q.read; within = q.within };
      symbols = short;
      end = ended;
      no_fault = q.no_fault;
      session_is = is;
    }

-- what is written of a file that is ready
output_of_ready : (o : SourceOptions) (a b : InputState) (session : SessionData) (bytes : List ℕ) → IsReady o a b session bytes
    → (source_ending o bytes).output ≡ source_output session bytes o.first o.batches
unfolding done_ending
output_of_ready o a b session bytes q =
    ap (λ (e : Ending). e.output) (source_ending-done o bytes q.symbols)
    ∙ ap (λ (s : SessionData). source_output s bytes o.first o.batches) (sym q.session_is)

line_of_ready : (o : SourceOptions) (a b : InputState) (session : SessionData) (bytes : List ℕ) → IsReady o a b session bytes
    → source_line session o.batches ≡ (source_ending o bytes).line
unfolding done_ending
line_of_ready o a b session bytes q =
    ap (λ (s : SessionData). source_line s o.batches) q.session_is
    ∙ sym (ap (λ (e : Ending). e.line) (source_ending-done o bytes q.symbols))

reach_of_ready : (o : SourceOptions) (a b : InputState) (session : SessionData) (bytes : List ℕ) → IsReady o a b session bytes
    → HasRead (source_ending o bytes).reach a.left b.left
unfolding done_ending
reach_of_ready o a b session bytes q =
    subst (λ (r : Reach). HasRead r a.left b.left) (sym (ap (λ (e : Ending). e.reach) (source_ending-done o bytes q.symbols))) q.end

work_of_ready : (o : SourceOptions) (bytes : List ℕ) (c d : Counters) → symbols_of (session_for o (length bytes)) ≤ 4096
    → HasWorked (source_ending o bytes).work c d
unfolding done_ending
work_of_ready o bytes c d short =
    subst (λ (most : Option ℕ). HasWorked most c d) (sym (ap (λ (e : Ending). e.work) (source_ending-done o bytes short))) tt

-- memory ran out before anything was written
pub Attempts-unsent : (o : SourceOptions) (a b : InputState) (x : OutputState) (session : SessionData) (bytes : List ℕ) (r : Result Finish Stop)
    → IsReady o a b session bytes → IsErrAnd r (λ y. y ≡ stops.Memory)
    → AttemptsUncounted (source_promise o) (record { input = a; output = x }) (record { input = b; output = x }) r
Attempts-unsent o a b x session bytes r q is =
    AttemptsUncounted-exit (source_promise o) (record { input = a; output = x }) (record { input = b; output = x }) stops.Memory r is (λ c d. record {
      input = bytes;
      told = q.told;
      read = q.read;
      as_far = record { input_fault = q.no_fault; output = nothing o bytes x; output_fault = refl };
    })

cut_short : (o : SourceOptions) (file : List ℕ) (a b : InputState) (x y : OutputState) (c d : Counters) (e : Stop) → b.faults ≡ a.faults
    → Writes x y (source_ending o file).output (Some e)
    → AttemptsAs (source_promise o) file (record { input = a; output = x }) (record { input = b; output = y }) c d (Err e)
cut_short o file a b x y c d stops.WriteFault f w = record {
  input_fault = f;
  output = record {
    part = _;
    is_part = IsBegun-front (source_promise o).ends file (source_ending o file) w.as_far.0.count refl;
    written = w.as_far.0.front;
  };
  output_fault = w.as_far.1;
}
cut_short o file a b x y c d stops.Memory f w = record {
  input_fault = f;
  output = record {
    part = _;
    is_part = IsBegun-front (source_promise o).ends file (source_ending o file) w.as_far.0.count refl;
    written = w.as_far.0.front;
  };
  output_fault = w.as_far.1;
}
cut_short o file a b x y c d stops.ReadFault f w = absurd w.as_far

-- a `?` that passes on a write that failed, or want of memory
pub Attempts-cut_short : (o : SourceOptions) (a b : InputState) (x y : OutputState) (session : SessionData) (bytes : List ℕ) (e : Stop) (r : Result Finish Stop)
    → IsReady o a b session bytes → Writes x y (source_output session bytes o.first o.batches) (Some e) → IsErrAnd r (λ y. y ≡ e)
    → AttemptsUncounted (source_promise o) (record { input = a; output = x }) (record { input = b; output = y }) r
Attempts-cut_short o a b x y session bytes e r q w is =
    AttemptsUncounted-exit (source_promise o) (record { input = a; output = x }) (record { input = b; output = y }) e r is (λ c d. record {
      input = bytes;
      told = q.told;
      read = q.read;
      as_far = cut_short o bytes a b x y c d e q.no_fault (Writes-same (output_of_ready o a b session bytes q) w);
    })

-- all was written
pub Attempts-done : (o : SourceOptions) (a b : InputState) (x y : OutputState) (session : SessionData) (bytes : List ℕ) (finish : Finish)
    → IsReady o a b session bytes → Writes x y (source_output session bytes o.first o.batches) None
    → finish.status ≡ statuses.Done → string_bytes finish.line ≡ source_line session o.batches
    → AttemptsUncounted (source_promise o) (record { input = a; output = x }) (record { input = b; output = y }) (Ok finish)
unfolding done_ending
Attempts-done o a b x y session bytes finish q w status is =
    let done : Writes x y (source_ending o bytes).output None = Writes-same (output_of_ready o a b session bytes q) w in
    λ c d. record {
      input = bytes;
      told = q.told;
      read = q.read;
      as_far = record {
        ending = source_ending o bytes;
        is_ending = refl;
        status_is = status ∙ sym (ap (λ (e : Ending). e.status) (source_ending-done o bytes q.symbols));
        of_ending = subst IsOfEnding (sym status) tt;
        line_is = is ∙ line_of_ready o a b session bytes q;
        read = reach_of_ready o a b session bytes q;
        worked = work_of_ready o bytes c d q.symbols;
        input_fault = q.no_fault;
        output = done.as_far.0;
        output_fault = done.as_far.1;
      };
    }
