-- `replay` up to its script: the reading of the input, and the runs that write nothing.
use Rattle.std.proofs.Common.{ℕ, ◌≡◌, ◌≢◌, ◌+◌, ◌<◌, ◌≤◌, ◌∙◌, ap, sym, subst, refl, inl, inr, arith, cond, Bool, true, false, List, [], length, Option, None, Result, Ok, Err}
use Rattle.std.specs.Prelude.{IfOk, IfErr, IsUtf8, codes, string_bytes}
use Rattle.std.specs.Result.{IsErrAnd}
use Rattle.std.proofs.lemmas.Result.{IfOk-weaker}
use Rattle.std.specs.Str.{is_utf8}
use Rattle.std.proofs.lemmas.Str.{IsUtf8-from_is_utf8, is_utf8-from_IsUtf8}
use Rattle.bats_io.specs.Sink.{Appends}
use Rattle.bats_io.specs.Streams.{InputState, OutputState, IsEnded, IsTold, ReadsAtMost}
use Rattle.bats_io.proofs.Appended.{appended-nil}
use Rattle.bats_io.proofs.ReadLemmas.{told_or, IsTold-told_or, IsTold-read}
use Rattle.tool_run.proofs.FilesRead.{length-told_or}
use Rattle.bats_script.specs.Script.{IsUnlessMemory, script_of_text}
use Rattle.bats_script.specs.declared.script.Script.{Script}
use Rattle.bats_script.specs.declared.script_end.ScriptEnd.{ScriptEnd}
use Rattle.bats_script.specs.declared.script_end.ScriptEnd.TheVariants as ends
use Rattle.bats_script.specs.declared.script_end.ScriptKey.TheVariants as keys
use Rattle.bats_world.specs.declared.event.WorldEnd.{WorldEnd}
use Rattle.bats_world.specs.declared.event.WorldEnd.TheVariants as causes
use Rattle.tool_run.specs.declared.finish.Finish.{Finish}
use Rattle.tool_run.specs.declared.status.Status.TheVariants as statuses
use Rattle.tool_run.specs.declared.stop.Stop.{Stop}
use Rattle.tool_run.specs.declared.stop.Stop.TheVariants as stops
use Rattle.tool_run.specs.Attempt.{Attempts, IsOfEnding}
use Rattle.tool_run.specs.Ending.{Ending, Reach, HasRead, HasWorked, in_part, refusal}
use Rattle.tool_run.specs.Reads.{Reads, ReadsUpTo}
use Rattle.tool_run.specs.Streams.{Counters}
use Rattle.tool_run.proofs.Attempts.{Attempts-exit}
use Rattle.tool_run.proofs.Unread.{ends_of}
use Rattle.tool_replay.specs.Replay.{IsReplayEnding, max_script, no_script_ending, played, replay_promise, script_of_bytes, obstacle_ending}
use Rattle.tool_replay.specs.steps.Playing.{IsScriptRead}
use Rattle.tool_replay.proofs.ReplayKept.{replay_promise-at_once}
use Rattle.tool_replay.proofs.ReplayRefusals.{IsOfEnding-no_script, IsOfEnding-obstacle, IsRefused, IsRefused-no_script, IsRefused-obstacle}

-- ---- what bytes are read as

script_by : (bytes : List ℕ) (valid : Bool) (result : Result Script ScriptEnd)
    → (valid ≡ true → IsUnlessMemory (script_of_text bytes) result)
    → (valid ≡ false → IsUnlessMemory (Err (ends.Key keys.Toml)) result)
    → IsUnlessMemory (cond valid (script_of_text bytes) (Err (ends.Key keys.Toml))) result
script_by bytes true result text no_text = text refl
script_by bytes false result text no_text = no_text refl

true_not_false : true ≡ false → ⊥
true_not_false same = cc

-- the answer of a reader of texts
pub script_of_bytes-read : (bytes : List ℕ) (result : Result Script ScriptEnd)
    → (IsUtf8 bytes → IsUnlessMemory (script_of_text bytes) result)
    → (¬ (IsUtf8 bytes) → IsUnlessMemory (Err (ends.Key keys.Toml)) result)
    → IsUnlessMemory (script_of_bytes bytes) result
unfolding script_of_bytes
script_of_bytes-read bytes result text no_text =
    script_by bytes (is_utf8 bytes) result (λ valid. text (IsUtf8-from_is_utf8 bytes valid))
    (λ invalid. no_text (λ valid. true_not_false (sym (is_utf8-from_IsUtf8 bytes valid) ∙ invalid)))

-- it is the script
pub is_script : (bytes : List ℕ) (script : Script) → IsUnlessMemory (script_of_bytes bytes) (Ok script)
    → script_of_bytes bytes ≡ Ok script
is_script bytes script (inl memory) = cc
is_script bytes script (inr same) = sym same

-- why there is no script
abbrev end_or : ScriptEnd → Result Script ScriptEnd → ScriptEnd
end_or other (Ok script) = other
end_or other (Err end) = end

-- it is the refusal, unless memory ran out
pub is_refusal : (bytes : List ℕ) (end : ScriptEnd) → IsUnlessMemory (script_of_bytes bytes) (Err end) → end ≢ ends.Memory
    → script_of_bytes bytes ≡ Err end
is_refusal bytes end (inl memory) other = absurd (other (ap (end_or end) memory))
is_refusal bytes end (inr same) other = sym same

-- ---- runs that write nothing

module _ (both pool : Bool) (a b : InputState) (x : OutputState) (c d : Counters) where
  -- memory ran out
  pub Attempts-lacking : (bytes : List ℕ) → IsTold a.left bytes → ReadsAtMost a.left b.left (max_script + 1) → b.faults ≡ a.faults
      → Attempts (replay_promise both pool) (ends_of a x) (ends_of b x) c d (Err stops.Memory)
  Attempts-lacking bytes told read no_fault = record {
    input = bytes;
    told = told;
    read = read;
    as_far = record {
      input_fault = no_fault;
      output = record { part = []; is_part = (replay_promise-at_once both pool).partly bytes; written = sym (appended-nil x.written) };
      output_fault = refl;
    };
  }

  -- an ending was told that writes nothing
  told_refusal : (bytes : List ℕ) (ending : Ending) (finish : Finish) → IsTold a.left bytes → ReadsAtMost a.left b.left (max_script + 1)
      → b.faults ≡ a.faults → HasRead ending.reach a.left b.left → ending.output ≡ [] → ending.work ≡ None → IsOfEnding ending.status
      → IsReplayEnding both pool bytes ending → finish.status ≡ ending.status → string_bytes finish.line ≡ ending.line
      → Attempts (replay_promise both pool) (ends_of a x) (ends_of b x) c d (Ok finish)
  told_refusal bytes ending finish told read no_fault reach output work of_ending is status line = record {
    input = bytes;
    told = told;
    read = read;
    as_far = record {
      ending = ending;
      is_ending = is;
      status_is = status;
      of_ending = subst IsOfEnding (sym status) of_ending;
      line_is = line;
      read = reach;
      worked = subst (λ (most : Option ℕ). HasWorked most c d) (sym work) tt;
      input_fault = no_fault;
      output = subst (λ (bytes : List ℕ). Appends x.written x.written bytes) (sym output) (sym (appended-nil x.written));
      output_fault = refl;
    };
  }

  -- ---- the whole input was read

  refused : (bytes : List ℕ) (ending : Ending) (result : Result Finish Stop) → IsTold a.left bytes
      → ReadsAtMost a.left b.left (max_script + 1) → IsEnded b.left → b.faults ≡ a.faults → IsRefused ending
      → IfOk result (λ finish. IsOfEnding ending.status) → IfOk result (λ finish. IsReplayEnding both pool bytes ending) → IfOk result (λ finish. finish.status ≡ ending.status)
      → IfOk result (λ finish. string_bytes finish.line ≡ ending.line) → IfErr result (λ stop. stop ≡ stops.Memory)
      → Attempts (replay_promise both pool) (ends_of a x) (ends_of b x) c d result
  refused bytes ending (Ok finish) told read end no_fault r of_ending is status line stop =
      told_refusal bytes ending finish told read no_fault
      (subst (λ (reach : Reach). HasRead reach a.left b.left) (sym r.reach) end) r.output r.work of_ending is status line
  refused bytes ending (Err e) told read end no_fault r of_ending is status line stop =
      subst (λ (s : Stop). Attempts (replay_promise both pool) (ends_of a x) (ends_of b x) c d (Err s)) (sym stop)
      (Attempts-lacking bytes told read no_fault)

  -- it gives no script
  pub Attempts-no_script : (bytes : List ℕ) (end : ScriptEnd) (result : Result Finish Stop) → ReadsUpTo a b max_script bytes
      → length bytes ≤ max_script → (end ≢ ends.Memory → script_of_bytes bytes ≡ Err end)
      → IfOk result (λ finish. finish.status ≡ (no_script_ending end).status)
      → IfOk result (λ finish. string_bytes finish.line ≡ (no_script_ending end).line) → IfOk result (λ finish. end ≢ ends.Memory)
      → IfErr result (λ stop. stop ≡ stops.Memory) → Attempts (replay_promise both pool) (ends_of a x) (ends_of b x) c d result
  Attempts-no_script bytes end result q short is_read status line told stop =
      refused bytes (no_script_ending end) result (IsTold-read a.left b.left bytes q.read (q.end short))
      (record { bytes = bytes; read = q.read; within = q.within }) (q.end short) q.no_fault (IsRefused-no_script end)
      (IfOk-weaker result _ _ (λ finish other. IsOfEnding-no_script end other) told)
      (IfOk-weaker result _ _
      (λ finish other. inr (inl (record { short = short; end = end; is_read = is_read other; ending_is = refl }))) told)
      status line stop

  -- an event of it doesn't take place
  pub Attempts-obstacle : (script : Script) (number : ℕ) (cause : WorldEnd) (result : Result Finish Stop) → IsScriptRead a b script
      → (cause ≢ causes.Memory → played script ≡ Err (record { number = number; cause = cause }))
      → IfOk result (λ finish. finish.status ≡ (obstacle_ending number cause).status)
      → IfOk result (λ finish. string_bytes finish.line ≡ (obstacle_ending number cause).line)
      → IfOk result (λ finish. cause ≢ causes.Memory) → IfErr result (λ stop. stop ≡ stops.Memory)
      → Attempts (replay_promise both pool) (ends_of a x) (ends_of b x) c d result
  Attempts-obstacle script number cause result q plays status line told stop =
      refused q.bytes (obstacle_ending number cause) result q.told q.read q.end q.no_fault (IsRefused-obstacle number cause)
      (IfOk-weaker result _ _ (λ finish other. IsOfEnding-obstacle number cause other) told)
      (IfOk-weaker result _ _
      (λ finish other. inr (inr (inl (record {
        short = q.short;
        script = script;
        is_read = q.is_read;
        obstacle = record { number = number; cause = cause };
        is_met = plays other;
        ending_is = refl;
      })))) told)
      status line stop

  -- memory ran out before anything more was known
  pub Attempts-unplayed : (script : Script) (result : Result Finish Stop) → IsScriptRead a b script
      → IsErrAnd result (λ stop. stop ≡ stops.Memory) → Attempts (replay_promise both pool) (ends_of a x) (ends_of b x) c d result
  Attempts-unplayed script result q is =
      Attempts-exit (replay_promise both pool) (ends_of a x) (ends_of b x) c d stops.Memory result is
      (Attempts-lacking q.bytes q.told q.read q.no_fault)

  -- ---- the input is too long, or could not be read

  pub Attempts-too_long : (bytes : List ℕ) (result : Result Finish Stop) → ReadsUpTo a b max_script bytes → max_script < length bytes
      → IfOk result (λ finish. finish.status ≡ statuses.Limit)
      → IfOk result (λ finish. string_bytes finish.line ≡ codes "bats: limit script\n")
      → IfErr result (λ stop. stop ≡ stops.Memory) → Attempts (replay_promise both pool) (ends_of a x) (ends_of b x) c d result
  Attempts-too_long bytes (Ok finish) q long status line stop =
      let whole : List ℕ = told_or a.left bytes in
      let grows : length bytes ≤ length whole = length-told_or a.left b.left bytes q.read in
      told_refusal whole (refusal statuses.Limit (codes "bats: limit script\n") in_part) finish (IsTold-told_or a.left bytes)
      (record { bytes = bytes; read = q.read; within = q.within }) q.no_fault tt refl refl tt
      (inl (record { long = omega arith; ending_is = refl })) status line
  Attempts-too_long bytes (Err e) q long status line stop =
      subst (λ (s : Stop). Attempts (replay_promise both pool) (ends_of a x) (ends_of b x) c d (Err s)) (sym stop)
      (Attempts-lacking (told_or a.left bytes) (IsTold-told_or a.left bytes)
      (record { bytes = bytes; read = q.read; within = q.within }) q.no_fault)

  unread : (stop : Stop) → Reads a b max_script (Err stop) → Attempts (replay_promise both pool) (ends_of a x) (ends_of b x) c d (Err stop)
  unread stops.ReadFault q = record {
    input = told_or a.left [];
    told = IsTold-told_or a.left [];
    read = record { bytes = q.read.bytes; read = q.read.read; within = omega (arith, q.read.within) };
    as_far = record {
      input_fault = q.fault;
      output = record { part = []; is_part = refl; written = sym (appended-nil x.written) };
      output_fault = refl;
    };
  }
  unread stops.Memory q = Attempts-lacking (told_or a.left []) (IsTold-told_or a.left []) q.read q.no_fault
  unread stops.WriteFault q = absurd q

  -- a `?` that passes on what the reading answered
  pub Attempts-unread : (stop : Stop) (result : Result Finish Stop) → Reads a b max_script (Err stop) → IsErrAnd result (λ e. e ≡ stop)
      → Attempts (replay_promise both pool) (ends_of a x) (ends_of b x) c d result
  Attempts-unread stop result q is =
      Attempts-exit (replay_promise both pool) (ends_of a x) (ends_of b x) c d stop result is (unread stop q)

-- the script of an input that was read whole
pub IsScriptRead-whole : (a b : InputState) (bytes : List ℕ) (script : Script) → ReadsUpTo a b max_script bytes → length bytes ≤ max_script
    → script_of_bytes bytes ≡ Ok script → IsScriptRead a b script
IsScriptRead-whole a b bytes script q short is = record {
  bytes = bytes;
  told = IsTold-read a.left b.left bytes q.read (q.end short);
  read = record { bytes = bytes; read = q.read; within = q.within };
  end = q.end short;
  no_fault = q.no_fault;
  short = short;
  is_read = is;
}
