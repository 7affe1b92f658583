-- How `source` ends, and that its promise can be kept.
use Rattle.std.proofs.Common.{ℕ, ◌≡◌, ◌<◌, ◌≤◌, cond, List, length, ltb, None, arith, rules}
use Rattle.std.proofs.lemmas.Bool.Decides.{nat_tests}
use Rattle.bats_model.specs.Session.{symbols_of}
use Rattle.bats_words.specs.declared.source_options.SourceOptions.{SourceOptions}
use Rattle.tool_run.specs.declared.status.Status.TheVariants as statuses
use Rattle.tool_source.specs.FileSession.{session_for}
use Rattle.tool_run.specs.Ending.{Ending, to_end}
use Rattle.tool_run.specs.Promise.{Keeps}
use Rattle.tool_run.proofs.Begun.{reads_file-keeps}
use Rattle.tool_source.specs.Source.{source_output, source_line, symbols_ending, source_ending, source_promise, most_read}

-- the ending of a file that is sent
unfoldable pub done_ending : SourceOptions → List ℕ → Ending
done_ending o file = record {
  status = statuses.Done;
  output = source_output (session_for o (length file)) file o.first o.batches;
  line = source_line (session_for o (length file)) o.batches;
  reach = to_end;
  work = None;
}

too_long : (k : ℕ) (x y : Ending) → 4096 < k → cond (ltb 4096 k) x y ≡ x
too_long k x y h = grind (arith, nat_tests, rules)

short_enough : (k : ℕ) (x y : Ending) → k ≤ 4096 → cond (ltb 4096 k) x y ≡ y
short_enough k x y h = grind (arith, nat_tests, rules)

pub source_ending-too_long : (o : SourceOptions) (file : List ℕ) → 4096 < symbols_of (session_for o (length file))
    → source_ending o file ≡ symbols_ending
unfolding source_ending
source_ending-too_long o file h = too_long _ _ _ h

pub source_ending-done : (o : SourceOptions) (file : List ℕ) → symbols_of (session_for o (length file)) ≤ 4096
    → source_ending o file ≡ done_ending o file
unfolding source_ending done_ending
source_ending-done o file h = short_enough _ _ _ h

-- what the run of `source` rests on
pub source_promise-keeps : (options : SourceOptions) → Keeps (source_promise options)
source_promise-keeps options = reads_file-keeps (most_read options) (source_ending options)
