-- The commands as they are built from what `clap` found, where an option that has a default is always there.
use Rattle.std.specs.Prelude.{◌≡◌, ◌⊎◌, ℕ, ◌*◌, nat_le, Bool, false, ◌&&◌, not, List, Option, Some, None, if◌then◌else◌, codes}
use Rattle.std.specs.Option.{option_map_or}
use Rattle.std.specs.Str.{bytes_eq}
use Rattle.clap.specs.Matches.{first_value, found_of, one_text}
use Rattle.clap.specs.declared.parser.matches.ArgMatches.{ArgMatches}
use Rattle.bats_words.specs.WordValues.{number_in, seed_of}
use Rattle.bats_words.specs.Words.{◌>>=◌}
use Rattle.bats_words.specs.declared.command.Command.{Command}
use Rattle.bats_words.specs.declared.command.Command.TheVariants.{Source, Sink, Replay, Check, Trial}

-- the value of an option, or its default
abbrev pub value_in : ArgMatches → List ℕ → Option (List ℕ)
value_in matches name = first_value (found_of matches) name

-- the text of a flag says whether it is there
abbrev pub IsFlag : ArgMatches → List ℕ → Type 0
IsFlag matches name =
    (one_text (found_of matches) name ≡ Some (codes "true")) ⊎ (one_text (found_of matches) name ≡ Some (codes "false"))

-- whether a flag is there
abbrev pub is_set : ArgMatches → List ℕ → Bool
is_set matches name = option_map_or (λ text. bytes_eq text (codes "true")) (one_text (found_of matches) name) false

unfoldable pub source_given : (List ℕ → Option (List ℕ)) → (List ℕ → Bool) → Option Command
source_given value flag = do
  m ← value (codes "--m") >>= number_in 1 32
  t ← value (codes "--t") >>= number_in 1 2048
  seed ← value (codes "--seed") >>= seed_of
  batches ← value (codes "--batches") >>= number_in 0 32767
  table ← value (codes "--table") >>= number_in 0 1
  first ← value (codes "--from") >>= number_in 0 4000000000
  Some (Source m t table (flag (codes "--systematic")) seed first batches)

unfoldable pub sink_given : (List ℕ → Option (List ℕ)) → (List ℕ → Bool) → Option Command
sink_given value flag = do
  workers ← value (codes "--workers") >>= number_in 1 64
  Some (Sink workers (flag (codes "--both")))

unfoldable pub replay_given : (List ℕ → Option (List ℕ)) → (List ℕ → Bool) → Option Command
replay_given value flag = do
  workers ← value (codes "--workers") >>= number_in 1 64
  if not (flag (codes "--both") && flag (codes "--pool"))
      then Some (Replay workers (flag (codes "--both")) (flag (codes "--pool")))
      else None

unfoldable pub check_given : (List ℕ → Option (List ℕ)) → (List ℕ → Bool) → Option Command
check_given value flag = do
  workers ← value (codes "--workers") >>= number_in 1 64
  Some (Check workers)

unfoldable pub trial_given : (List ℕ → Option (List ℕ)) → (List ℕ → Bool) → Option Command
trial_given value flag = do
  number ← value (codes "--number") >>= number_in 0 18446744073709551615
  m ← value (codes "--m") >>= number_in 1 32
  t ← value (codes "--t") >>= number_in 1 2048
  length ← value (codes "--length") >>= number_in 0 8388608
  batches ← value (codes "--batches") >>= number_in 0 8192
  relays ← value (codes "--relays") >>= number_in 0 8
  loss ← value (codes "--loss") >>= number_in 0 100
  table ← value (codes "--table") >>= number_in 0 1
  workers ← value (codes "--workers") >>= number_in 1 64
  if nat_le (batches * m) 8192 && nat_le length (4096 * t)
      then Some (Trial number m t table length batches relays loss workers)
      else None
