-- Which words are a command: the first is its name, and the others are its options and flags. A further command is one
-- more list of names, one more builder, and one more case of `command_of`.
use Rattle.std.specs.Prelude.{ℕ, ◌*◌, nat_le, Bool, ◌&&◌, not, List, [], ◌∷◌, Option, Some, None, option_and_then, if◌then◌else◌, codes}
use Rattle.std.specs.Str.{bytes_eq}
use Rattle.bats_words.specs.WordItems.{KnownNames, read_items, value_of, is_there}
use Rattle.bats_words.specs.WordValues.{number_in, rule_of, seed_of}
use Rattle.bats_words.specs.declared.command.Command.{Command}
use Rattle.bats_words.specs.declared.command.Command.TheVariants.{Source, Relay, Sink, Replay, Check, Show, Trial, Help}

-- the second step, if the first gave a value
infixl 10 ◌>>=◌
abbrev pub ◌>>=◌ : {A B : Type 0} → Option A → (A → Option B) → Option B
o >>= f = option_and_then f o

-- what the value word is read as, or the default where the option is not there
abbrev pub read_or : {A : Type 0} → A → (List ℕ → Option A) → Option (List ℕ) → Option A
read_or default read None = Some default
read_or default read (Some word) = read word

-- The command that the words are, where they are items of the known names and none comes twice. It is built from two
-- look-ups: the value word of an option, if the option is there, and whether a flag is there.
abbrev pub read_by : KnownNames → ((List ℕ → Option (List ℕ)) → (List ℕ → Bool) → Option Command) → List (List ℕ) → Option Command
read_by known build words = read_items known words >>= (λ items. build (λ name. value_of name items) (λ name. is_there name items))

-- ---- source

-- the names of `source`
abbrev pub source_names : KnownNames
source_names = record {
  options = codes "--m" ∷ codes "--t" ∷ codes "--seed" ∷ codes "--batches" ∷ codes "--table" ∷ codes "--from" ∷ [];
  flags = codes "--systematic" ∷ [];
}

-- The command `source`, in this order: packets of a batch, bytes of a symbol, seed, how many batches, degree table and
-- first batch. The last two may be left out, and are then 0. The flag is off where it is not there.
unfoldable pub source_of : (List ℕ → Option (List ℕ)) → (List ℕ → Bool) → Option Command
source_of value flag = do
  m ← value (codes "--m") >>= number_in 1 32
  t ← value (codes "--t") >>= number_in 1 2048
  seed ← value (codes "--seed") >>= seed_of
  batches ← value (codes "--batches") >>= number_in 0 32767
  table ← read_or 0 (number_in 0 1) (value (codes "--table"))
  first ← read_or 0 (number_in 0 4000000000) (value (codes "--from"))
  Some (Source m t table (flag (codes "--systematic")) seed first batches)

-- ---- relay

-- the names of `relay`
abbrev pub relay_names : KnownNames
relay_names = record { options = codes "--seed" ∷ codes "--rule" ∷ codes "--count" ∷ []; flags = [] }

-- The command `relay`, in this order: the seed, whether the rule is `extra`, and the number of the rule.
unfoldable pub relay_of : (List ℕ → Option (List ℕ)) → (List ℕ → Bool) → Option Command
relay_of value flag = do
  seed ← value (codes "--seed") >>= seed_of
  extra ← value (codes "--rule") >>= rule_of
  count ← value (codes "--count") >>= number_in 0 64
  Some (Relay seed extra count)

-- ---- sink

-- the names of `sink`
abbrev pub sink_names : KnownNames
sink_names = record { options = codes "--workers" ∷ []; flags = codes "--both" ∷ [] }

-- The command `sink`: how many workers, 1 where the option is not there, and whether both files are written, which is
-- off where the flag is not there.
unfoldable pub sink_of : (List ℕ → Option (List ℕ)) → (List ℕ → Bool) → Option Command
sink_of value flag = do
  workers ← read_or 1 (number_in 1 64) (value (codes "--workers"))
  Some (Sink workers (flag (codes "--both")))

-- ---- replay

-- the names of `replay`
abbrev pub replay_names : KnownNames
replay_names = record { options = codes "--workers" ∷ []; flags = codes "--both" ∷ codes "--pool" ∷ [] }

-- The command `replay`: how many workers, 1 where the option is not there, whether both files are written and whether the
-- packets are. Each of these is off where its flag is not there, and they are not both there.
unfoldable pub replay_of : (List ℕ → Option (List ℕ)) → (List ℕ → Bool) → Option Command
replay_of value flag = do
  workers ← read_or 1 (number_in 1 64) (value (codes "--workers"))
  if not (flag (codes "--both") && flag (codes "--pool"))
      then Some (Replay workers (flag (codes "--both")) (flag (codes "--pool")))
      else None

-- ---- check

-- the names of `check`
abbrev pub check_names : KnownNames
check_names = record { options = codes "--workers" ∷ []; flags = [] }

-- The command `check`: how many workers, 1 where the option is not there.
unfoldable pub check_of : (List ℕ → Option (List ℕ)) → (List ℕ → Bool) → Option Command
check_of value flag = do
  workers ← read_or 1 (number_in 1 64) (value (codes "--workers"))
  Some (Check workers)

-- ---- show

-- `show` has no names
abbrev pub show_names : KnownNames
show_names = record { options = []; flags = [] }

-- The command `show`, which no word changes.
unfoldable pub show_of : (List ℕ → Option (List ℕ)) → (List ℕ → Bool) → Option Command
show_of value flag = Some Show

-- ---- trial

-- the names of `trial`
abbrev pub trial_names : KnownNames
trial_names = record {
  options = codes "--number" ∷ codes "--m" ∷ codes "--t" ∷ codes "--length" ∷ codes "--batches" ∷ codes "--relays" ∷ codes "--loss"
      ∷ codes "--table" ∷ codes "--workers" ∷ [];
  flags = [];
}

-- The command `trial`, in this order: its number, packets of a batch, bytes of a symbol, bytes of the file, how many batches,
-- how many relays, loss of a hundred, degree table and how many workers. The last two may be left out, and are then 0 and 1.
-- There are at most 8,192 packets, and at most 4,096 symbols.
unfoldable pub trial_of : (List ℕ → Option (List ℕ)) → (List ℕ → Bool) → Option Command
trial_of value flag = do
  number ← value (codes "--number") >>= number_in 0 18446744073709551615
  m ← value (codes "--m") >>= number_in 1 32
  t ← value (codes "--t") >>= number_in 1 2048
  length ← value (codes "--length") >>= number_in 0 8388608
  batches ← value (codes "--batches") >>= number_in 0 8192
  relays ← value (codes "--relays") >>= number_in 0 8
  loss ← value (codes "--loss") >>= number_in 0 100
  table ← read_or 0 (number_in 0 1) (value (codes "--table"))
  workers ← read_or 1 (number_in 1 64) (value (codes "--workers"))
  if nat_le (batches * m) 8192 && nat_le length (4096 * t)
      then Some (Trial number m t table length batches relays loss workers)
      else None

-- ---- help

-- `help` has no names
abbrev pub help_names : KnownNames
help_names = record { options = []; flags = [] }

-- The command `help`, which no word changes.
unfoldable pub help_of : (List ℕ → Option (List ℕ)) → (List ℕ → Bool) → Option Command
help_of value flag = Some Help

-- ---- every command

-- the command that the words are, the first of which is its name
unfoldable pub command_of : List (List ℕ) → Option Command
command_of [] = None
command_of (name ∷ words) =
    if bytes_eq name (codes "source") then read_by source_names source_of words
    else if bytes_eq name (codes "relay") then read_by relay_names relay_of words
    else if bytes_eq name (codes "sink") then read_by sink_names sink_of words
    else if bytes_eq name (codes "replay") then read_by replay_names replay_of words
    else if bytes_eq name (codes "check") then read_by check_names check_of words
    else if bytes_eq name (codes "show") then read_by show_names show_of words
    else if bytes_eq name (codes "trial") then read_by trial_names trial_of words
    else if bytes_eq name (codes "help") then read_by help_names help_of words
    else None
