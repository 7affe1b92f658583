-- What the commands are asked for.
use Rattle.std.specs.Prelude.{ℕ, ◌≡◌, ◌≤◌, ◌<◌, ◌*◌, Bool, List, All, length}
use Rattle.bats_words.specs.declared.command.Command.{Command}
use Rattle.bats_words.specs.declared.command.Command.TheVariants as commands
use Rattle.bats_words.specs.declared.source_options.SourceOptions.{SourceOptions}
use Rattle.bats_words.specs.declared.trial_options.TrialOptions.{TrialOptions}

-- the numbers of `source` are in the ranges that words are held to
pub record HasRanges (options : SourceOptions) : Type 0 where
  pub m_low : 1 ≤ options.m
  pub m_high : options.m ≤ 32
  pub t_low : 1 ≤ options.t
  pub t_high : options.t ≤ 2048
  pub table_high : options.table < 2
  pub first_high : options.first ≤ 4000000000
  pub batches_high : options.batches ≤ 32767

-- what a command `source` of these values asks for
abbrev pub source_options : ℕ → ℕ → ℕ → Bool → List ℕ → ℕ → ℕ → SourceOptions
source_options m t table systematic seed first batches =
    record { m = m; t = t; table = table; systematic = systematic; seed = seed; first = first; batches = batches }

-- the numbers of `trial` are in the ranges that words are held to
pub record HasTrialRanges (options : TrialOptions) : Type 0 where
  pub m_low : 1 ≤ options.m
  pub m_high : options.m ≤ 32
  pub t_low : 1 ≤ options.t
  pub t_high : options.t ≤ 2048
  pub table_high : options.table < 2
  pub few_bytes : options.length ≤ 8388608
  pub few_symbols : options.length ≤ 4096 * options.t
  pub batches_high : options.batches ≤ 8192
  pub few_packets : options.batches * options.m ≤ 8192
  pub relays_high : options.relays ≤ 8
  pub loss_high : options.loss ≤ 100

-- what a command `trial` of these values asks for
abbrev pub trial_options : ℕ → ℕ → ℕ → ℕ → ℕ → ℕ → ℕ → ℕ → TrialOptions
trial_options number m t table file_length batches relays loss = record {
  number = number;
  m = m;
  t = t;
  table = table;
  length = file_length;
  batches = batches;
  relays = relays;
  loss = loss;
}

-- a seed has 16 bytes
pub record IsSeed (seed : List ℕ) : Type 0 where
  pub size : length seed ≡ 16
  pub bytes : All (λ byte. byte < 256) seed

-- the number of workers is in the range that words are held to
pub record HasWorkers (workers : ℕ) : Type 0 where
  pub low : 1 ≤ workers
  pub high : workers ≤ 64

-- the number of a relay's rule is in the range that words are held to
pub record HasCount (count : ℕ) : Type 0 where
  pub high : count ≤ 64

-- the values of a command are in the ranges that words are held to
abbrev pub InRanges : Command → Type 0
InRanges (commands.Source m t table systematic seed first batches) =
    HasRanges (source_options m t table systematic seed first batches) × IsSeed seed
InRanges (commands.Relay seed extra count) = HasCount count × IsSeed seed
InRanges (commands.Sink workers both) = HasWorkers workers
InRanges (commands.Replay workers both pool) = HasWorkers workers
InRanges (commands.Check workers) = HasWorkers workers
InRanges commands.Show = Unit {0}
InRanges (commands.Trial number m t table file_length batches relays loss workers) =
    HasTrialRanges (trial_options number m t table file_length batches relays loss) × HasWorkers workers
InRanges commands.Help = Unit {0}
