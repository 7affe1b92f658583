-- What the words behind a command's name are.
use Rattle.std.specs.Prelude.{ℕ, List, Option}
use Rattle.bats_words.specs.declared.command.Command.{Command}
use Rattle.bats_words.specs.declared.words.names.Name.{Name}
use Rattle.bats_words.specs.declared.words.names.Name.TheVariants as names
use Rattle.bats_words.specs.Words.{read_by, source_of, source_names, relay_of, relay_names, sink_of, sink_names, replay_of, replay_names, check_of, check_names, show_of, show_names, trial_of, trial_names, help_of, help_names}

-- the command that the words behind this name are
abbrev pub named : Name → List (List ℕ) → Option Command
named names.Source words = read_by source_names source_of words
named names.Relay words = read_by relay_names relay_of words
named names.Sink words = read_by sink_names sink_of words
named names.Replay words = read_by replay_names replay_of words
named names.Check words = read_by check_names check_of words
named names.Show words = read_by show_names show_of words
named names.Trial words = read_by trial_names trial_of words
named names.Help words = read_by help_names help_of words
