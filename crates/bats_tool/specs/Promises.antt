-- What each command promises.
use Rattle.std.specs.Prelude.{[], Option, None, Some, codes}
use Rattle.tool_run.specs.declared.status.Status.TheVariants as statuses
use Rattle.tool_run.specs.Ending.{Ending, refusal, untouched}
use Rattle.tool_run.specs.Promise.{Promise, reads_nothing}
use Rattle.bats_words.specs.declared.command.Command.{Command}
use Rattle.bats_words.specs.declared.command.Command.TheVariants as commands
use Rattle.bats_words.specs.Help.{help_text}
use Rattle.bats_words.specs.Options.{source_options, trial_options}
use Rattle.tool_source.specs.Source.{source_promise}
use Rattle.tool_sink.specs.Sink.{sink_promise}
use Rattle.tool_sink.specs.Check.{check_promise}
use Rattle.tool_replay.specs.Replay.{replay_promise}
use Rattle.tool_replay.specs.Trial.{trial_promise}
use Rattle.tool_stream.specs.Show.{show_promise}
use Rattle.tool_stream.specs.Relay.{relay_promise}

-- how words end that are no command
abbrev pub usage_ending : Ending
usage_ending = refusal statuses.Usage (codes "bats: usage\n") untouched

-- how `help` ends: nothing is read, and there is no notes line
abbrev pub help_ending : Ending
help_ending = record { status = statuses.Done; output = help_text; line = []; reach = untouched; work = None }

-- the promise of words, as far as they are a command
abbrev pub promise_of : Option Command → Promise
promise_of None = reads_nothing usage_ending
promise_of (Some (commands.Source m t table systematic seed first batches)) =
    source_promise (source_options m t table systematic seed first batches)
promise_of (Some (commands.Relay seed extra count)) = relay_promise seed extra count
promise_of (Some (commands.Sink workers both)) = sink_promise both
promise_of (Some (commands.Replay workers both pool)) = replay_promise both pool
promise_of (Some (commands.Check workers)) = check_promise
promise_of (Some commands.Show) = show_promise
promise_of (Some (commands.Trial number m t table file_length batches relays loss workers)) =
    trial_promise (trial_options number m t table file_length batches relays loss)
promise_of (Some commands.Help) = reads_nothing help_ending
