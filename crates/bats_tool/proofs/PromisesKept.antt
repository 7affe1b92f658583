-- Each command keeps what the run of any command rests on.
use Rattle.std.proofs.Common.{Option, None, Some}
use Rattle.tool_run.specs.Promise.{Keeps}
use Rattle.tool_run.proofs.AtOnce.{MayStopAtOnce, reads_file-at_once, reads_nothing-at_once, takes_no_input-at_once}
use Rattle.tool_run.proofs.Begun.{reads_nothing-keeps, takes_no_input-keeps}
use Rattle.tool_records.proofs.KeptWalks.{keeping_promise-at_once}
use Rattle.bats_words.specs.declared.command.Command.{Command}
use Rattle.bats_words.specs.declared.command.Command.TheVariants as commands
use Rattle.bats_words.specs.Options.{source_options, trial_options}
use Rattle.bats_tool.specs.Promises.{help_ending, promise_of, usage_ending}
use Rattle.tool_replay.proofs.ReplayKept.{replay_promise-at_once, replay_promise-keeps}
use Rattle.tool_replay.specs.Trial.{IsTrialEnding}
use Rattle.tool_sink.proofs.SinkKept.{check_promise-keeps, sink_promise-keeps}
use Rattle.tool_sink.specs.Check.{IsCheckEnding}
use Rattle.tool_sink.specs.Sink.{IsSinkEnding}
use Rattle.tool_source.specs.Source.{most_read, source_ending}
use Rattle.tool_source.proofs.Endings.{source_promise-keeps}
use Rattle.tool_stream.proofs.RelayWalks.{relay_promise-keeps}
use Rattle.tool_stream.specs.Relay.{IsRelayEnding}
use Rattle.tool_stream.proofs.ShowLines.{show_promise-at_once, show_promise-keeps}

pub promise_of-keeps : (command : Option Command) → Keeps (promise_of command)
promise_of-keeps None = reads_nothing-keeps usage_ending
promise_of-keeps (Some (commands.Source m t table systematic seed first batches)) =
    source_promise-keeps (source_options m t table systematic seed first batches)
promise_of-keeps (Some (commands.Relay seed extra count)) = relay_promise-keeps seed extra count
promise_of-keeps (Some (commands.Sink workers both)) = sink_promise-keeps both
promise_of-keeps (Some (commands.Replay workers both pool)) = replay_promise-keeps both pool
promise_of-keeps (Some (commands.Check workers)) = check_promise-keeps
promise_of-keeps (Some commands.Show) = show_promise-keeps
promise_of-keeps (Some (commands.Trial number m t table file_length batches relays loss workers)) =
    takes_no_input-keeps (IsTrialEnding (trial_options number m t table file_length batches relays loss))
promise_of-keeps (Some commands.Help) = reads_nothing-keeps help_ending

-- and may stop before it has read or written anything
pub promise_of-at_once : (command : Option Command) → MayStopAtOnce (promise_of command)
promise_of-at_once None = reads_nothing-at_once usage_ending
promise_of-at_once (Some (commands.Source m t table systematic seed first batches)) =
    let options = source_options m t table systematic seed first batches in
    reads_file-at_once (most_read options) (source_ending options)
promise_of-at_once (Some (commands.Relay seed extra count)) = keeping_promise-at_once (IsRelayEnding seed extra count)
promise_of-at_once (Some (commands.Sink workers both)) = keeping_promise-at_once (IsSinkEnding both)
promise_of-at_once (Some (commands.Replay workers both pool)) = replay_promise-at_once both pool
promise_of-at_once (Some (commands.Check workers)) = keeping_promise-at_once IsCheckEnding
promise_of-at_once (Some commands.Show) = show_promise-at_once
promise_of-at_once (Some (commands.Trial number m t table file_length batches relays loss workers)) =
    takes_no_input-at_once (IsTrialEnding (trial_options number m t table file_length batches relays loss))
promise_of-at_once (Some commands.Help) = reads_nothing-at_once help_ending
