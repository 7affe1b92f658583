use Rattle.std.proofs.Common.{◌≡◌, Bool, Result, sym, subst}
use Rattle.tool_run.specs.declared.finish.Finish.{Finish}
use Rattle.tool_run.specs.declared.stop.Stop.{Stop}
use Rattle.tool_run.specs.Attempt.{Attempts}
use Rattle.tool_run.specs.Streams.{Counters, Ends}
use Rattle.tool_replay.specs.Replay.{replay_promise}
use Rattle.tool_replay.proofs.replaying.tell.Goals as goal

-- what is asked for
asked : {x z : Ends} {c d : Counters} {result : Result Finish Stop} (both pool known : Bool) → pool ≡ known
    → Attempts (replay_promise both known) x z c d result → Attempts (replay_promise both pool) x z c d result
asked {x} {z} {c} {d} {result} both pool known is attempt =
    subst (λ (p : Bool). Attempts (replay_promise both p) x z c d result) (sym is) attempt

pub returns-then-pool : goal.returns-then-pool
returns-then-pool g c = λ before after script first p.
    asked c.args.both c.args.pool _ c.if-pool.true (c.tell_pool.ensures c.args.both before after script first p)

pub returns-else-pool : goal.returns-else-pool
returns-else-pool g c = λ before after script first p.
    asked c.args.both c.args.pool _ c.if-pool.false (c.tell_answer.ensures before after script first p)
