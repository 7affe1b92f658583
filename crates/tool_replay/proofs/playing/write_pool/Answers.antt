use Rattle.std.proofs.Common.{refl, flat_map}
use Rattle.tool_run.proofs.Writing.{Writes-after, Writes-exit}
use Rattle.tool_replay.specs.Replay.{pool_record}
use Rattle.tool_replay.proofs.playing.write_pool.Goals as goal

pub returns-in_err-write_header : goal.returns-in_err-write_header
returns-in_err-write_header g c =
    Writes-exit _ (flat_map pool_record c.args.world.now.pool) refl c.from_residual.ensures.1 c.in_err-write_header.ensures

pub returns : goal.returns
returns g c = Writes-after c.in_ok-write_header.ensures c.write_packets.ensures
