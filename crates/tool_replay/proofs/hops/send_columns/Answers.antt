use Rattle.std.proofs.Common.{arith}
use Rattle.bats_world.specs.World.{source_packet}
use Rattle.tool_replay.proofs.SentPackets.{Sends-nothing, Sends-more, sent-before}
use Rattle.tool_replay.proofs.hops.send_columns.Goals as goal

pub columns-init : goal.columns-init
columns-init c = Sends-nothing c.args.hop.now

pub send_coded-requires-clause-room : goal.send_coded-requires-clause-room
send_coded-requires-clause-room c =
    omega (
      arith,
      sent-before (source_packet c.args.encoder.now.session c.args.encoder.now.file c.args.batch.now.number) c.columns.column c.columns.invariant,
      c.columns-test.true,
      c.m.ensures.value,
      c.requires.room,
    )

pub columns-preserved : goal.columns-preserved
columns-preserved c =
    Sends-more (source_packet c.args.encoder.now.session c.args.encoder.now.file c.args.batch.now.number) c.columns.column c.columns.invariant
    c.in_ok-send_coded.ensures
