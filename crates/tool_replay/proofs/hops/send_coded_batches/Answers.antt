use Rattle.std.proofs.Common.{◌≡◌, ◌≤◌, ap, arith, ℕ, List, length}
use Rattle.bats_model.specs.Session.{SessionData}
use Rattle.std.proofs.lemmas.List.FromFn.{length-map-range_with_len}
use Rattle.bats_world.specs.World.{source_packet}
use Rattle.tool_replay.specs.steps.Hops.{coded_batch}
use Rattle.tool_replay.proofs.SentPackets.{Sends-nothing, Sends-batch, room-batch}
use Rattle.tool_replay.proofs.hops.send_coded_batches.Goals as goal

length-coded_batch : (session : SessionData) (file : List ℕ) (m batch : ℕ) → session.m ≡ m → length (coded_batch session file batch) ≤ m
length-coded_batch session file m batch same = omega (arith, same, length-map-range_with_len (source_packet session file batch) 0 session.m)

pub batches-init : goal.batches-init
batches-init c = Sends-nothing c.args.hop.now

pub send_numbered-requires-clause-room : goal.send_numbered-requires-clause-room
send_numbered-requires-clause-room c =
    let s = c.args.encoder.now.session in
    let m = c.args.session.now.m in
    room-batch (coded_batch s c.args.encoder.now.file) m c.batches.number c.args.batches 8192
    (λ batch. length-coded_batch s c.args.encoder.now.file m batch (ap (λ (z : SessionData). z.m) c.requires.session))
    c.requires.unsent c.batches-test.true c.requires.room c.batches.invariant

pub batches-preserved : goal.batches-preserved
batches-preserved c =
    Sends-batch (coded_batch c.args.encoder.now.session c.args.encoder.now.file) c.batches.number c.batches.invariant c.in_ok-send_numbered.ensures
