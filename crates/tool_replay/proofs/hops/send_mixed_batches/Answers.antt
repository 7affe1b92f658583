use Rattle.std.proofs.Common.{◌≡◌, ◌∙◌, sym, refl, arith}
use Rattle.tool_replay.specs.steps.Hops.{held_outputs}
use Rattle.tool_replay.proofs.SentPackets.{Sends-nothing, Sends-batch, Sends-same, room-batch, held_outputs-same, length-held_outputs}
use Rattle.tool_replay.proofs.hops.send_mixed_batches.Goals as goal

pub batches-init : goal.batches-init
batches-init c = record {
  sends = Sends-nothing c.args.hop.now;
  held = refl;
  seed = refl;
  unsent = λ other from. c.requires.none other;
}

pub send_mixed-requires-clause-room : goal.send_mixed-requires-clause-room
send_mixed-requires-clause-room c =
    room-batch (held_outputs c.args.mixer.now c.args.m) c.args.m c.batches.batch c.args.batches 8192
    (length-held_outputs c.args.mixer.now c.args.m) c.requires.unsent c.batches-test.true c.requires.room c.batches.invariant.sends

pub batches-preserved : goal.batches-preserved
batches-preserved c =
    let so_far = c.batches.invariant in
    let sent = c.in_ok-send_mixed.ensures.sent in
    let batch = c.batches.batch in
    let same : held_outputs c.args.mixer.now c.args.m batch ≡ held_outputs c.batches.mixer c.args.m batch =
    held_outputs-same c.args.mixer.now c.batches.mixer c.args.m batch (sym so_far.held) (sym so_far.seed) in
    record {
      sends = Sends-batch (held_outputs c.args.mixer.now c.args.m) batch so_far.sends (Sends-same same c.in_ok-send_mixed.ensures.sends);
      held = sent.held ∙ so_far.held;
      seed = sent.seed ∙ so_far.seed;
      unsent = λ other from.
          sent.others other (λ e. omega (arith, from, e)) ∙ so_far.unsent other (omega (arith, from));
    }
