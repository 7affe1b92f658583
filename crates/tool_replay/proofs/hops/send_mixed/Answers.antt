use Rattle.std.proofs.Common.{◌≡◌, ◌∙◌, ◌∷◌, [], ap, sym, refl, arith, length}
use Rattle.bats_batch.specs.Held.{kept_at}
use Rattle.bats_model.specs.declared.packet.Packet.{Packet}
use Rattle.bats_relay.specs.Mixer.{sent_of}
use Rattle.tool_replay.specs.steps.Hops.{held_outputs, output_of, outputs_of}
use Rattle.tool_replay.proofs.SentPackets.{Sends-nothing, Sends-more, Sends-same, sent-before, output_of-same, fixed_count-le}
use Rattle.tool_replay.proofs.hops.send_mixed.Goals as goal

pub outputs-init : goal.outputs-init
outputs-init c =
    record {
      sends = Sends-same (ap (outputs_of c.args.mixer.now c.args.batch 0) c.requires.unsent) (Sends-nothing c.args.hop.now);
      held = refl;
      seed = refl;
      within = omega (arith, c.requires.unsent);
      others = λ other apart. refl;
    }

pub send_output-requires-clause-room : goal.send_output-requires-clause-room
send_output-requires-clause-room c =
    omega (
      arith,
      sent-before (output_of c.args.mixer.now c.args.batch) (sent_of c.outputs.mixer c.args.batch) c.outputs.invariant.sends,
      c.outputs-test.true,
      c.sent.ensures,
      c.count_of-count.ensures,
      fixed_count-le c.args.m (length (kept_at c.args.mixer.now.held.batches c.args.batch)),
      c.requires.room,
    )

pub outputs-preserved : goal.outputs-preserved
outputs-preserved c =
    let so_far = c.outputs.invariant in
    let sent = c.in_ok-send_output.ensures.sent in
    let number = sent_of c.outputs.mixer c.args.batch in
    let same : output_of c.args.mixer.now c.args.batch number ≡ output_of c.outputs.mixer c.args.batch number =
    output_of-same c.args.mixer.now c.outputs.mixer c.args.batch number (sym so_far.held) (sym so_far.seed) in
    record {
      sends = Sends-same (ap (outputs_of c.args.mixer.now c.args.batch 0) sent.own)
          (Sends-more (output_of c.args.mixer.now c.args.batch) number so_far.sends
          (Sends-same (ap (λ (p : Packet). p ∷ []) same) c.in_ok-send_output.ensures.sends));
      held = sent.held ∙ so_far.held;
      seed = sent.seed ∙ so_far.seed;
      within = omega (arith, sent.own, c.sent.ensures, c.outputs-test.true);
      others = λ other apart. sent.others other apart ∙ so_far.others other apart;
    }

pub returns-clause-sends : goal.returns-clause-sends
unfolding held_outputs
returns-clause-sends c =
    let all : sent_of c.outputs.mixer c.args.batch ≡ c.count_of-count.result =
    omega (arith, c.outputs.invariant.within, c.outputs-test.false, c.sent.ensures) in
    Sends-same (ap (outputs_of c.args.mixer.now c.args.batch 0) (sym (all ∙ c.count_of-count.ensures))) c.outputs.invariant.sends
