use Rattle.std.proofs.Common.{◌<◌, ◌∙◌, arith}
use Rattle.bats_relay.specs.Mixer.{sent_of}
use Rattle.tool_stream.proofs.SentBatches.{batch_records-more, batch_records-failed}
use Rattle.tool_stream.proofs.sending.send_batch.Goals as goal

pub outputs-preserved : goal.outputs-preserved
outputs-preserved g c =
    let so_far = c.outputs.invariant in
    let sent = c.in_ok-send_output.ensures.sent in
    record {
      written = batch_records-more c.args.session.now c.args.number c.args.mixer.now c.outputs.mixer c.send_output.new.mixer so_far.held so_far.seed
          sent so_far.written c.in_ok-send_output.ensures.written;
      held = sent.held ∙ so_far.held;
      seed = sent.seed ∙ so_far.seed;
      within = omega (arith, sent.own, c.sent.ensures, c.outputs-test.true);
      others = λ other apart. sent.others other apart ∙ so_far.others other apart;
    }

pub returns-in_err-send_output-clause-written : goal.returns-in_err-send_output-clause-written
returns-in_err-send_output-clause-written g c =
    let so_far = c.outputs.invariant in
    let within : sent_of c.outputs.mixer c.args.number < c.args.count = omega (arith, c.sent.ensures, c.outputs-test.true) in
    batch_records-failed c.args.session.now c.args.number c.args.count c.args.mixer.now c.outputs.mixer _ within c.from_residual.ensures.1
    so_far.held so_far.seed so_far.written c.in_err-send_output.ensures.written
