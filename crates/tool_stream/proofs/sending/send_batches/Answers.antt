use Rattle.std.proofs.Common.{◌≡◌, ◌<◌, ◌∙◌, ap, sym, arith, length}
use Rattle.bats_batch.specs.Held.{HeldData}
use Rattle.tool_run.proofs.Writing.{Writes-same}
use Rattle.tool_stream.specs.steps.Sending.{place_count}
use Rattle.tool_stream.proofs.SentBatches.{records_before, records_before-more, records_before-failed, sent_before-more}
use Rattle.tool_stream.proofs.sending.send_batches.Goals as goal

pub returns-in_err-sent-clause-written : goal.returns-in_err-sent-clause-written
returns-in_err-sent-clause-written g c answers by =
    let so_far = c.batches.invariant in
    let within : c.batches.place < length c.args.mixer.now.held.batches = omega (
      arith,
      c.batches-test.true,
      c.batches-place-end.ensures.value,
      ap (λ (h : HeldData). length h.batches) c.held.ensures,
    ) in
    records_before-failed c.args.session.now answers c.batches.place c.args.mixer.now c.batches.mixer _ within c.from_residual.ensures.1
    so_far.held so_far.seed (so_far.written answers by) (c.in_err-sent.ensures.written answers by)

pub batches-preserved : goal.batches-preserved
batches-preserved g c =
    let so_far = c.batches.invariant in
    record {
      written = λ answers by. records_before-more c.args.session.now answers c.batches.place c.args.mixer.now c.batches.mixer so_far.held so_far.seed
          (so_far.written answers by) (c.in_ok-sent.ensures.written answers by);
      count = λ answers by.
          let here : c.in_ok-sent.field-0 ≡ place_count answers c.args.mixer.now.held.batches c.batches.place =
          c.in_ok-sent.ensures.count answers by ∙ ap (λ (h : HeldData). place_count answers h.batches c.batches.place) so_far.held in
          omega (arith, so_far.count answers by, here, sent_before-more answers c.args.mixer.now.held.batches c.batches.place);
      within = omega (arith, so_far.within, c.in_ok-sent.ensures.within);
      held = c.in_ok-sent.ensures.held ∙ so_far.held;
      seed = c.in_ok-sent.ensures.seed ∙ so_far.seed;
      unsent = c.in_ok-sent.ensures.sent;
    }

pub returns-clause-written : goal.returns-clause-written
returns-clause-written g c answers by =
    let all : c.batches.place ≡ length c.args.mixer.now.held.batches = omega (
      arith,
      c.batches-test.false,
      c.batches.auto.place-end,
      c.batches-place-end.ensures.value,
      ap (λ (h : HeldData). length h.batches) c.held.ensures,
    ) in
    Writes-same (ap (records_before c.args.session.now c.args.mixer.now.seed answers c.args.mixer.now.held.batches) (sym all))
    (c.batches.invariant.written answers by)
