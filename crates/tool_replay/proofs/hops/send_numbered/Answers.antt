use Rattle.std.proofs.Common.{◌≡◌, ◌∙◌, ap, sym}
use Rattle.bats_model.specs.Batch.{BatchData}
use Rattle.bats_model.proofs.SystematicBatches.{number-batch_of}
use Rattle.bats_world.proofs.SourcePackets.{batch-own}
use Rattle.tool_replay.specs.steps.Hops.{coded_batch}
use Rattle.tool_replay.proofs.SentPackets.{OnOk-sends}
use Rattle.tool_replay.proofs.hops.send_numbered.Goals as goal

pub send_columns-requires-clause-batch : goal.send_columns-requires-clause-batch
send_columns-requires-clause-batch c =
    batch-own c.args.session.now c.args.encoder.now.session c.args.number c.in_ok-batch.batch c.requires.session c.in_ok-batch.ensures.value

pub returns : goal.returns
returns c =
    let number : c.in_ok-batch.batch.number ≡ c.args.number =
    ap (λ (b : BatchData). b.number) c.in_ok-batch.ensures.value ∙ number-batch_of c.args.session.now c.args.number in
    OnOk-sends _ _ _ _ c.send_columns.result (ap (coded_batch c.args.encoder.now.session c.args.encoder.now.file) (sym number)) c.send_columns.ensures
