use Rattle.std.proofs.Common.{◌∙◌, ap}
use Rattle.bats_model.specs.Batch.{BatchData}
use Rattle.bats_model.proofs.SystematicBatches.{columns-batch_of}
use Rattle.bats_checks.proofs.tests.sampling.a_systematic_session_past_its_systematic_batches.Goals as goal

pub entries-requires : goal.entries-requires
entries-requires g c =
    ap (λ (batch : BatchData). batch.columns) c.in_ok-sampled.ensures.value
    ∙ columns-batch_of c.in_ok-parameters.parameters 3 ∙ c.in_ok-parameters.ensures
