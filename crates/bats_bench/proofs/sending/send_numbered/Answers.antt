use Rattle.std.proofs.Common.{◌≡◌, ◌∙◌, ap, sym, ℕ}
use Rattle.bats_model.specs.Session.{SessionData}
use Rattle.bats_model.specs.Batch.{BatchData, batch_of}
use Rattle.bats_model.proofs.SystematicBatches.{number-batch_of}
use Rattle.bats_bench.proofs.sending.send_numbered.Goals as goal

-- the batch of its number is that of the session
of_number : (s t : SessionData) (n : ℕ) (b : BatchData) → s ≡ t → b ≡ batch_of t n → b ≡ batch_of s b.number
of_number s t n b e f =
    let is = f ∙ ap (λ (u : SessionData). batch_of u n) (sym e) in
    is ∙ ap (batch_of s) (sym (ap (λ (x : BatchData). x.number) is ∙ number-batch_of s n))

pub send_batch-requires-clause-batch : goal.send_batch-requires-clause-batch
send_batch-requires-clause-batch c =
    of_number c.args.encoder.now.session c.args.session.now c.args.number c.in_ok-batch.batch
    c.requires.session c.in_ok-batch.ensures.value
