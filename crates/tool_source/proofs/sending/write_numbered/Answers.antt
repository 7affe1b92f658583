use Rattle.std.proofs.Common.{◌≡◌, ◌∙◌, ap, sym, refl, ℕ}
use Rattle.bats_model.specs.Session.{SessionData}
use Rattle.bats_model.specs.Batch.{BatchData, batch_of}
use Rattle.bats_model.proofs.SystematicBatches.{number-batch_of}
use Rattle.tool_source.specs.Source.{batch_records}
use Rattle.tool_run.proofs.Writing.{Writes-nothing, Writes-same, Writes-exit_memory}
use Rattle.tool_source.proofs.sending.write_numbered.Goals as goal

numbered : (s : SessionData) (n : ℕ) (b : BatchData) → b ≡ batch_of s n → b.number ≡ n
numbered s n b e = ap (λ (x : BatchData). x.number) e ∙ number-batch_of s n

-- the batch of its number is that of the session
of_number : (s t : SessionData) (n : ℕ) (b : BatchData) → s ≡ t → b ≡ batch_of t n → b ≡ batch_of s n
of_number s t n b e f = f ∙ ap (λ (u : SessionData). batch_of u n) (sym e)

pub write_batch-requires-clause-batch : goal.write_batch-requires-clause-batch
write_batch-requires-clause-batch g c =
    let s = c.args.encoder.now.session in
    let b = c.in_ok-batch.batch in
    let is = of_number s c.args.session.now c.args.number b c.requires.session c.in_ok-batch.ensures.value in
    is ∙ ap (batch_of s) (sym (numbered s c.args.number b is))

pub returns-in_err-batch : goal.returns-in_err-batch
returns-in_err-batch g c =
    Writes-exit_memory _ _ refl c.from_residual.ensures.1 (Writes-nothing (g.O.Sink.state c.args.output.now))

pub returns : goal.returns
returns g c =
    let s = c.args.encoder.now.session in
    let b = c.in_ok-batch.batch in
    let is = of_number s c.args.session.now c.args.number b c.requires.session c.in_ok-batch.ensures.value in
    Writes-same (ap (batch_records s c.args.encoder.now.file) (sym (numbered s c.args.number b is))) c.write_batch.ensures
