use Rattle.std.proofs.Common.{◌≡◌, ◌∙◌, sym, subst, IfOk}
use Rattle.bats_model.specs.Session.{symbols_of}
use Rattle.bats_model.specs.Batch.{BatchData, sampled_batch_of}
use Rattle.std.proofs.lemmas.Result.{IfOk-weaker}
use Rattle.bats_sampler.specs.Contributors.{AreContributors}
use Rattle.bats_sampler.proofs.BatchParts.{batch_of-found, batch_of-not_found}
use Rattle.bats_sampler.proofs.DistinctContributors.{AreContributors-batch_of}
use Rattle.bats_sampler.proofs.sampler.batch.Goals as goal

pub returns-in-Some-clause-value : goal.returns-in-Some-clause-value
returns-in-Some-clause-value c =
    batch_of-found c.args.session.now c.args.number c.in-Some.batch (sym c.in-Some.is ∙ c.in_ok-batch.ensures)

pub returns-in-Some-clause-contributors : goal.returns-in-Some-clause-contributors
returns-in-Some-clause-contributors c =
    subst (λ (batch : BatchData). AreContributors (symbols_of c.args.session.now) batch.contributors)
    (sym (batch_of-found c.args.session.now c.args.number c.in-Some.batch (sym c.in-Some.is ∙ c.in_ok-batch.ensures)))
    (AreContributors-batch_of c.args.session.now c.args.number)

pub returns-in-None-clause-value : goal.returns-in-None-clause-value
returns-in-None-clause-value c =
    subst (λ (wanted : BatchData). IfOk c.sampled_batch.result (λ batch. batch ≡ wanted))
    (batch_of-not_found c.args.session.now c.args.number (sym c.in-None.is ∙ c.in_ok-batch.ensures))
    c.sampled_batch.ensures

pub returns-in-None-clause-contributors : goal.returns-in-None-clause-contributors
returns-in-None-clause-contributors c =
    let s = c.args.session.now in
    let n = c.args.number in
    let none = batch_of-not_found s n (sym c.in-None.is ∙ c.in_ok-batch.ensures) in
    IfOk-weaker c.sampled_batch.result (λ batch. batch ≡ sampled_batch_of s n)
    (λ batch. AreContributors (symbols_of s) batch.contributors)
    (λ batch is. subst (λ (b : BatchData). AreContributors (symbols_of s) b.contributors) (sym (is ∙ none))
    (AreContributors-batch_of s n))
    c.sampled_batch.ensures
