use Rattle.std.proofs.Common.{◌≤◌, ◌∙◌, ap, sym, arith, append-nil, []}
use Rattle.bats_batch.specs.Basis.{BasisData}
use Rattle.bats_batch.specs.Held.{HeldData}
use Rattle.bats_model.specs.Session.{SessionData}
use Rattle.tool_run.proofs.Writing.{Writes-same, Writes-exit}
use Rattle.tool_stream.proofs.SentBatches.{place_records-is}
use Rattle.tool_stream.proofs.sending.send_place.Goals as goal

pub returns-in_err-send_batch-clause-written : goal.returns-in_err-send_batch-clause-written
returns-in_err-send_batch-clause-written g c answers by =
    let rank : c.rank.result ≤ 32 = omega (
      arith,
      c.rank.ensures.within,
      ap (λ (b : BasisData). b.m) c.basis_at.ensures.value,
      ap (λ (h : HeldData). h.session.m) c.held-held.ensures,
      ap (λ (s : SessionData). s.m) c.requires.session,
      c.m-at_most.ensures.value,
      c.m-at_most.ensures.within,
    ) in
    let is = place_records-is c.args.session.now c.args.mixer.now.seed answers c.args.mixer.now.held c.held-held.result.now c.args.place
    c.batch_at-number.result c.rank.result c.count-count.result c.basis_at.result.now c.held-held.ensures c.batch_at-number.ensures
    c.basis_at.ensures.value c.basis_at.ensures.at c.rank.ensures.value (by c.rank.result c.count-count.result rank c.count-count.ensures.value) in
    Writes-exit _ [] (is ∙ sym (append-nil _)) c.from_residual.ensures.1 c.in_err-send_batch.ensures.written

pub returns-clause-written : goal.returns-clause-written
returns-clause-written g c answers by =
    let rank : c.rank.result ≤ 32 = omega (
      arith,
      c.rank.ensures.within,
      ap (λ (b : BasisData). b.m) c.basis_at.ensures.value,
      ap (λ (h : HeldData). h.session.m) c.held-held.ensures,
      ap (λ (s : SessionData). s.m) c.requires.session,
      c.m-at_most.ensures.value,
      c.m-at_most.ensures.within,
    ) in
    let is = place_records-is c.args.session.now c.args.mixer.now.seed answers c.args.mixer.now.held c.held-held.result.now c.args.place
    c.batch_at-number.result c.rank.result c.count-count.result c.basis_at.result.now c.held-held.ensures c.batch_at-number.ensures
    c.basis_at.ensures.value c.basis_at.ensures.at c.rank.ensures.value (by c.rank.result c.count-count.result rank c.count-count.ensures.value) in
    Writes-same is c.in_ok-send_batch.ensures.written
