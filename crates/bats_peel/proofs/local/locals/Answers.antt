use Rattle.std.proofs.Common.{◌≡◌, ◌∙◌, List, length, take, sym, ap, refl, subst, arith}
use Rattle.bats_model.specs.Session.{SessionData}
use Rattle.bats_model.specs.Batch.{BatchData, batch_of}
use Rattle.bats_model.specs.declared.packet.Packet.{Packet}
use Rattle.bats_model.proofs.SystematicBatches.{columns-batch_of}
use Rattle.bats_batch.specs.Basis.{BasisData}
use Rattle.bats_batch.specs.Held.{HeldBatch, batch_at, row_count}
use Rattle.bats_peel.specs.declared.local.Local.{Local}
use Rattle.bats_peel.specs.steps.Local.{IsLocalMatrix}
use Rattle.bats_peel.proofs.LocalLemmas.{IsLocalOf-factors, HaveLocals-none, HaveLocals-more, AreLocals-all, row_count-more, row_count-room}
use Rattle.bats_peel.proofs.local.locals.Goals as goal

pub batches-init : goal.batches-init
batches-init c = record {
  first = refl;
  locals = HaveLocals-none c.args.session.now c.args.held.now.batches c.new-locals.result.items c.new-locals.ensures.items;
}

pub local_matrix-requires : goal.local_matrix-requires
local_matrix-requires c =
    ap (λ (basis : BasisData). basis.m) c.basis_at-basis.ensures.value ∙ ap (λ (session : SessionData). session.m) c.requires
    ∙ sym (ap (λ (batch : BatchData). batch.columns) c.in_ok-batch.ensures.value ∙ columns-batch_of c.args.session.now c.batch_at.result)

pub overflow_add-first : goal.overflow_add-first
overflow_add-first c =
    let own : length c.basis_at-basis.result.now.kept ≡ length (batch_at c.args.held.now.batches c.batches.i).kept =
    ap (λ (basis : BasisData). length basis.kept) c.basis_at-basis.ensures.value in
    omega (
      arith,
      own,
      c.batches.invariant.first,
      row_count-room c.args.held.now.batches c.batches.i (omega arith),
    )

pub batches-preserved : goal.batches-preserved
batches-preserved c =
    let batches : List HeldBatch = c.args.held.now.batches in
    let local : Local = record { first = c.batches.first; batch = c.in_ok-batch.batch; matrix = c.in_ok-matrix.matrix } in
    let own : c.basis_at-basis.result.now.kept ≡ (batch_at batches c.batches.i).kept =
    ap (λ (basis : BasisData). basis.kept) c.basis_at-basis.ensures.value in
    record {
      first = omega (
        arith,
        c.batches.invariant.first,
        c.rank-first.ensures.value,
        ap (λ (kept : List Packet). length kept) own,
        row_count-more batches c.batches.i (omega arith),
      );
      locals = HaveLocals-more c.args.session.now batches c.batches.i local c.batches.locals.items c.push.new.self.items c.batches.invariant.locals
          (IsLocalOf-factors c.args.session.now (batch_at batches c.batches.i).number (row_count (take c.batches.i batches))
          (batch_at batches c.batches.i).kept local c.batches.invariant.first
          (c.in_ok-batch.ensures.value ∙ ap (batch_of c.args.session.now) c.batch_at.ensures)
          (subst (λ (kept : List Packet). IsLocalMatrix c.in_ok-batch.batch kept c.in_ok-matrix.matrix) own c.in_ok-matrix.ensures))
          c.in_ok-push.ensures.items;
    }

pub returns : goal.returns
returns c =
    AreLocals-all c.args.session.now c.args.held.now.batches c.batches.i c.batches.locals.items (omega arith) c.batches.invariant.locals
