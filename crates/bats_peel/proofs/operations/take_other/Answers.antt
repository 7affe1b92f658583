use Rattle.std.proofs.Common.{◌≡◌, ◌∙◌, ◌+◌, ◌++◌, ℕ, List, ap, sym, arith, length, refl, false}
use Rattle.std.specs.Prelude.{map}
use Rattle.std.specs.List.{range_with_len}
use Rattle.std.proofs.lemmas.List.{get_or_default}
use Rattle.bats_batch.specs.Basis.{BasisData}
use Rattle.bats_batch.specs.Held.{batch_at}
use Rattle.bats_peel.specs.declared.local.Local.{Local}
use Rattle.bats_peel.specs.declared.peeled.Place.{Place}
use Rattle.bats_peel.specs.steps.Work.{is_taken}
use Rattle.bats_peel.proofs.StepLemmas.{IsLocalFor, IsLocalFor-at, IsLocal-for, IsWork-other, room_before, beyond_before, changes_in, beyond_in, count_in}
use Rattle.bats_peel.proofs.operations.take_other.Goals as goal

pub substitute_rows-requires-clause-rows : goal.substitute_rows-requires-clause-rows
substitute_rows-requires-clause-rows g c =
    let session = c.args.held.now.session in
    let batches = c.args.held.now.batches in
    let local : Local = c.index-locals-place.result in
    let same : c.basis_at-kept.result.now.kept ≡ (batch_at batches c.args.place).kept = ap (λ (basis : BasisData). basis.kept) c.basis_at-kept.ensures.value in
    let at : IsLocalFor session batches c.args.place local =
    IsLocalFor-at session batches c.args.locals.now c.args.place local c.basis_at-kept.result.now.kept c.requires.locals c.requires.place
    c.index-locals-place.is same c.basis_at-kept.ensures.own in
    omega (arith, room_before session batches c.args.place local c.args.work.now c.requires.work at, c.requires.work.rows)

pub substitute_rows-requires-clause-local : goal.substitute_rows-requires-clause-local
substitute_rows-requires-clause-local g c =
    let session = c.args.held.now.session in
    let batches = c.args.held.now.batches in
    let local : Local = c.index-locals-place.result in
    let same : c.basis_at-kept.result.now.kept ≡ (batch_at batches c.args.place).kept = ap (λ (basis : BasisData). basis.kept) c.basis_at-kept.ensures.value in
    let at : IsLocalFor session batches c.args.place local =
    IsLocalFor-at session batches c.args.locals.now c.args.place local c.basis_at-kept.result.now.kept c.requires.locals c.requires.place
    c.index-locals-place.is same c.basis_at-kept.ensures.own in
    IsLocal-for session batches c.args.place (length c.deref.result.now) local at (ap (λ (ps : List Place). length ps) c.deref.ensures.value ∙ c.requires.work.places)

pub substitute_rows-requires-clause-beyond : goal.substitute_rows-requires-clause-beyond
substitute_rows-requires-clause-beyond g c =
    let session = c.args.held.now.session in
    let batches = c.args.held.now.batches in
    let local : Local = c.index-locals-place.result in
    let same : c.basis_at-kept.result.now.kept ≡ (batch_at batches c.args.place).kept = ap (λ (basis : BasisData). basis.kept) c.basis_at-kept.ensures.value in
    let at : IsLocalFor session batches c.args.place local =
    IsLocalFor-at session batches c.args.locals.now c.args.place local c.basis_at-kept.result.now.kept c.requires.locals c.requires.place
    c.index-locals-place.is same c.basis_at-kept.ensures.own in
    let untaken : is_taken c.args.work.now c.args.place ≡ false =
    get_or_default c.args.work.now.taken.items c.args.place false c.index.result.now (omega (arith, c.requires.place, c.requires.locals.size, c.requires.work.taken))
    ∙ sym c.index.ensures ∙ c.if-index.false in
    beyond_in c.args.work.now.matrix local.first (length local.matrix.rows) c.args.work.now c.deref.result.now
    c.deref-2.result.now c.deref.ensures.value c.deref-2.ensures.value
    (beyond_before session batches c.args.place local c.args.work.now c.requires.work at untaken)

pub leave_all-requires : goal.leave_all-requires
leave_all-requires g c =
    let session = c.args.held.now.session in
    let batches = c.args.held.now.batches in
    let local : Local = c.index-locals-place.result in
    let same : c.basis_at-kept.result.now.kept ≡ (batch_at batches c.args.place).kept = ap (λ (basis : BasisData). basis.kept) c.basis_at-kept.ensures.value in
    let at : IsLocalFor session batches c.args.place local =
    IsLocalFor-at session batches c.args.locals.now c.args.place local c.basis_at-kept.result.now.kept c.requires.locals c.requires.place
    c.index-locals-place.is same c.basis_at-kept.ensures.own in
    omega (
      arith,
      room_before session batches c.args.place local c.args.work.now c.requires.work at,
      c.requires.work.limit,
      c.rows.ensures.count,
    )

pub returns-clause-work : goal.returns-clause-work
returns-clause-work g c =
    let session = c.args.held.now.session in
    let batches = c.args.held.now.batches in
    let local : Local = c.index-locals-place.result in
    let same : c.basis_at-kept.result.now.kept ≡ (batch_at batches c.args.place).kept = ap (λ (basis : BasisData). basis.kept) c.basis_at-kept.ensures.value in
    let at : IsLocalFor session batches c.args.place local =
    IsLocalFor-at session batches c.args.locals.now c.args.place local c.basis_at-kept.result.now.kept c.requires.locals c.requires.place
    c.index-locals-place.is same c.basis_at-kept.ensures.own in
    let untaken : is_taken c.args.work.now c.args.place ≡ false =
    get_or_default c.args.work.now.taken.items c.args.place false c.index.result.now (omega (arith, c.requires.place, c.requires.locals.size, c.requires.work.taken))
    ∙ sym c.index.ensures ∙ c.if-index.false in
    IsWork-other session batches c.args.place local c.args.work.now _ c.requires.work at untaken c.requires.known
    (changes_in local c.args.work.now c.substitute_rows.new.matrix c.substitute_rows.new.plan c.deref.result.now c.deref-2.result.now
    c.deref.ensures.value c.deref-2.ensures.value c.in_ok-substitute_rows.ensures.changes)
    (count_in local c.args.work.now c.substitute_rows.new.plan c.deref-2.result.now c.deref-2.ensures.value c.in_ok-substitute_rows.ensures.count)
    refl refl refl
    (c.in_ok-leave_all.ensures
    ∙ ap (λ (n : ℕ). c.args.work.now.leftover ++ map (λ r. local.first + r) (range_with_len 0 n)) c.rows.ensures.count) refl
