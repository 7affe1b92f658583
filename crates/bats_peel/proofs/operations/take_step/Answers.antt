use Rattle.std.proofs.Common.{◌≡◌, ◌∙◌, ◌≤◌, ◌+◌, ◌++◌, ℕ, List, ap, sym, subst, arith, length, refl, get_or}
use Rattle.std.specs.Prelude.{map, All}
use Rattle.std.proofs.lemmas.List.{get_or_default}
use Rattle.bats_model.specs.Peeling.{with_symbols}
use Rattle.bats_model.specs.Session.{symbols_of}
use Rattle.bats_batch.specs.Basis.{BasisData}
use Rattle.bats_batch.specs.Held.{batch_at, max_kept}
use Rattle.bats_peel.specs.declared.local.Local.{Local}
use Rattle.bats_peel.specs.declared.peeled.Place.{Place}
use Rattle.bats_peel.specs.steps.Fixing.{IsFixing}
use Rattle.bats_peel.proofs.StepLemmas.{IsLocalFor, IsLocalFor-at, IsLocal-for, IsWork-step, room_before, beyond_before, changes_in, beyond_in, count_in, known_after, names_in, replayed_in, places_below, rows_below, zero_rows_below, symbols_once}
use Rattle.bats_peel.proofs.operations.take_step.Goals as goal

pub substitute_rows-requires-clause-rows : goal.substitute_rows-requires-clause-rows
substitute_rows-requires-clause-rows g c =
    let session = c.args.held.now.session in
    let batches = c.args.held.now.batches in
    let local : Local = c.index-locals-place.result in
    let same : c.basis_at-kept.result.now.kept ≡ (batch_at batches c.args.place).kept = ap (λ (basis : BasisData). basis.kept) c.basis_at-kept.ensures.value in
    let at : IsLocalFor session batches c.args.place local =
    IsLocalFor-at session batches c.args.locals.now c.args.place local c.basis_at-kept.result.now.kept c.requires.locals c.requires.place
    c.index-locals-place.is same c.basis_at-kept.ensures.own in
    omega (arith, room_before session batches c.args.place local c.args.work.now c.requires.work at, c.requires.work.rows)

pub substitute_rows-requires-clause-local : goal.substitute_rows-requires-clause-local
substitute_rows-requires-clause-local g c =
    let session = c.args.held.now.session in
    let batches = c.args.held.now.batches in
    let local : Local = c.index-locals-place.result in
    let same : c.basis_at-kept.result.now.kept ≡ (batch_at batches c.args.place).kept = ap (λ (basis : BasisData). basis.kept) c.basis_at-kept.ensures.value in
    let at : IsLocalFor session batches c.args.place local =
    IsLocalFor-at session batches c.args.locals.now c.args.place local c.basis_at-kept.result.now.kept c.requires.locals c.requires.place
    c.index-locals-place.is same c.basis_at-kept.ensures.own in
    IsLocal-for session batches c.args.place (length c.deref.result.now) local at (ap (λ (ps : List Place). length ps) c.deref.ensures.value ∙ c.requires.work.places)

pub substitute_rows-requires-clause-beyond : goal.substitute_rows-requires-clause-beyond
substitute_rows-requires-clause-beyond g c =
    let session = c.args.held.now.session in
    let batches = c.args.held.now.batches in
    let local : Local = c.index-locals-place.result in
    let same : c.basis_at-kept.result.now.kept ≡ (batch_at batches c.args.place).kept = ap (λ (basis : BasisData). basis.kept) c.basis_at-kept.ensures.value in
    let at : IsLocalFor session batches c.args.place local =
    IsLocalFor-at session batches c.args.locals.now c.args.place local c.basis_at-kept.result.now.kept c.requires.locals c.requires.place
    c.index-locals-place.is same c.basis_at-kept.ensures.own in
    beyond_in c.args.work.now.matrix local.first (length local.matrix.rows) c.args.work.now c.deref.result.now
    c.deref-2.result.now c.deref.ensures.value c.deref-2.ensures.value
    (beyond_before session batches c.args.place local c.args.work.now c.requires.work at c.requires.taken)

pub replay-requires-clause-rows : goal.replay-requires-clause-rows
replay-requires-clause-rows g c =
    let session = c.args.held.now.session in
    let batches = c.args.held.now.batches in
    let local : Local = c.index-locals-place.result in
    let same : c.basis_at-kept.result.now.kept ≡ (batch_at batches c.args.place).kept = ap (λ (basis : BasisData). basis.kept) c.basis_at-kept.ensures.value in
    let at : IsLocalFor session batches c.args.place local =
    IsLocalFor-at session batches c.args.locals.now c.args.place local c.basis_at-kept.result.now.kept c.requires.locals c.requires.place
    c.index-locals-place.is same c.basis_at-kept.ensures.own in
    omega (
      arith,
      room_before session batches c.args.place local c.args.work.now c.requires.work at,
      c.requires.work.rows,
      c.rows-count.ensures.count,
      c.in_ok-substitute_rows.ensures.changes.keeps.rows,
    )

pub name_rows-requires-clause-local : goal.name_rows-requires-clause-local
name_rows-requires-clause-local g c =
    let session = c.args.held.now.session in
    let batches = c.args.held.now.batches in
    let local : Local = c.index-locals-place.result in
    let same : c.basis_at-kept.result.now.kept ≡ (batch_at batches c.args.place).kept = ap (λ (basis : BasisData). basis.kept) c.basis_at-kept.ensures.value in
    let at : IsLocalFor session batches c.args.place local =
    IsLocalFor-at session batches c.args.locals.now c.args.place local c.basis_at-kept.result.now.kept c.requires.locals c.requires.place
    c.index-locals-place.is same c.basis_at-kept.ensures.own in
    IsLocal-for session batches c.args.place (length c.deref_mut.result.now) local at
    (ap (λ (ps : List Place). length ps) c.deref_mut.ensures.value ∙ c.requires.work.places)

pub name_rows-requires-clause-fixing : goal.name_rows-requires-clause-fixing
name_rows-requires-clause-fixing g c =
    let session = c.args.held.now.session in
    let batches = c.args.held.now.batches in
    let local : Local = c.index-locals-place.result in
    let same : c.basis_at-kept.result.now.kept ≡ (batch_at batches c.args.place).kept = ap (λ (basis : BasisData). basis.kept) c.basis_at-kept.ensures.value in
    let at : IsLocalFor session batches c.args.place local =
    IsLocalFor-at session batches c.args.locals.now c.args.place local c.basis_at-kept.result.now.kept c.requires.locals c.requires.place
    c.index-locals-place.is same c.basis_at-kept.ensures.own in
    let fixes : IsFixing local c.args.work.now.known.items c.args.fixing.now =
    subst (λ (l : Local). IsFixing l c.args.work.now.known.items c.args.fixing.now) (sym c.index-locals-place.is) (c.requires.fixing local) in
    λ k h. (places_below local c.args.work.now.known.items c.args.fixing.now fixes k h).0

pub name_rows-requires-clause-once : goal.name_rows-requires-clause-once
name_rows-requires-clause-once g c =
    let session = c.args.held.now.session in
    let batches = c.args.held.now.batches in
    let local : Local = c.index-locals-place.result in
    let same : c.basis_at-kept.result.now.kept ≡ (batch_at batches c.args.place).kept = ap (λ (basis : BasisData). basis.kept) c.basis_at-kept.ensures.value in
    let at : IsLocalFor session batches c.args.place local =
    IsLocalFor-at session batches c.args.locals.now c.args.place local c.basis_at-kept.result.now.kept c.requires.locals c.requires.place
    c.index-locals-place.is same c.basis_at-kept.ensures.own in
    let fixes : IsFixing local c.args.work.now.known.items c.args.fixing.now =
    subst (λ (l : Local). IsFixing l c.args.work.now.known.items c.args.fixing.now) (sym c.index-locals-place.is) (c.requires.fixing local) in
    symbols_once session batches c.args.place local c.args.work.now.known.items c.args.fixing.now at fixes

pub name_rows-requires-clause-rows : goal.name_rows-requires-clause-rows
name_rows-requires-clause-rows g c =
    let session = c.args.held.now.session in
    let batches = c.args.held.now.batches in
    let local : Local = c.index-locals-place.result in
    let same : c.basis_at-kept.result.now.kept ≡ (batch_at batches c.args.place).kept = ap (λ (basis : BasisData). basis.kept) c.basis_at-kept.ensures.value in
    let at : IsLocalFor session batches c.args.place local =
    IsLocalFor-at session batches c.args.locals.now c.args.place local c.basis_at-kept.result.now.kept c.requires.locals c.requires.place
    c.index-locals-place.is same c.basis_at-kept.ensures.own in
    let fixes : IsFixing local c.args.work.now.known.items c.args.fixing.now =
    subst (λ (l : Local). IsFixing l c.args.work.now.known.items c.args.fixing.now) (sym c.index-locals-place.is) (c.requires.fixing local) in
    rows_below local c.args.work.now.known.items c.args.fixing.now fixes

pub name_rows-requires-clause-limit : goal.name_rows-requires-clause-limit
name_rows-requires-clause-limit g c =
    let session = c.args.held.now.session in
    let batches = c.args.held.now.batches in
    let local : Local = c.index-locals-place.result in
    let same : c.basis_at-kept.result.now.kept ≡ (batch_at batches c.args.place).kept = ap (λ (basis : BasisData). basis.kept) c.basis_at-kept.ensures.value in
    let at : IsLocalFor session batches c.args.place local =
    IsLocalFor-at session batches c.args.locals.now c.args.place local c.basis_at-kept.result.now.kept c.requires.locals c.requires.place
    c.index-locals-place.is same c.basis_at-kept.ensures.own in
    omega (arith, room_before session batches c.args.place local c.args.work.now c.requires.work at, c.requires.work.limit)

pub leave_rows-requires : goal.leave_rows-requires
leave_rows-requires g c =
    let session = c.args.held.now.session in
    let batches = c.args.held.now.batches in
    let local : Local = c.index-locals-place.result in
    let same : c.basis_at-kept.result.now.kept ≡ (batch_at batches c.args.place).kept = ap (λ (basis : BasisData). basis.kept) c.basis_at-kept.ensures.value in
    let at : IsLocalFor session batches c.args.place local =
    IsLocalFor-at session batches c.args.locals.now c.args.place local c.basis_at-kept.result.now.kept c.requires.locals c.requires.place
    c.index-locals-place.is same c.basis_at-kept.ensures.own in
    let fixes : IsFixing local c.args.work.now.known.items c.args.fixing.now =
    subst (λ (l : Local). IsFixing l c.args.work.now.known.items c.args.fixing.now) (sym c.index-locals-place.is) (c.requires.fixing local) in
    subst (All (λ r. local.first + r ≤ max_kept)) (sym c.as_slice.ensures)
    (λ k d h.
    omega (
      arith,
      zero_rows_below local c.args.work.now.known.items c.args.fixing.now fixes k d h,
      room_before session batches c.args.place local c.args.work.now c.requires.work at,
      c.requires.work.limit,
    ))

pub returns-clause-work : goal.returns-clause-work
returns-clause-work g c =
    let session = c.args.held.now.session in
    let batches = c.args.held.now.batches in
    let local : Local = c.index-locals-place.result in
    let same : c.basis_at-kept.result.now.kept ≡ (batch_at batches c.args.place).kept = ap (λ (basis : BasisData). basis.kept) c.basis_at-kept.ensures.value in
    let at : IsLocalFor session batches c.args.place local =
    IsLocalFor-at session batches c.args.locals.now c.args.place local c.basis_at-kept.result.now.kept c.requires.locals c.requires.place
    c.index-locals-place.is same c.basis_at-kept.ensures.own in
    let fixes : IsFixing local c.args.work.now.known.items c.args.fixing.now =
    subst (λ (l : Local). IsFixing l c.args.work.now.known.items c.args.fixing.now) (sym c.index-locals-place.is) (c.requires.fixing local) in
    IsWork-step session batches c.args.place local c.args.fixing.now c.args.work.now _ c.substitute_rows.new.matrix c.substitute_rows.new.plan
    c.requires.work at c.requires.taken fixes
    (changes_in local c.args.work.now c.substitute_rows.new.matrix c.substitute_rows.new.plan c.deref.result.now c.deref-2.result.now
    c.deref.ensures.value c.deref-2.ensures.value c.in_ok-substitute_rows.ensures.changes)
    (count_in local c.args.work.now c.substitute_rows.new.plan c.deref-2.result.now c.deref-2.ensures.value c.in_ok-substitute_rows.ensures.count)
    (replayed_in local.first c.rows-count.result (length local.matrix.rows) c.args.fixing.now.plan c.rows-count.ensures.count c.in_ok-replay.ensures.changes)
    c.in_ok-replay.ensures.count
    (names_in c.args.work.now c.deref_mut.result.now c.name_rows.new.places c.deref_mut-2.result.now c.name_rows.new.known
    c.deref_mut.ensures.value c.deref_mut-2.ensures.value c.name_rows.ensures)
    refl
    (c.in_ok-leave_rows.ensures ∙ ap (λ (rs : List ℕ). c.args.work.now.leftover ++ map (λ r. local.first + r) rs) c.as_slice.ensures) refl

pub returns-clause-known : goal.returns-clause-known
returns-clause-known g c =
    let session = c.args.held.now.session in
    let batches = c.args.held.now.batches in
    let local : Local = c.index-locals-place.result in
    let same : c.basis_at-kept.result.now.kept ≡ (batch_at batches c.args.place).kept = ap (λ (basis : BasisData). basis.kept) c.basis_at-kept.ensures.value in
    let at : IsLocalFor session batches c.args.place local =
    IsLocalFor-at session batches c.args.locals.now c.args.place local c.basis_at-kept.result.now.kept c.requires.locals c.requires.place
    c.index-locals-place.is same c.basis_at-kept.ensures.own in
    let fixes : IsFixing local c.args.work.now.known.items c.args.fixing.now =
    subst (λ (l : Local). IsFixing l c.args.work.now.known.items c.args.fixing.now) (sym c.index-locals-place.is) (c.requires.fixing local) in
    λ d.
    let same_local : get_or c.args.locals.now c.args.place d ≡ local =
    get_or_default c.args.locals.now c.args.place d local c.requires.place ∙ sym c.index-locals-place.is in
    known_after session local c.args.fixing.now c.args.work.now.places.items _ c.args.work.now.known.items _ _ c.requires.work.known
    (IsLocal-for session batches c.args.place (symbols_of session) local at refl) fixes
    (names_in c.args.work.now c.deref_mut.result.now c.name_rows.new.places c.deref_mut-2.result.now c.name_rows.new.known
    c.deref_mut.ensures.value c.deref_mut-2.ensures.value c.name_rows.ensures)
    ∙ ap (λ (l : Local). with_symbols session c.args.work.now.known.items l.batch.contributors) (sym same_local)
