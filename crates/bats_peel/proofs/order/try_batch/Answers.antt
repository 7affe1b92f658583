use Rattle.std.proofs.Common.{ℕ, ◌≡◌, ◌∙◌, Bool, List, None, Some, slice_get, get_or, length, refl, ap, sym, subst, arith}
use Rattle.std.proofs.lemmas.List.{get_or_read}
use Rattle.std.proofs.lemmas.Option.{slice_get_read}
use Rattle.bats_peel.specs.declared.local.Local.{Local}
use Rattle.bats_peel.specs.declared.order.Progress.{Progress}
use Rattle.bats_peel.specs.steps.Fixing.{FixesAs}
use Rattle.bats_peel.specs.steps.Search.{IsPart, unknown_contributors}
use Rattle.bats_peel.proofs.Marking.{part-marked}
use Rattle.bats_peel.proofs.Searching.{tries-failed, tries-taken}
use Rattle.bats_peel.proofs.Testing.{tested-now, tested-failed, tested-grown}
use Rattle.bats_peel.proofs.order.try_batch.Goals as goal

pub returns-then-unknown-index-clause-tries : goal.returns-then-unknown-index-clause-tries
returns-then-unknown-index-clause-tries g c =
    let local : Local = c.index-locals-place.result in
    let now : Progress = c.args.progress.now in
    let place : ℕ = c.args.place in
    let at : slice_get c.args.locals.now place ≡ Some local =
    slice_get_read c.args.locals.now (length c.args.locals.now) place local refl c.requires.place c.index-locals-place.is in
    let read : c.index.result.now ≡ get_or now.tested.items place 0 =
    get_or_read now.tested.items place c.index.result.now (omega (arith, c.requires.place, c.requires.tested.size)) c.index.ensures 0 in
    let same : unknown_contributors local now.known.items ≡ get_or now.tested.items place 0 =
    sym (ap (λ (known : List Bool). unknown_contributors local known) c.deref.ensures.value) ∙ sym c.unknown_count-unknown.ensures
    ∙ c.if-unknown-index.true ∙ read in
    tries-failed c.args.locals.now place local now now at refl refl
    (tested-now c.args.locals.now now.known.items now.tested.items place local c.requires.tested at same)

pub returns-in_default-clause-tries : goal.returns-in_default-clause-tries
returns-in_default-clause-tries g c =
    let local : Local = c.index-locals-place.result in
    let at : slice_get c.args.locals.now c.args.place ≡ Some local =
    slice_get_read c.args.locals.now (length c.args.locals.now) c.args.place local refl c.requires.place c.index-locals-place.is in
    let fails : FixesAs local c.args.progress.now.known.items None =
    subst (λ (known : List Bool). FixesAs local known None) c.deref-2.ensures.value
    (subst (FixesAs local c.deref-2.result.now) c.in_default.is c.in_ok-found.ensures.found) in
    tries-failed c.args.locals.now c.args.place local c.args.progress.now _ at refl refl fails

pub returns-in_default-clause-tested : goal.returns-in_default-clause-tested
returns-in_default-clause-tested g c =
    let local : Local = c.index-locals-place.result in
    let known : List Bool = c.args.progress.now.known.items in
    let at : slice_get c.args.locals.now c.args.place ≡ Some local =
    slice_get_read c.args.locals.now (length c.args.locals.now) c.args.place local refl c.requires.place c.index-locals-place.is in
    let fails : FixesAs local known None =
    subst (λ (set : List Bool). FixesAs local set None) c.deref-2.ensures.value
    (subst (FixesAs local c.deref-2.result.now) c.in_default.is c.in_ok-found.ensures.found) in
    let count : c.unknown_count-unknown.result ≡ unknown_contributors local known =
    c.unknown_count-unknown.ensures ∙ ap (λ (set : List Bool). unknown_contributors local set) c.deref.ensures.value in
    tested-failed c.args.locals.now known c.args.progress.now.tested.items c.args.place c.unknown_count-unknown.result local c.requires.tested at
    count fails

pub returns-clause-tries : goal.returns-clause-tries
returns-clause-tries g c =
    let local : Local = c.index-locals-place.result in
    let at : slice_get c.args.locals.now c.args.place ≡ Some local =
    slice_get_read c.args.locals.now (length c.args.locals.now) c.args.place local refl c.requires.place c.index-locals-place.is in
    let how : FixesAs local c.args.progress.now.known.items (Some c.in-Some.fixing) =
    subst (λ (known : List Bool). FixesAs local known (Some c.in-Some.fixing)) c.deref-2.ensures.value
    (subst (FixesAs local c.deref-2.result.now) c.in-Some.is c.in_ok-found.ensures.found) in
    tries-taken c.args.locals.now c.args.place local c.args.progress.now
    (record { known = c.mark.new.known; steps = c.push.new.self; tested = c.args.progress.now.tested })
    (record { place = c.args.place; fixing = c.in-Some.fixing }) refl at how c.in_ok-push.ensures.items c.mark.ensures

pub returns-clause-tested : goal.returns-clause-tested
returns-clause-tested g c =
    let known : List Bool = c.args.progress.now.known.items in
    let local : Local = c.index-locals-place.result in
    tested-grown c.args.locals.now known c.mark.new.known.items c.args.progress.now.tested.items
    (subst (IsPart known) (sym c.mark.ensures) (part-marked known local.batch.contributors)) c.requires.tested
