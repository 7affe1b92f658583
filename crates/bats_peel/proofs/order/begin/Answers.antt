use Rattle.std.proofs.Common.{◌∙◌, ◌-◌, false, replicate, ap, sym, subst}
use Rattle.std.proofs.lemmas.Bool.{both_ways}
use Rattle.bats_model.specs.Session.{SessionData, IsPadded}
use Rattle.bats_peel.specs.steps.Search.{AreTested}
use Rattle.bats_peel.proofs.Testing.{tested-begin}
use Rattle.bats_peel.proofs.Ordering.{first-padded, first-whole}
use Rattle.bats_peel.proofs.order.begin.Goals as goal

pub returns-then-padded-clause-grows : goal.returns-then-padded-clause-grows
returns-then-padded-clause-grows g c =
    let session : SessionData = c.args.session.now in
    let padded : IsPadded session = c.padded.ensures.0 c.if-padded.true in
    first-padded session c.args.locals.now c.in_ok-known.known.items c.new.result.items (c.symbols-symbols.result - 1) c.inactivate.new.progress
    (c.in_ok-known.ensures.items_if_clones_equal (λ y same. same) ∙ ap (λ n. replicate n false) c.symbols-symbols.ensures.value) c.new.ensures.items
    (ap (λ n. n - 1) c.symbols-symbols.ensures.value) padded c.in_ok-inactivate.ensures.grows

pub returns-clause-grows : goal.returns-clause-grows
returns-clause-grows g c =
    let session : SessionData = c.args.session.now in
    let whole : IsPadded session → ⊥ = λ p. both_ways c.padded.result c.if-padded.false (c.padded.ensures.1 p) in
    first-whole session c.args.locals.now c.in_ok-known.known.items c.new.result.items c.grow.new.progress
    (c.in_ok-known.ensures.items_if_clones_equal (λ y same. same) ∙ ap (λ n. replicate n false) c.symbols-symbols.ensures.value) c.new.ensures.items whole c.in_ok-grow.ensures.grows

pub inactivate-requires-clause-tested : goal.inactivate-requires-clause-tested
inactivate-requires-clause-tested g c =
    subst (AreTested c.args.locals.now c.in_ok-known.known.items) (sym (c.in_ok-tested.ensures.items_if_clones_equal (λ y same. same)))
    (tested-begin c.args.locals.now c.in_ok-known.known.items)

pub grow-requires-clause-tested : goal.grow-requires-clause-tested
grow-requires-clause-tested g c =
    subst (AreTested c.args.locals.now c.in_ok-known.known.items) (sym (c.in_ok-tested.ensures.items_if_clones_equal (λ y same. same)))
    (tested-begin c.args.locals.now c.in_ok-known.known.items)
