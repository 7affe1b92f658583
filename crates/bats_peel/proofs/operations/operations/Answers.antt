use Rattle.std.proofs.Common.{List, Bool, ◌≡◌, ◌≢◌, ◌∙◌, ◌<◌, sym, ap, subst, refl}
use Rattle.std.specs.Prelude.{All, AllPairs}
use Rattle.bats_model.specs.Session.{SessionData, symbols_of}
use Rattle.bats_model.specs.Peeling.{set_of, HasAllSymbols}
use Rattle.bats_peel.specs.Peeled.{columns_of}
use Rattle.bats_peel.specs.steps.Order.{AreSteps}
use Rattle.bats_peel.specs.steps.Work.{IsWork}
use Rattle.bats_peel.proofs.PeeledLemmas.{below_columns, once_columns, set_of-columns, IsPeeled-done, few-done}
use Rattle.bats_peel.proofs.operations.operations.Goals as goal

pub begin-requires-clause-below : goal.begin-requires-clause-below
begin-requires-clause-below g c =
    subst (All (λ s. s < symbols_of c.args.session.now)) (sym (c.in_ok-columns.ensures ∙ ap (columns_of c.args.session.now) c.as_slice.ensures))
    (below_columns c.args.session.now c.args.order.inactive c.requires.order.inactive_below)

pub begin-requires-clause-once : goal.begin-requires-clause-once
begin-requires-clause-once g c =
    subst (AllPairs (λ a b. a ≢ b)) (sym (c.in_ok-columns.ensures ∙ ap (columns_of c.args.session.now) c.as_slice.ensures))
    (once_columns c.args.session.now c.args.order.inactive c.requires.order.inactive_once)

pub take_steps-requires-clause-steps : goal.take_steps-requires-clause-steps
take_steps-requires-clause-steps g c =
    let session : SessionData = c.args.session.now in
    let same : c.in_ok-work.work.known.items ≡ set_of session c.args.order.inactive =
    c.in_ok-work.ensures.known ∙ ap (set_of session) (c.in_ok-columns.ensures ∙ ap (columns_of session) c.as_slice.ensures)
    ∙ set_of-columns session c.args.order.inactive in
    subst (λ (s : SessionData). AreSteps s c.args.locals.now c.in_ok-work.work.known.items c.deref.result.now) (sym c.requires.session)
    (subst (λ (known : List Bool). AreSteps session c.args.locals.now known c.deref.result.now) (sym same)
    (subst (AreSteps session c.args.locals.now (set_of session c.args.order.inactive)) (sym c.deref.ensures.value) c.requires.order.steps))

pub returns-clause-peeled : goal.returns-clause-peeled
returns-clause-peeled g c =
    let session : SessionData = c.args.session.now in
    let batches = c.args.held.now.batches in
    let work = c.take_others.new.work in
    IsPeeled-done session batches c.args.order.inactive work _
    (record {
      work = subst (λ (s : SessionData). IsWork s batches work) c.requires.session c.in_ok-take_others.ensures.work;
      known = subst (λ (s : SessionData). HasAllSymbols s work.known.items) c.requires.session
          (subst (HasAllSymbols c.args.held.now.session) (sym c.in_ok-take_others.ensures.known) c.in_ok-take_steps.ensures.known);
      taken = c.in_ok-take_others.ensures.taken;
      plan = c.len-rule.ensures.plan;
    })
    (c.in_ok-take_others.ensures.columns ∙ c.in_ok-take_steps.ensures.columns ∙ c.in_ok-work.ensures.columns ∙ c.in_ok-columns.ensures
    ∙ ap (columns_of session) c.as_slice.ensures)
    refl

pub returns-clause-few : goal.returns-clause-few
returns-clause-few g c =
    λ most are.
    few-done c.args.session.now c.args.held.now.batches c.take_others.new.work most
    (subst (λ (s : SessionData). IsWork s c.args.held.now.batches c.take_others.new.work) c.requires.session c.in_ok-take_others.ensures.work) are
