use Rattle.std.proofs.Common.{ℕ, ◌≤◌, ◌+◌, ◌*◌, ◌∙◌, List, All, length, sym, ap, subst}
use Rattle.gf_rows.specs.Operation.{FitsRows}
use Rattle.bats_model.specs.Session.{SessionData, symbols_of}
use Rattle.bats_model.specs.Peeling.{largest_degree}
use Rattle.bats_model.specs.declared.packet.Packet.{Packet}
use Rattle.bats_batch.specs.Held.{row_count, kept_packets}
use Rattle.bats_peel.specs.Peeled.{IsPeeled, IsPlaced}
use Rattle.bats_decode.specs.steps.Left.{AreOwnRows}
use Rattle.bats_decode.specs.declared.elimination.Origin.{Origin}
use Rattle.bats_batch.proofs.HeldNumbers.{length-kept_packets}
use Rattle.bats_decode.proofs.LeftLemmas.{HaveOwnRows-placed, HaveColumns-placed, AreTargets-left, targets-count, cols-inactive, origins-read}
use Rattle.bats_decode.proofs.EliminatedLemmas.{IsEliminated-peeled, plan-within, AreOrigins-read}
use Rattle.bats_decode.proofs.elimination.eliminate.Goals as goal

pub own_rows-requires-clause-count : goal.own_rows-requires-clause-count
own_rows-requires-clause-count g c =
    let received = c.requires.received in
    (c.in_ok-peeled.ensures.peeled received.packets received.stands).placed.places ∙ sym c.symbols-symbols.ensures.value

pub own_rows-requires-clause-once : goal.own_rows-requires-clause-once
own_rows-requires-clause-once g c =
    let received = c.requires.received in
    let kept : List Packet = kept_packets c.args.held.now.batches in
    HaveOwnRows-placed c.args.session.now (length kept) c.in_ok-peeled.peeled
    (c.in_ok-peeled.ensures.peeled received.packets received.stands).placed c.symbols-symbols.result c.symbols-symbols.ensures.value

pub reduce-requires-clause-targets : goal.reduce-requires-clause-targets
reduce-requires-clause-targets g c =
    let received = c.requires.received in
    let kept : List Packet = kept_packets c.args.held.now.batches in
    AreTargets-left c.args.session.now (length kept) c.in_ok-peeled.peeled
    (c.in_ok-peeled.ensures.peeled received.packets received.stands).placed c.in_ok-others.others
    (subst (λ (n : ℕ). AreOwnRows n c.in_ok-peeled.peeled.places c.in_ok-others.others) c.symbols-symbols.ensures.value c.in_ok-others.ensures)

pub reduce-requires-clause-plan : goal.reduce-requires-clause-plan
reduce-requires-clause-plan g c =
    let received = c.requires.received in
    let placed = (c.in_ok-peeled.ensures.peeled received.packets received.stands).placed in
    subst (λ (n : ℕ). All (FitsRows n) c.in_ok-peeled.peeled.plan) (sym placed.row_count) placed.fits

pub origins_of-requires-clause-count : goal.origins_of-requires-clause-count
origins_of-requires-clause-count g c =
    let received = c.requires.received in
    (c.in_ok-peeled.ensures.peeled received.packets received.stands).placed.places ∙ sym c.symbols-symbols.ensures.value

pub origins_of-requires-clause-columns : goal.origins_of-requires-clause-columns
origins_of-requires-clause-columns g c =
    let received = c.requires.received in
    let kept : List Packet = kept_packets c.args.held.now.batches in
    let placed = (c.in_ok-peeled.ensures.peeled received.packets received.stands).placed in
    HaveColumns-placed c.args.session.now (length kept) c.in_ok-peeled.peeled placed c.symbols-symbols.result (length c.deref.result.now)
    c.symbols-symbols.ensures.value
    (ap (λ (origins : List Origin). length origins) c.deref.ensures.value ∙ (c.in_ok-columns.ensures.count ∙ (c.cols-count.ensures ∙ placed.cols)))

pub returns-clause-eliminated : goal.returns-clause-eliminated
returns-clause-eliminated g c =
    let received = c.requires.received in
    let session : SessionData = c.args.session.now in
    let kept : List Packet = kept_packets c.args.held.now.batches in
    let peeled = c.in_ok-peeled.peeled in
    let dense = c.in_ok-dense.dense in
    let is : IsPeeled session kept peeled = c.in_ok-peeled.ensures.peeled received.packets received.stands in
    IsEliminated-peeled session received.packets kept peeled dense c.in_ok-columns.columns.items c.in_ok-origins.origins c.in_ok-others.others
    (c.in_ok-peeled.ensures.inactive received.packets received.stands) is
    (subst (λ (n : ℕ). AreOwnRows n peeled.places c.in_ok-others.others) c.symbols-symbols.ensures.value c.in_ok-others.ensures)
    c.in_ok-dense.ensures.reduced c.in_ok-dense.ensures.performed c.in_ok-dense.ensures.solutions c.in_ok-dense.ensures.fits
    (AreOrigins-read c.cols-count.result (length peeled.columns) c.as_slice.result.now c.as_slice-2.result.now c.as_slice-3.result.now
    dense.pivot_rows dense.pivot_columns dense.free c.in_ok-columns.columns.items
    (c.cols-count.ensures ∙ is.placed.cols) c.as_slice.ensures c.as_slice-2.ensures c.as_slice-3.ensures c.in_ok-columns.ensures)
    (origins-read c.symbols-symbols.result (symbols_of session) c.deref.result.now c.in_ok-columns.columns.items peeled.places
    c.in_ok-origins.origins.items c.symbols-symbols.ensures.value c.deref.ensures.value c.in_ok-origins.ensures)

pub returns-clause-inactive : goal.returns-clause-inactive
returns-clause-inactive g c packets h =
    let kept : List Packet = kept_packets c.args.held.now.batches in
    let placed = (c.in_ok-peeled.ensures.peeled packets h).placed in (
      c.in_ok-peeled.peeled.inactive,
      (
        c.in_ok-peeled.ensures.inactive packets h,
        c.in_ok-dense.ensures.performed.cols ∙ cols-inactive c.args.session.now (length kept) c.in_ok-peeled.peeled placed,
      ),
    )

pub returns-clause-bound : goal.returns-clause-bound
returns-clause-bound g c packets h =
    let session : SessionData = c.args.session.now in
    let kept : List Packet = kept_packets c.args.held.now.batches in
    let peeled = c.in_ok-peeled.peeled in
    let dense = c.in_ok-dense.dense in
    let placed : IsPlaced session (length kept) peeled = (c.in_ok-peeled.ensures.peeled packets h).placed in
    let rows : ℕ = row_count c.args.held.now.batches in
    let degree : ℕ = largest_degree session packets in
    let few : length peeled.leftover + length c.in_ok-others.others ≤ rows =
    subst (λ (n : ℕ). length peeled.leftover + length c.in_ok-others.others ≤ n) (length-kept_packets c.args.held.now.batches)
    (targets-count session (length kept) peeled placed c.in_ok-others.others
    (subst (λ (n : ℕ). AreOwnRows n peeled.places c.in_ok-others.others) c.symbols-symbols.ensures.value c.in_ok-others.ensures)) in
    subst (λ (n : ℕ). length dense.plan ≤ rows * (degree + n)) (sym c.in_ok-dense.ensures.performed.cols)
    (plan-within c.reduce.new.coef_steps c.peel.new.coef_steps (length peeled.plan) (length dense.plan) (length peeled.leftover)
    (length c.in_ok-others.others) peeled.rows.cols rows degree c.in_ok-dense.ensures.counted c.reduce.ensures.coef_steps.within few
    (c.in_ok-peeled.ensures.bound packets h))
