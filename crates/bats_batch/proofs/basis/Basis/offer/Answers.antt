use Rattle.std.proofs.Common.{◌≤◌, ◌+◌, length, subst, sym, arith, ap, ◌∙◌}
use Rattle.bats_model.specs.declared.taken.Taken.TheVariants.{Kept, Dependent, Contradiction}
use Rattle.bats_batch.specs.Basis.{BasisData, IsSized}
use Rattle.bats_batch.specs.steps.Verdicts.{IsJudged, IsNewWith}
use Rattle.bats_batch.proofs.Offering.{counted, counted-offered, basis_of, basis_of-kept, new-room, entries-more, taken-seen, offered-stands}
use Rattle.bats_batch.proofs.basis.Basis.offer.Goals as goal

pub returns-in_err-judged-clause-coef_steps : goal.returns-in_err-judged-clause-coef_steps
returns-in_err-judged-clause-coef_steps g c =
    counted-offered c.self.inside.m c.self.inside.t c.self.inside.entries.items c.deref.result.now c.args.self.now c.args.coef_steps.now c.judge_packet.new.coef_steps
    c.self.invariant c.self.view_is c.deref.ensures.value c.judge_packet.ensures.coef_steps_rise c.judge_packet.ensures.coef_steps

pub returns-in_err-judged-clause-steps : goal.returns-in_err-judged-clause-steps
returns-in_err-judged-clause-steps g c =
    counted-offered c.self.inside.m c.self.inside.t c.self.inside.entries.items c.deref.result.now c.args.self.now c.args.steps.now c.judge_packet.new.steps
    c.self.invariant c.self.view_is c.deref.ensures.value c.judge_packet.ensures.steps_rise c.judge_packet.ensures.steps

pub returns-in-Dependent-clause-stands : goal.returns-in-Dependent-clause-stands
returns-in-Dependent-clause-stands g c packets stands =
    offered-stands c.self.inside.m c.self.inside.t c.self.inside.entries.items c.args.self.now c.args.packet.now c.self.view_is c.in_ok-judged.ensures.sized c.requires.payload Dependent
    (taken-seen c.self.inside.m c.self.inside.t c.self.inside.entries.items c.deref.result.now c.args.self.now c.args.packet.now Dependent c.self.view_is c.deref.ensures.value
    (subst (IsJudged c.self.inside.m c.deref.result.now c.args.packet.now c.judge_packet.new.row.items) c.in-Dependent.is c.in_ok-judged.ensures.judged))
    (basis_of c.self.inside.m c.self.inside.t c.self.inside.entries.items) c.self.view_is packets stands

pub returns-in-Dependent-clause-coef_steps : goal.returns-in-Dependent-clause-coef_steps
returns-in-Dependent-clause-coef_steps g c =
    counted-offered c.self.inside.m c.self.inside.t c.self.inside.entries.items c.deref.result.now c.args.self.now c.args.coef_steps.now c.judge_packet.new.coef_steps
    c.self.invariant c.self.view_is c.deref.ensures.value c.judge_packet.ensures.coef_steps_rise c.judge_packet.ensures.coef_steps

pub returns-in-Dependent-clause-steps : goal.returns-in-Dependent-clause-steps
returns-in-Dependent-clause-steps g c =
    counted-offered c.self.inside.m c.self.inside.t c.self.inside.entries.items c.deref.result.now c.args.self.now c.args.steps.now c.judge_packet.new.steps
    c.self.invariant c.self.view_is c.deref.ensures.value c.judge_packet.ensures.steps_rise c.judge_packet.ensures.steps

pub returns-in-Contradiction-clause-stands : goal.returns-in-Contradiction-clause-stands
returns-in-Contradiction-clause-stands g c packets stands =
    offered-stands c.self.inside.m c.self.inside.t c.self.inside.entries.items c.args.self.now c.args.packet.now c.self.view_is c.in_ok-judged.ensures.sized c.requires.payload Contradiction
    (taken-seen c.self.inside.m c.self.inside.t c.self.inside.entries.items c.deref.result.now c.args.self.now c.args.packet.now Contradiction c.self.view_is c.deref.ensures.value
    (subst (IsJudged c.self.inside.m c.deref.result.now c.args.packet.now c.judge_packet.new.row.items) c.in-Contradiction.is c.in_ok-judged.ensures.judged))
    (basis_of c.self.inside.m c.self.inside.t c.self.inside.entries.items) c.self.view_is packets stands

pub returns-in-Contradiction-clause-coef_steps : goal.returns-in-Contradiction-clause-coef_steps
returns-in-Contradiction-clause-coef_steps g c =
    counted-offered c.self.inside.m c.self.inside.t c.self.inside.entries.items c.deref.result.now c.args.self.now c.args.coef_steps.now c.judge_packet.new.coef_steps
    c.self.invariant c.self.view_is c.deref.ensures.value c.judge_packet.ensures.coef_steps_rise c.judge_packet.ensures.coef_steps

pub returns-in-Contradiction-clause-steps : goal.returns-in-Contradiction-clause-steps
returns-in-Contradiction-clause-steps g c =
    counted-offered c.self.inside.m c.self.inside.t c.self.inside.entries.items c.deref.result.now c.args.self.now c.args.steps.now c.judge_packet.new.steps
    c.self.invariant c.self.view_is c.deref.ensures.value c.judge_packet.ensures.steps_rise c.judge_packet.ensures.steps

pub returns-in_err-keep-clause-coef_steps : goal.returns-in_err-keep-clause-coef_steps
returns-in_err-keep-clause-coef_steps g c =
    let is : IsNewWith c.self.inside.m c.deref.result.now c.args.packet.now c.judge_packet.new.row.items c.in-New.pivot =
    subst (IsJudged c.self.inside.m c.deref.result.now c.args.packet.now c.judge_packet.new.row.items) c.in-New.is c.in_ok-judged.ensures.judged in
    let room : length c.deref.result.now + 1 ≤ c.args.self.now.m =
    new-room c.self.inside.m c.self.inside.t c.self.inside.entries.items c.deref.result.now c.args.self.now c.args.packet.now c.judge_packet.new.row.items c.in-New.pivot
    c.self.invariant c.self.view_is c.deref.ensures.value is in
    counted c.self.inside.m c.self.inside.t c.self.inside.entries.items c.deref.result.now c.args.self.now 1 c.args.coef_steps.now c.keep.new.coef_steps
    c.self.invariant c.self.view_is c.deref.ensures.value room (omega (arith, c.judge_packet.ensures.coef_steps_rise, c.in_err-keep.ensures.coef_steps_rise))
    (omega (arith, c.judge_packet.ensures.coef_steps, c.in_err-keep.ensures.coef_steps))

pub returns-in_err-keep-clause-steps : goal.returns-in_err-keep-clause-steps
returns-in_err-keep-clause-steps g c =
    counted-offered c.self.inside.m c.self.inside.t c.self.inside.entries.items c.deref.result.now c.args.self.now c.args.steps.now c.judge_packet.new.steps
    c.self.invariant c.self.view_is c.deref.ensures.value c.judge_packet.ensures.steps_rise c.judge_packet.ensures.steps

pub returns-clause-coef_steps : goal.returns-clause-coef_steps
returns-clause-coef_steps g c =
    let is : IsNewWith c.self.inside.m c.deref.result.now c.args.packet.now c.judge_packet.new.row.items c.in-New.pivot =
    subst (IsJudged c.self.inside.m c.deref.result.now c.args.packet.now c.judge_packet.new.row.items) c.in-New.is c.in_ok-judged.ensures.judged in
    let room : length c.deref.result.now + 1 ≤ c.args.self.now.m =
    new-room c.self.inside.m c.self.inside.t c.self.inside.entries.items c.deref.result.now c.args.self.now c.args.packet.now c.judge_packet.new.row.items c.in-New.pivot
    c.self.invariant c.self.view_is c.deref.ensures.value is in
    counted c.self.inside.m c.self.inside.t c.self.inside.entries.items c.deref.result.now c.args.self.now 1 c.args.coef_steps.now c.keep.new.coef_steps
    c.self.invariant c.self.view_is c.deref.ensures.value room (omega (arith, c.judge_packet.ensures.coef_steps_rise, c.in_ok-keep.ensures.coef_steps_rise))
    (omega (arith, c.judge_packet.ensures.coef_steps, c.in_ok-keep.ensures.coef_steps))

pub returns-clause-steps : goal.returns-clause-steps
returns-clause-steps g c =
    counted-offered c.self.inside.m c.self.inside.t c.self.inside.entries.items c.deref.result.now c.args.self.now c.args.steps.now c.judge_packet.new.steps
    c.self.invariant c.self.view_is c.deref.ensures.value c.judge_packet.ensures.steps_rise c.judge_packet.ensures.steps

pub invariant_of-self-2 : goal.invariant_of-self-2
invariant_of-self-2 g c =
    let is : IsNewWith c.self.inside.m c.deref.result.now c.args.packet.now c.judge_packet.new.row.items c.in-New.pivot =
    subst (IsJudged c.self.inside.m c.deref.result.now c.args.packet.now c.judge_packet.new.row.items) c.in-New.is c.in_ok-judged.ensures.judged in
    let size : IsSized c.self.inside.m c.self.inside.t c.args.packet.now =
    subst (λ t. IsSized c.self.inside.m t c.args.packet.now) (c.requires.payload ∙ sym (ap (λ (d : BasisData). d.t) c.self.view_is)) c.in_ok-judged.ensures.sized in
    entries-more c.self.inside.m c.self.inside.t c.self.inside.entries.items c.deref.result.now c.args.packet.now c.judge_packet.new.row.items c.in-New.pivot
    c.self.invariant c.deref.ensures.value size is c.keep.new.entries.items
    (rw c.replace-row.ensures.value at c.in_ok-keep.ensures.ok)

pub returns-clause-stands : goal.returns-clause-stands
returns-clause-stands g c packets stands =
    let is : IsNewWith c.self.inside.m c.deref.result.now c.args.packet.now c.judge_packet.new.row.items c.in-New.pivot =
    subst (IsJudged c.self.inside.m c.deref.result.now c.args.packet.now c.judge_packet.new.row.items) c.in-New.is c.in_ok-judged.ensures.judged in
    offered-stands c.self.inside.m c.self.inside.t c.self.inside.entries.items c.args.self.now c.args.packet.now c.self.view_is c.in_ok-judged.ensures.sized c.requires.payload Kept
    (taken-seen c.self.inside.m c.self.inside.t c.self.inside.entries.items c.deref.result.now c.args.self.now c.args.packet.now Kept c.self.view_is c.deref.ensures.value is.new)
    (basis_of c.self.inside.m c.self.inside.t c.keep.new.entries.items)
    (basis_of-kept c.self.inside.m c.self.inside.t c.self.inside.entries.items c.keep.new.entries.items c.args.self.now c.args.packet.now c.in-New.pivot
    c.replace-row.result.items c.self.view_is c.in_ok-keep.ensures.ok) packets stands
