use Rattle.bats_batch.proofs.Offering.{counted-judged}
use Rattle.bats_batch.proofs.basis.Basis.judge.Goals as goal

pub returns-in_err-judged-clause-coef_steps : goal.returns-in_err-judged-clause-coef_steps
returns-in_err-judged-clause-coef_steps g c =
    counted-judged c.self.inside.m c.self.inside.t c.self.inside.entries.items c.deref.result.now c.args.self.now c.args.coef_steps.now c.judge_packet.new.coef_steps
    c.self.invariant c.self.view_is c.deref.ensures.value c.judge_packet.ensures.coef_steps_rise c.judge_packet.ensures.coef_steps

pub returns-in_err-judged-clause-steps : goal.returns-in_err-judged-clause-steps
returns-in_err-judged-clause-steps g c =
    counted-judged c.self.inside.m c.self.inside.t c.self.inside.entries.items c.deref.result.now c.args.self.now c.args.steps.now c.judge_packet.new.steps
    c.self.invariant c.self.view_is c.deref.ensures.value c.judge_packet.ensures.steps_rise c.judge_packet.ensures.steps

pub returns-clause-coef_steps : goal.returns-clause-coef_steps
returns-clause-coef_steps g c =
    counted-judged c.self.inside.m c.self.inside.t c.self.inside.entries.items c.deref.result.now c.args.self.now c.args.coef_steps.now c.judge_packet.new.coef_steps
    c.self.invariant c.self.view_is c.deref.ensures.value c.judge_packet.ensures.coef_steps_rise c.judge_packet.ensures.coef_steps

pub returns-clause-steps : goal.returns-clause-steps
returns-clause-steps g c =
    counted-judged c.self.inside.m c.self.inside.t c.self.inside.entries.items c.deref.result.now c.args.self.now c.args.steps.now c.judge_packet.new.steps
    c.self.invariant c.self.view_is c.deref.ensures.value c.judge_packet.ensures.steps_rise c.judge_packet.ensures.steps
