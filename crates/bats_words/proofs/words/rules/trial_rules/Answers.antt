use Rattle.std.proofs.Common.{◌≡◌, ◌∙◌, ap₂}
use Rattle.std.proofs.lemmas.Result.{IfOk-weaker}
use Rattle.clap.specs.Built.{AddsArg}
use Rattle.clap.specs.Simple.{App, app_of, with_rule}
use Rattle.clap.specs.Walk.{Rule}
use Rattle.clap.specs.declared.builder.arg.Arg.{Arg}
use Rattle.clap.specs.declared.builder.command.Command.{Command}
use Rattle.bats_words.specs.steps.Rules.{HasRule}
use Rattle.bats_words.proofs.words.rules.trial_rules.Goals as goal

adds : {old new : Command} {arg : Arg} {app : App} {rule : Rule} → AddsArg old arg new → HasRule rule arg → app_of old ≡ app → app_of new ≡ with_rule app rule
adds h r e = h.shape r.1 ∙ ap₂ with_rule e r.0

pub returns : goal.returns
returns c =
    let eight =
    adds c.in_ok-arg-8.ensures c.option_or.ensures (
    adds c.in_ok-arg-7.ensures c.option-7.ensures (
    adds c.in_ok-arg-6.ensures c.option-6.ensures (
    adds c.in_ok-arg-5.ensures c.option-5.ensures (
    adds c.in_ok-arg-4.ensures c.option-4.ensures (
    adds c.in_ok-arg-3.ensures c.option-3.ensures (
    adds c.in_ok-arg-2.ensures c.option-2.ensures (
    adds c.in_ok-arg.ensures c.option.ensures c.bare.ensures))))))) in
    IfOk-weaker c.arg-9.result _ _ (λ command h. adds h c.workers.ensures eight) c.arg-9.ensures
