use Rattle.std.proofs.Common.{rules}
use Rattle.tool_stream.specs.Relay.{output_count}
use Rattle.tool_stream.proofs.sending.send_by_rule.Goals as goal

pub returns-then-extra-clause-written : goal.returns-then-extra-clause-written
returns-then-extra-clause-written g c =
    c.send.ensures.written (output_count c.args.intake.now.session c.args.extra c.args.count) (λ rank answer within post. search rules)

pub returns-else-extra-clause-written : goal.returns-else-extra-clause-written
returns-else-extra-clause-written g c =
    c.send-else-extra.ensures.written (output_count c.args.intake.now.session c.args.extra c.args.count) (λ rank answer within post. search rules)
