use Rattle.std.proofs.Common.{◌∙◌, refl, sym, arith}
use Rattle.tool_replay.proofs.SentPackets.{Sends-lost, Sends-kept}
use Rattle.tool_replay.proofs.hops.Hop.send.Goals as goal

pub returns-then-lost : goal.returns-then-lost
returns-then-lost c = Sends-lost c.args.packet c.args.self.now _ (sym c.loses_next-lost.ensures ∙ c.if-lost.true) refl refl (omega arith) refl

pub returns : goal.returns
returns c = Sends-kept c.args.packet c.args.self.now _ (sym c.loses_next-lost.ensures ∙ c.if-lost.false) refl refl (omega arith) c.in_ok-push.ensures.items
