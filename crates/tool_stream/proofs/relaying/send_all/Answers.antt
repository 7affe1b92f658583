use Rattle.std.proofs.Common.{◌≡◌, ◌∙◌, refl, sym, ap, subst, length}
use Rattle.bats_batch.specs.Held.{HeldData, StandsFor}
use Rattle.bats_model.specs.PacketFile.{packets_of}
use Rattle.tool_stream.proofs.RelayWalks.{SendsAs-cut, SendsAs-unsaid, SendsAs-done}
use Rattle.tool_stream.proofs.relaying.send_all.Goals as goal

pub returns-in_err-sent : goal.returns-in_err-sent
returns-in_err-sent g c seed session list h =
    SendsAs-cut seed c.args.extra c.args.count session list c.args.intake h _ _ _ _ c.from_residual.ensures.1 c.in_err-sent.ensures.written

pub returns-in_err-line : goal.returns-in_err-line
returns-in_err-line g c seed session list h =
    SendsAs-unsaid seed c.args.extra c.args.count session list c.args.intake h _ _ _ c.from_residual-in_err-line.ensures.1
    c.in_ok-sent.ensures.written

pub returns : goal.returns
returns g c seed session list h =
    let held : c.held-held.result.now ≡ c.args.intake.mixer.held = c.held-held.ensures ∙ c.in_ok-sent.ensures.held in
    let stands : StandsFor (packets_of list) c.held-held.result.now =
    subst (λ (x : HeldData). StandsFor (packets_of list) x) (sym held) h.stands in
    SendsAs-done seed c.args.extra c.args.count session list c.args.intake h _ _ _ c.send_by_rule.new.intake.packets c.rows.result
    c.batches.result c.in_ok-sent.sent c.in_ok-sent.ensures.written refl c.in_ok-line.ensures c.in_ok-sent.ensures.packets
    (c.rows.ensures.kept (packets_of list) stands)
    (c.batches.ensures.value ∙ ap (λ (x : HeldData). length x.batches) held)
    c.in_ok-sent.ensures.count

pub send_by_rule-requires-clause-unsent : goal.send_by_rule-requires-clause-unsent
send_by_rule-requires-clause-unsent g c place from within = c.requires.unsent _
