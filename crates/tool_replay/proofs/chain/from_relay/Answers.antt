use Rattle.std.proofs.Common.{◌∙◌, ap}
use Rattle.bats_relay.specs.Mixer.{MixerData}
use Rattle.tool_replay.proofs.ArrivedPackets.{arrived-relay}
use Rattle.tool_replay.proofs.SentPackets.{arrived-sent}
use Rattle.tool_replay.proofs.chain.from_relay.Goals as goal

pub returns-clause-arrived : goal.returns-clause-arrived
returns-clause-arrived g c =
    let mixer = c.take_all.new.mixer in
    arrived-relay c.args.options.now c.args.relay c.args.packets.now mixer _ c.in_ok-take_all.ensures.ok
    (c.in_ok-take_all.ensures.session ∙ ap (λ (m : MixerData). m.held.session) c.new-mixer.ensures.value ∙ c.requires.session)
    (c.in_ok-take_all.ensures.seed ∙ ap (λ (m : MixerData). m.seed) c.new-mixer.ensures.value ∙ c.relay_seed.ensures)
    (arrived-sent c.args.options.now c.args.relay _ c.new-hop.result _ c.new-hop.ensures.key c.new-hop.ensures.loss c.new-hop.ensures.sent
    c.new-hop.ensures.arrived c.in_ok-send_mixed_batches.ensures)
