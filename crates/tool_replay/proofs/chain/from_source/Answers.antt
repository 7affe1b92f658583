use Rattle.std.proofs.Common.{◌∙◌, ap}
use Rattle.bats_encoder.specs.Encoder.{EncoderData}
use Rattle.tool_replay.proofs.ArrivedPackets.{arrived-source}
use Rattle.tool_replay.proofs.SentPackets.{arrived-sent}
use Rattle.tool_replay.proofs.chain.from_source.Goals as goal

pub returns : goal.returns
returns c =
    arrived-source c.args.options.now c.in_ok-encoder.encoder.session c.in_ok-encoder.encoder.file _
    (ap (λ (e : EncoderData). e.session) c.in_ok-encoder.ensures ∙ c.requires.session)
    (ap (λ (e : EncoderData). e.file) c.in_ok-encoder.ensures)
    (arrived-sent c.args.options.now 0 _ c.new-hop.result _ c.new-hop.ensures.key c.new-hop.ensures.loss c.new-hop.ensures.sent
    c.new-hop.ensures.arrived c.in_ok-send_coded_batches.ensures)
