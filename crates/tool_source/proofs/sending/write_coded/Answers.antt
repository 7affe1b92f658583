use Rattle.std.proofs.Common.{◌≡◌, ◌∙◌, ap, sym, refl, List, length, ℕ}
use Rattle.bats_model.specs.Session.{SessionData}
use Rattle.bats_model.specs.Batch.{BatchData, batch_of}
use Rattle.bats_model.specs.Coded.{coded_payload, unit_vector}
use Rattle.tool_source.specs.Source.{coded_record}
use Rattle.bats_model.specs.Records.{packet_record}
use Rattle.bats_model.proofs.UnitVectors.{length-unit_vector}
use Rattle.bats_encoder.proofs.Agreements.{length-coded_payload}
use Rattle.tool_run.proofs.Writing.{Writes-nothing, Writes-same, Writes-exit_memory}
use Rattle.tool_source.proofs.sending.write_coded.Goals as goal

pub write_packet-requires-clause-coefs : goal.write_packet-requires-clause-coefs
write_packet-requires-clause-coefs g c =
    let s = c.args.encoder.now.session in
    ap (λ (v : List ℕ). length v) c.in_ok-packet.ensures.coefs ∙ length-unit_vector s.m c.args.j
    ∙ ap (λ (z : SessionData). z.m) c.requires.session

pub write_packet-requires-clause-payload : goal.write_packet-requires-clause-payload
write_packet-requires-clause-payload g c =
    let s = c.args.encoder.now.session in
    ap (λ (v : List ℕ). length v) c.in_ok-packet.ensures.payload
    ∙ length-coded_payload s c.args.encoder.now.file c.args.batch.now c.args.j ∙ ap (λ (z : SessionData). z.t) c.requires.session

pub returns-in_err-packet : goal.returns-in_err-packet
returns-in_err-packet g c =
    Writes-exit_memory _ _ refl c.from_residual.ensures.1 (Writes-nothing (g.O.Sink.state c.args.output.now))

pub returns : goal.returns
unfolding coded_record
returns g c =
    let s = c.args.encoder.now.session in
    let file = c.args.encoder.now.file in
    let batch = c.args.batch.now in
    let packet = c.in_ok-packet.packet in
    let payload : packet.payload ≡ coded_payload s file (batch_of s batch.number) c.args.j =
    c.in_ok-packet.ensures.payload ∙ ap (λ (b : BatchData). coded_payload s file b c.args.j) c.requires.batch in
    Writes-same
    (sym (ap (λ (number : ℕ). packet_record number packet.coefs packet.payload) c.in_ok-packet.ensures.batch
    ∙ ap (λ (coefs : List ℕ). packet_record batch.number coefs packet.payload) c.in_ok-packet.ensures.coefs
    ∙ ap (packet_record batch.number (unit_vector s.m c.args.j)) payload))
    c.write_packet.ensures
