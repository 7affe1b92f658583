use Rattle.std.proofs.Common.{◌∙◌, ap, sym, arith, flat_map}
use Rattle.std.proofs.lemmas.List.{take_all}
use Rattle.bats_model.specs.Records.{packet_record}
use Rattle.bats_model.specs.Session.{SessionData}
use Rattle.bats_model.specs.declared.packet.Packet.{Packet}
use Rattle.tool_run.proofs.Writing.{Writes-nothing, Writes-same}
use Rattle.tool_replay.specs.Replay.{pool_record}
use Rattle.tool_replay.proofs.PoolWritten.{Writes-record, Writes-no_record}
use Rattle.tool_replay.proofs.playing.write_packets.Goals as goal

pub packets-init : goal.packets-init
packets-init g c = Writes-nothing (g.O.Sink.state c.args.output.now)

pub write_packet-requires-clause-coefs : goal.write_packet-requires-clause-coefs
write_packet-requires-clause-coefs g c = c.pool_at.ensures.shape.coefs ∙ ap (λ (s : SessionData). s.m) c.requires

pub write_packet-requires-clause-payload : goal.write_packet-requires-clause-payload
write_packet-requires-clause-payload g c = c.pool_at.ensures.shape.payload ∙ ap (λ (s : SessionData). s.t) c.requires

pub packets-preserved : goal.packets-preserved
packets-preserved g c =
    Writes-record c.args.world.now.pool c.packets.i (omega arith) c.packets.invariant
    (Writes-same (ap (λ (p : Packet). packet_record p.batch p.coefs p.payload) (sym c.pool_at.ensures.value)) c.in_ok-write_packet.ensures)

pub returns-in_err-write_packet : goal.returns-in_err-write_packet
returns-in_err-write_packet g c =
    Writes-no_record c.args.world.now.pool c.packets.i _ (omega arith) c.from_residual.ensures.1 c.packets.invariant
    (Writes-same (ap (λ (p : Packet). packet_record p.batch p.coefs p.payload) (sym c.pool_at.ensures.value)) c.in_err-write_packet.ensures)

pub returns : goal.returns
returns g c =
    Writes-same (ap (flat_map pool_record) (sym (take_all c.packets.i c.args.world.now.pool (omega arith)))) c.packets.invariant
