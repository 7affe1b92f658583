use Rattle.std.proofs.Common.{ap, arith, List, length}
use Rattle.bats_model.specs.declared.packet.Packet.{Packet}
use Rattle.tool_run.specs.Streams.{Counters}
use Rattle.tool_replay.proofs.ArrivedPackets.{shapes-arrived, few-arrived}
use Rattle.tool_replay.proofs.ToldTrials.{Attempts-lacking, Attempts-told}
use Rattle.tool_replay.proofs.trialing.tell_arrivals.Goals as goal

pub solve-requires-clause-shapes : goal.solve-requires-clause-shapes
solve-requires-clause-shapes g c _ _ =
    shapes-arrived c.args.options.now c.requires.ranges c.args.options.now.relays c.args.session.now c.args.packets.items c.requires.session
    c.requires.arrived

pub solve-requires-clause-few : goal.solve-requires-clause-few
solve-requires-clause-few g c =
    omega (
      arith,
      ap (λ (ps : List Packet). length ps) c.requires.arrived,
      few-arrived c.args.options.now c.requires.ranges c.args.options.now.relays,
    )

pub returns-in_err-solved : goal.returns-in_err-solved
returns-in_err-solved g c input first relayed =
    Attempts-lacking c.args.options.now input (g.O.Sink.state c.args.output.now) first _ _ c.from_residual.ensures.1

pub returns : goal.returns
returns g c input first relayed =
    let now : Counters = record { coefficients = c.solve.new.counters.coef_steps; payloads = c.solve.new.counters.steps } in
    Attempts-told c.args.options.now c.requires.ranges c.args.session.now c.args.packets.items c.in_ok-solved.solved c.args.counters.now.steps
    c.len-arrived.result first now input (g.O.Sink.state c.args.output.now) (g.O.Sink.state c.tell.new.output) c.tell.result c.requires.session
    c.requires.arrived (omega arith) c.in_ok-solved.ensures relayed c.tell.ensures.written c.tell.ensures.status c.tell.ensures.line
