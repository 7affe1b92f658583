use Rattle.std.proofs.Common.{◌≡◌, ◌∙◌, ap, arith, List, length}
use Rattle.bats_model.specs.Session.{SessionData}
use Rattle.bats_model.specs.declared.packet.Packet.{Packet}
use Rattle.tool_replay.specs.Trial.{arrived}
use Rattle.tool_replay.proofs.ArrivedPackets.{arrived-next, shapes-arrived, few-arrived}
use Rattle.tool_replay.proofs.ToldTrials.{work-relay}
use Rattle.tool_replay.proofs.chain.cross.Goals as goal

pub from_relay-requires-clause-shapes : goal.from_relay-requires-clause-shapes
from_relay-requires-clause-shapes g c =
    shapes-arrived c.args.options.now c.requires.ranges c.relays.relay c.args.session.now c.deref.result.now c.requires.session
    (c.deref.ensures.value ∙ c.relays.invariant.arrived)

pub from_relay-requires-clause-few : goal.from_relay-requires-clause-few
from_relay-requires-clause-few g c =
    omega (
      arith,
      ap (λ (ps : List Packet). length ps) (c.deref.ensures.value ∙ c.relays.invariant.arrived),
      few-arrived c.args.options.now c.requires.ranges c.relays.relay,
    )

pub relays-preserved : goal.relays-preserved
relays-preserved g c =
    let so_far = c.relays.invariant in
    let came : c.deref.result.now ≡ arrived c.args.options.now c.relays.relay = c.deref.ensures.value ∙ so_far.arrived in
    record {
      arrived = arrived-next c.args.options.now c.relays.relay c.deref.result.now _ came c.in_ok-packets-2.ensures.arrived;
      steps = work-relay c.args.options.now c.relays.relay c.args.counters.now.steps c.relays.counters.steps c.from_relay.new.counters.steps
          (length c.deref.result.now) c.args.session.now.m so_far.steps c.in_ok-packets-2.ensures.steps
          (ap (λ (ps : List Packet). length ps) came) (ap (λ (s : SessionData). s.m) c.requires.session);
    }
