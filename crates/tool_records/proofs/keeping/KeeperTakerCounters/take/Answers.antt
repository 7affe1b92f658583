use Rattle.std.proofs.Common.{[], ◌∷◌, ◌++◌, Err, subst}
use Rattle.bats_batch.specs.declared.held.HeldEnd.{HeldEnd}
use Rattle.tool_records.specs.steps.Kept.{HoldsAs}
use Rattle.tool_records.proofs.Keepers.{CanHold-item, Keeps-item_header, Keeps-item_held, Keeps-item_full, Keeps-item_memory}
use Rattle.bats_model.specs.PacketFile.{packets_of}
use Rattle.tool_records.proofs.keeping.KeeperTakerCounters.take.Goals as goal

pub returns-in-Header : goal.returns-in-Header
returns-in-Header g c first given so_far =
    Keeps-item_header (g.H.Holder.holds first.holder c.args.self.now.holder) given.steps c.args.counters.now.steps c.args._session.now c.args.item
    (g.O.Sink.state c.args._output.now) so_far c.in-Header.at c.in-Header.is

pub hold-requires : goal.hold-requires
hold-requires g c =
    let first = c.requires.0 in
    let so_far = c.requires.2 in (
      first.holder,
      c.args._session.now,
      packets_of so_far.list,
      CanHold-item (g.H.Holder.holds first.holder c.args.self.now.holder) c.requires.1.steps c.args.counters.now.steps c.args._session.now c.args.item
          (g.O.Sink.state c.args._output.now) so_far c.in-Packet.at c.in-Packet.packet c.in-Packet.is,
    )

pub returns-in-Ok : goal.returns-in-Ok
returns-in-Ok g c first given so_far =
    let before = g.H.Holder.holds first.holder c.args.self.now.holder in
    let can = CanHold-item before given.steps c.args.counters.now.steps c.args._session.now c.args.item
    (g.O.Sink.state c.args._output.now) so_far c.in-Packet.at c.in-Packet.packet c.in-Packet.is in
    Keeps-item_held before given.steps c.args.counters.now.steps c.args._session.now c.args.item (g.O.Sink.state c.args._output.now) so_far
    c.in-Packet.at c.in-Packet.packet c.in-Packet.is (g.H.Holder.holds first.holder c.hold.new.self) c.hold.new.counters.steps
    (c.in-Ok.ensures.steps first.holder c.args._session.now (packets_of so_far.list) can)
    (c.in-Ok.ensures.held first.holder c.args._session.now (packets_of so_far.list) can)

pub returns-in-Err-Full : goal.returns-in-Err-Full
returns-in-Err-Full g c first given so_far =
    let before = g.H.Holder.holds first.holder c.args.self.now.holder in
    let can = CanHold-item before given.steps c.args.counters.now.steps c.args._session.now c.args.item
    (g.O.Sink.state c.args._output.now) so_far c.in-Packet.at c.in-Packet.packet c.in-Packet.is in
    Keeps-item_full before given.steps c.args.counters.now.steps c.args._session.now c.args.item (g.O.Sink.state c.args._output.now) so_far
    c.in-Packet.at c.in-Packet.packet c.in-Packet.is (g.H.Holder.holds first.holder c.hold.new.self) c.hold.new.counters.steps
    (c.in-Err-Full.ensures.steps first.holder c.args._session.now (packets_of so_far.list) can)
    (subst (λ (e : HeldEnd). HoldsAs (g.H.Holder.holds first.holder c.hold.new.self) c.args._session.now (packets_of so_far.list ++ c.in-Packet.packet ∷ []) (Err e))
    c.in-Err-Full.field-0-is (c.in-Err-Full.ensures.held first.holder c.args._session.now (packets_of so_far.list) can))

pub returns : goal.returns
returns g c first given so_far =
    let before = g.H.Holder.holds first.holder c.args.self.now.holder in
    let can = CanHold-item before given.steps c.args.counters.now.steps c.args._session.now c.args.item
    (g.O.Sink.state c.args._output.now) so_far c.in-Packet.at c.in-Packet.packet c.in-Packet.is in
    Keeps-item_memory before given.steps c.args.counters.now.steps c.args._session.now c.args.item (g.O.Sink.state c.args._output.now) so_far
    c.in-Packet.at c.in-Packet.packet c.in-Packet.is (g.H.Holder.holds first.holder c.hold.new.self) c.hold.new.counters.steps
    (c.in-Err-Memory.ensures.steps first.holder c.args._session.now (packets_of so_far.list) can)
