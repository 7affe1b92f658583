use Rattle.std.proofs.Common.{◌≡◌, ◌∷◌, [], length, ap, arith}
use Rattle.bats_model.specs.PacketFile.{packets_of}
use Rattle.bats_model.specs.declared.item.Item.{Item}
use Rattle.tool_stream.proofs.showing.Shown.add.Goals as goal

pub returns-in-Header-clause-packets : goal.returns-in-Header-clause-packets
unfolding packets_of
returns-in-Header-clause-packets c =
    let none : length (packets_of (c.args.item.now ∷ [])) ≡ 0 = ap (λ (item : Item). length (packets_of (item ∷ []))) c.in-Header.is in
    omega (arith, none)

pub returns-in-Packet-clause-packets : goal.returns-in-Packet-clause-packets
unfolding packets_of
returns-in-Packet-clause-packets c =
    let one : length (packets_of (c.args.item.now ∷ [])) ≡ 1 = ap (λ (item : Item). length (packets_of (item ∷ []))) c.in-Packet.is in
    omega (arith, one)
