use Rattle.std.proofs.Common.{take}
use Rattle.std.specs.Prelude.{All}
use Rattle.bats_model.specs.PacketFile.{HasShape}
use Rattle.bats_cert.proofs.fitting.have_shape.Given as goal

abbrev pub invariant-packets : goal.invariant-packets
invariant-packets l = All (HasShape l.session) (take l.i l.packets)
