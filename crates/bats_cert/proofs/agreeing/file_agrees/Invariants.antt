use Rattle.std.proofs.Common.{take}
use Rattle.std.specs.Prelude.{All}
use Rattle.bats_model.specs.Agreement.{Agrees}
use Rattle.bats_cert.proofs.agreeing.file_agrees.Given as goal

abbrev pub invariant-packets : goal.invariant-packets
invariant-packets l = All (Agrees l.session l.file) (take l.i l.packets)
