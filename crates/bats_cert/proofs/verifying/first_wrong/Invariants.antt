use Rattle.bats_cert.specs.Shown.{GiveSymbols}
use Rattle.bats_cert.proofs.verifying.first_wrong.Given as goal

abbrev pub invariant-rows : goal.invariant-rows
invariant-rows l = GiveSymbols l.session l.packets l.s l.rows
