use Rattle.std.proofs.Common.{◌≡◌, take}
use Rattle.bats_decode.specs.steps.SymbolRows.{symbol_rows}
use Rattle.bats_decode.proofs.decoder.rows_of.Given as goal

abbrev pub invariant-origins : goal.invariant-origins
invariant-origins l = l.rows ≡ symbol_rows (take l.origin-index l.origins)
