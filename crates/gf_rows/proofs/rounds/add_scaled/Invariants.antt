use Rattle.std.proofs.Common.{◌≡◌, ◌*◌, take}
use Rattle.gf_core.specs.Rows.{add_scaled_row}
use Rattle.gf_rows.proofs.rounds.add_scaled.Given as goal

abbrev pub invariant-loop-k : goal.invariant-loop-k
invariant-loop-k l = l.dst ≡ add_scaled_row l.fn.dst l.fn.c (take (l.k * 16) l.src)
