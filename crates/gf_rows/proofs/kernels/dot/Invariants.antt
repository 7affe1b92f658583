use Rattle.std.proofs.Common.{◌≡◌, get_or}
use Rattle.gf_core.specs.Field.{gf_mul, gf_sum}
use Rattle.gf_rows.proofs.kernels.dot.Given as goal

abbrev pub invariant-loop-i : goal.invariant-loop-i
invariant-loop-i l = l.sum ≡ gf_sum l.i (λ i. gf_mul (get_or l.a i 0) (get_or l.b i 0))
