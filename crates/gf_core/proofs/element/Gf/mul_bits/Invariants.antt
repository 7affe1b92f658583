use Rattle.std.proofs.Common.{◌≡◌}
use Rattle.gf_core.specs.Field.{gf_sum, product_term, doubled}
use Rattle.gf_core.proofs.element.Gf.mul_bits.Given as goal

abbrev pub invariant-loop-i : goal.invariant-loop-i
invariant-loop-i l = record {
  sum_so_far : l.product ≡ gf_sum l.i (product_term l.fn.self l.fn.other);
  power_so_far : l.power ≡ doubled l.i l.fn.other;
}
