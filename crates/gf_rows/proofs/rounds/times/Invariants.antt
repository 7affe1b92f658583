use Rattle.std.proofs.Common.{◌≡◌, map}
use Rattle.gf_core.specs.Field.{gf_sum, product_term, doubled}
use Rattle.gf_rows.proofs.rounds.times.Given as goal

abbrev pub invariant-loop-i : goal.invariant-loop-i
invariant-loop-i l = record {
  sum_so_far : l.sum ≡ map (λ x. gf_sum l.i (product_term l.fn.c x)) l.fn.v;
  power_so_far : l.power ≡ map (doubled l.i) l.fn.v;
}
