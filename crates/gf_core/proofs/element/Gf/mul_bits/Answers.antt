use Rattle.std.proofs.Common.{◌≡◌, ◌∙◌, sym, ap, arith, rules}
use Rattle.std.proofs.lemmas.Nat.Bits.{shr_and_one}
use Rattle.gf_core.specs.Field.{gf_add, gf_mul, gf_sum, product_term, double, doubled}
use Rattle.gf_core.proofs.DoubleLemmas.{doubled-more}
use Rattle.gf_core.proofs.ProductLemmas.{product_sum_of_set, product_sum_of_clear}
use Rattle.gf_core.proofs.element.Gf.mul_bits.Goals as goal
use Rattle.gf_core.proofs.element.Gf.mul_bits.Goals.{then-self-i-eq1, else-self-i-eq1}

pub loop-i-init : goal.loop-i-init
unfolding gf_sum doubled
loop-i-init c = search rules

pub loop-i-preserved : goal.loop-i-preserved
loop-i-preserved c = record {
  sum_so_far = elim c.if-self-i-eq1.branch [
    | then-self-i-eq1 w ↦
        w.product-is ∙
        (ap (λ s. gf_add s c.loop-i.power) c.loop-i.invariant.sum_so_far ∙
        (ap (gf_add (gf_sum c.loop-i.i (product_term c.args.self c.args.other))) c.loop-i.invariant.power_so_far ∙
        product_sum_of_set c.args.self c.args.other c.loop-i.i (rw shr_and_one at (rw c.self.view_is at w.if-self-i-eq1.true))))
    | else-self-i-eq1 w ↦
        w.product-is ∙
        (c.loop-i.invariant.sum_so_far ∙
        product_sum_of_clear c.args.self c.args.other c.loop-i.i (rw shr_and_one at (rw c.self.view_is at w.if-self-i-eq1.false)))
  ];
  power_so_far = c.double_of-power.ensures ∙ (ap double c.loop-i.invariant.power_so_far ∙ sym (doubled-more c.loop-i.i c.args.other));
}

pub returns : goal.returns
unfolding gf_mul
returns c =
    let all : c.loop-i.i ≡ 8 = omega arith in
    c.loop-i.invariant.sum_so_far ∙ ap (λ n. gf_sum n (product_term c.args.self c.args.other)) all
