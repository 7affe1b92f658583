use Rattle.std.proofs.Common.{◌≡◌, ◌∙◌, ℕ, get_or, length, ap, sym, arith}
use Rattle.gf_core.specs.Field.{gf_add, gf_mul, gf_sum}
use Rattle.gf_core.proofs.SumLemmas.{gf_sum-zero, gf_sum-more}
use Rattle.gf_rows.proofs.kernels.dot.Goals as goal

pub loop-i-init : goal.loop-i-init
loop-i-init c = sym (gf_sum-zero (λ i. gf_mul (get_or c.args.a.now i 0) (get_or c.args.b.now i 0)))

pub loop-i-preserved : goal.loop-i-preserved
loop-i-preserved c =
    let product : c.mul.result ≡ gf_mul (get_or c.args.a.now c.loop-i.i 0) (get_or c.args.b.now c.loop-i.i 0) =
    c.mul.ensures ∙ (ap (λ x. gf_mul x c.new-in-loop-i.result) c.new.ensures ∙ ap (gf_mul (get_or c.args.a.now c.loop-i.i 0)) c.new-in-loop-i.ensures) in
    let terms : ℕ → ℕ = λ i. gf_mul (get_or c.args.a.now i 0) (get_or c.args.b.now i 0) in
    c.add-sum.ensures ∙
    (ap (λ s. gf_add s c.mul.result) c.loop-i.invariant ∙
    (ap (gf_add (gf_sum c.loop-i.i terms)) product ∙ sym (gf_sum-more c.loop-i.i terms)))

pub returns : goal.returns
returns c =
    let all : c.loop-i.i ≡ length c.args.a.now = omega arith in
    c.loop-i.invariant ∙ ap (λ n. gf_sum n (λ i. gf_mul (get_or c.args.a.now i 0) (get_or c.args.b.now i 0))) all
