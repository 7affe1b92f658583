use Rattle.std.proofs.Common.{◌∙◌, sym, ap}
use Rattle.gf_core.specs.Field.{gf_mul, doubled}
use Rattle.gf_core.proofs.ProductLemmas.{zero-gf_mul, gf_mul-zero}
use Rattle.gf_core.proofs.InverseLemmas.{gf_mul_powers}
use Rattle.gf_core.proofs.element.Gf.mul.Goals as goal
use Rattle.gf_core.proofs.element.Gf.mul.Goals.{then-self-eq0-via-then-self-eq0, then-self-eq0-via-else-self-eq0+then-other-eq0}

pub returns-then-self-eq0 : goal.returns-then-self-eq0
returns-then-self-eq0 c = elim c.then-self-eq0.branch [
  | then-self-eq0-via-then-self-eq0 w ↦
      sym (ap (λ a. gf_mul a c.args.other) (sym c.self.view_is ∙ w.if-self-eq0.true) ∙ zero-gf_mul c.args.other)
  | then-self-eq0-via-else-self-eq0+then-other-eq0 w ↦
      sym (ap (gf_mul c.args.self) (sym c.other.view_is ∙ w.if-other-eq0.true) ∙ gf_mul-zero c.args.self)
]

pub returns : goal.returns
returns c =
    c.power_of_x.ensures ∙
    (sym (gf_mul_powers c.logarithm_of.result c.logarithm_of-2.result) ∙
    (ap (λ a. gf_mul a (doubled c.logarithm_of-2.result 1)) (c.logarithm_of.ensures.power ∙ c.self.view_is) ∙
    ap (gf_mul c.args.self) (c.logarithm_of-2.ensures.power ∙ c.other.view_is)))
