use Rattle.std.proofs.Common.{◌∙◌, ap, arith}
use Rattle.gf_core.specs.Field.{gf_mul}
use Rattle.gf_core.proofs.InverseLemmas.{gf_mul_powers_255}
use Rattle.gf_core.proofs.element.Gf.inv.Goals as goal

pub returns : goal.returns
returns c =
    ap (gf_mul c.args.self) c.power_of_x.ensures ∙
    gf_mul_powers_255 c.args.self c.logarithm_of.result _ (c.logarithm_of.ensures.power ∙ c.self.view_is) (omega (arith, c.logarithm_of.ensures.below))
