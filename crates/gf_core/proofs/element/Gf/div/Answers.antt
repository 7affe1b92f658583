use Rattle.std.proofs.Common.{◌∙◌, ap, arith}
use Rattle.gf_core.specs.Field.{gf_mul}
use Rattle.gf_core.proofs.InverseLemmas.{inverse_unique, gf_mul_inverse_right}
use Rattle.gf_core.proofs.element.Gf.div.Goals as goal

pub returns-clause-product : goal.returns-clause-product
returns-clause-product c inverse below is_inverse =
    c.mul.ensures ∙
    ap (gf_mul c.args.self) (inverse_unique c.args.other c.inv.result inverse (omega arith) (omega arith) below c.inv.ensures is_inverse)

pub returns-clause-quotient : goal.returns-clause-quotient
returns-clause-quotient c =
    ap (λ a. gf_mul a c.args.other) c.mul.ensures ∙
    gf_mul_inverse_right c.args.self c.args.other c.inv.result (omega arith) (omega arith) (omega arith) c.inv.ensures
