use Rattle.std.proofs.Common.{◌≡◌, ◌∙◌, sym, ap, subst, arith}
use Rattle.std.proofs.lemmas.Bool.{eqb-true}
use Rattle.gf_core.specs.Field.{gf_mul}
use Rattle.gf_core.proofs.ProductLemmas.{gf_mul-zero}
use Rattle.bats_batch.specs.steps.Reduction.{IsNormalized}
use Rattle.bats_batch.proofs.Reducing.{IsNormalized-same, IsNormalized-scaled}
use Rattle.bats_batch.proofs.reduction.make_one.Goals as goal

pub returns-then-eq-clause-row : goal.returns-then-eq-clause-row
returns-then-eq-clause-row g c =
    IsNormalized-same c.args.pivot c.args.row.now (sym c.new-entry.ensures ∙ eqb-true c.new-entry.result 1 (sym c.eq.ensures ∙ c.if-eq.true))

pub scale-requires : goal.scale-requires
scale-requires g c is_zero =
    let one : 0 ≡ 1 = sym (gf_mul-zero c.new-entry.result) ∙ ap (gf_mul c.new-entry.result) (sym is_zero) ∙ c.inv-factor.ensures in
    omega (arith, one)

pub returns-clause-row : goal.returns-clause-row
returns-clause-row g c =
    subst (IsNormalized c.args.pivot c.args.row.now) (sym c.scale.ensures.row)
    (IsNormalized-scaled c.args.pivot c.args.row.now c.inv-factor.result c.requires.bytes c.scale.ensures.byte
    (ap (λ e. gf_mul e c.inv-factor.result) (sym c.new-entry.ensures) ∙ c.inv-factor.ensures))
