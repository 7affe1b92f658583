use Rattle.std.proofs.Common.{◌<◌, ◌∙◌, sym, ap, subst, arith}
use Rattle.std.proofs.lemmas.Bool.{eqb-true}
use Rattle.gf_core.specs.Field.{gf_mul}
use Rattle.bats_dense.proofs.ClearLemmas.{Normalizes-one, Normalizes-scaled, inverse_nonzero}
use Rattle.bats_dense.proofs.rows.make_one.Goals as goal

pub returns-then-eq-clause-normalizes : goal.returns-then-eq-clause-normalizes
returns-then-eq-clause-normalizes g c =
    Normalizes-one c.args.row c.args.column c.args.matrix.now c.args.plan.now
    (sym c.get-entry.ensures.value ∙ eqb-true c.get-entry.result 1 (sym c.eq.ensures ∙ c.if-eq.true))

pub push-requires : goal.push-requires
push-requires g c = inverse_nonzero c.get-entry.result c.inv-factor.result c.inv-factor.ensures

pub scale-requires-clause-factor : goal.scale-requires-clause-factor
scale-requires-clause-factor g c = inverse_nonzero c.get-entry.result c.inv-factor.result c.inv-factor.ensures

pub returns-clause-normalizes : goal.returns-clause-normalizes
returns-clause-normalizes g c =
    Normalizes-scaled c.args.row c.args.column c.inv-factor.result c.args.matrix.now c.scale.new.self c.args.plan.now c.push.new.self
    c.get-entry.ensures.matrix c.requires.row
    (ap (λ e. gf_mul e c.inv-factor.result) (sym c.get-entry.ensures.value) ∙ c.inv-factor.ensures)
    (subst (λ n. n < 256) c.byte-byte.ensures (omega (arith, c.byte-byte.type_inv)))
    c.scale.ensures.row c.in_ok-push.ensures.ok
