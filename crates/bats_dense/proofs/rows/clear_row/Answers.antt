use Rattle.std.proofs.Common.{◌<◌, ◌∙◌, sym, subst, arith}
use Rattle.std.proofs.lemmas.Bool.{eqb-true}
use Rattle.bats_dense.proofs.ClearLemmas.{Clears-zero, Clears-added}
use Rattle.bats_dense.proofs.rows.clear_row.Goals as goal

pub returns-then-eq-clause-clears : goal.returns-then-eq-clause-clears
returns-then-eq-clause-clears g c =
    Clears-zero c.args.pivot c.args.column c.args.row c.args.matrix.now c.args.plan.now
    (sym c.get-factor.ensures.value ∙ eqb-true c.get-factor.result 0 (sym c.eq.ensures ∙ c.if-eq.true))

pub returns-clause-clears : goal.returns-clause-clears
returns-clause-clears g c =
    Clears-added c.args.pivot c.args.column c.args.row c.get-factor.result c.args.matrix.now c.axpy.new.self c.args.plan.now c.push.new.self
    c.get-factor.ensures.matrix c.requires.pivot c.requires.row c.requires.column c.requires.apart c.requires.one c.get-factor.ensures.value
    (subst (λ n. n < 256) c.byte-byte.ensures (omega (arith, c.byte-byte.type_inv)))
    c.axpy.ensures.row c.in_ok-push.ensures.ok
