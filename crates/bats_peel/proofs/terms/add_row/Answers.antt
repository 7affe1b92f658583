use Rattle.std.proofs.Common.{◌<◌, subst, arith}
use Rattle.bats_peel.proofs.PartLemmas.{Sets-add_row}
use Rattle.bats_peel.proofs.terms.add_row.Goals as goal

pub returns-clause-sets : goal.returns-clause-sets
returns-clause-sets g c =
    Sets-add_row c.args.matrix.now c.axpy.new.self c.args.plan.now c.push.new.self c.args.row c.args.src c.args.factor c.requires.matrix
    c.axpy.ensures.matrix c.requires.row c.requires.src c.requires.apart
    (subst (λ n. n < 256) c.byte-byte.ensures (omega (arith, c.byte-byte.type_inv))) c.axpy.ensures.row c.in_ok-push.ensures.ok
