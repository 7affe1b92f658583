use Rattle.std.proofs.Common.{◌<◌, subst, arith}
use Rattle.bats_peel.proofs.PartLemmas.{Sets-scale_row}
use Rattle.bats_peel.proofs.terms.scale_row.Goals as goal

pub returns-clause-sets : goal.returns-clause-sets
returns-clause-sets g c =
    Sets-scale_row c.args.matrix.now c.scale.new.self c.args.plan.now c.push.new.self c.args.row c.args.factor c.requires.matrix
    c.scale.ensures.matrix c.requires.row c.requires.factor
    (subst (λ n. n < 256) c.byte-byte.ensures (omega (arith, c.byte-byte.type_inv))) c.scale.ensures.row c.in_ok-push.ensures.ok
