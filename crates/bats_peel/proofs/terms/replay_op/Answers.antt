use Rattle.std.proofs.lemmas.Result.{on_ok_weaker}
use Rattle.bats_peel.proofs.PartLemmas.{Changes-add_op, Changes-scale_op}
use Rattle.bats_peel.proofs.terms.replay_op.Goals as goal

pub returns-in-AddScaled-clause-changes : goal.returns-in-AddScaled-clause-changes
returns-in-AddScaled-clause-changes g c =
    on_ok_weaker c.add_row.result
    (Changes-add_op c.args.first c.args.count c.in-AddScaled.dst c.in-AddScaled.src c.in-AddScaled.factor c.args.op c.args.matrix.now
    c.add_row.new.matrix c.args.plan.now c.add_row.new.plan c.in-AddScaled.is c.requires.fits) c.add_row.ensures.sets

pub returns-in-Scale-clause-changes : goal.returns-in-Scale-clause-changes
returns-in-Scale-clause-changes g c =
    on_ok_weaker c.scale_row.result
    (Changes-scale_op c.args.first c.args.count c.in-Scale.row c.in-Scale.factor c.args.op c.args.matrix.now
    c.scale_row.new.matrix c.args.plan.now c.scale_row.new.plan c.in-Scale.is c.requires.fits) c.scale_row.ensures.sets
