use Rattle.gf_rows.proofs.SolutionLemmas.{Performed-none}
use Rattle.bats_dense.proofs.ReductionLemmas.{IsReducedBelow-free, IsReducedBelow-pivot}
use Rattle.bats_dense.proofs.progress.reduce_column.Goals as goal

pub returns-in_default-clause-below : goal.returns-in_default-clause-below
returns-in_default-clause-below g c =
    IsReducedBelow-free c.args.column c.args.progress.now.matrix c.args.eqs.now c.args.others.now c.args.progress.now.used.items c.deref.result.now
    c.args.progress.now.pivot_rows c.args.progress.now.pivot_columns c.args.progress.now.free c.push.new.self
    c.requires.below c.deref.ensures.value c.in_default.ensures c.in_ok-push.ensures.ok

pub returns-in_default-clause-performed : goal.returns-in_default-clause-performed
returns-in_default-clause-performed g c = Performed-none c.args.eqs.now c.args.progress.now.matrix c.args.progress.now.plan

pub returns-clause-below : goal.returns-clause-below
returns-clause-below g c =
    IsReducedBelow-pivot c.args.column c.in-Some.place c.args.progress.now.matrix c.clear_column.new.matrix c.args.progress.now.plan c.clear_column.new.plan
    c.args.eqs.now c.args.others.now c.args.progress.now.used.items c.deref.result.now c.args.progress.now.pivot_rows c.args.progress.now.pivot_columns c.args.progress.now.free
    c.push-2.new.self c.push-3.new.self
    c.requires.below c.deref.ensures.value c.in-Some.ensures c.requires.column c.in_ok-clear_column.ensures.clears c.in_ok-push-2.ensures.ok c.in_ok-push-3.ensures.ok
