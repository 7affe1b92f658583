use Rattle.std.proofs.Common.{◌<◌, ◌∙◌, ◌+◌, ◌*◌, length, refl, sym, subst, arith}
use Rattle.gf_rows.proofs.SolutionLemmas.{Performed-none, Performed-then}
use Rattle.gf_rows.proofs.SpendsLemmas.{Spends-none, Spends-trans}
use Rattle.bats_dense.proofs.ColumnLemmas.{AreTargets-performed, KeepsOutside-then}
use Rattle.bats_dense.proofs.progress.reduce_columns.Goals as goal

pub columns-init : goal.columns-init
columns-init g c = record {
  below = c.requires.below;
  performed = Performed-none c.args.eqs.now c.args.progress.now.matrix c.args.progress.now.plan;
  outside = λ row no_eq no_other. refl;
  counted = omega arith;
  coef_steps = Spends-none c.args.coef_steps.now ((length c.args.eqs.now + length c.args.others.now) * 0);
}

pub columns-preserved : goal.columns-preserved
columns-preserved g c = record {
  below = c.in_ok-reduce_column.ensures.below;
  performed = Performed-then c.columns.invariant.performed c.in_ok-reduce_column.ensures.performed;
  outside = KeepsOutside-then c.args.eqs.now c.args.others.now c.args.progress.now.matrix c.columns.progress.matrix c.reduce_column.new.progress.matrix
      c.columns.invariant.outside c.in_ok-reduce_column.ensures.outside;
  counted = omega (arith, c.in_ok-reduce_column.ensures.counted);
  coef_steps =
      Spends-trans ((length c.args.eqs.now + length c.args.others.now) * (c.columns.column + 1)) c.columns.invariant.coef_steps
      c.in_ok-reduce_column.ensures.coef_steps (omega arith);
}

pub reduce_column-requires-clause-targets : goal.reduce_column-requires-clause-targets
reduce_column-requires-clause-targets g c =
    AreTargets-performed c.args.eqs.now c.args.eqs.now c.args.others.now c.args.progress.now.matrix c.columns.progress.matrix c.args.progress.now.plan c.columns.progress.plan
    c.columns.invariant.performed c.requires.targets

pub reduce_column-requires-clause-column : goal.reduce_column-requires-clause-column
reduce_column-requires-clause-column g c =
    subst (λ n. c.columns.column < n) (c.cols-column-end.ensures ∙ sym c.columns.invariant.performed.cols) c.columns-test.true
