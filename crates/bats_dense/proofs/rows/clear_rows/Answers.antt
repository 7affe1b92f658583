use Rattle.std.proofs.Common.{◌≢◌, get_or, take, arith}
use Rattle.std.proofs.lemmas.List.Elements.{All-take}
use Rattle.gf_rows.proofs.SpendsLemmas.{Spends-none, Spends-then}
use Rattle.bats_dense.proofs.ClearLemmas.{Clears-none, Clears-more, Clears-row_within, Clears-column_within, Clears-pivot_one}
use Rattle.bats_dense.proofs.rows.clear_rows.Goals as goal

pub clearing-init : goal.clearing-init
clearing-init g c = record {
  clears = Clears-none c.args.pivot c.args.column c.args.matrix.now c.args.plan.now;
  counted = omega arith;
  coef_steps = Spends-none c.args.coef_steps.now 0;
}

pub clear_row-requires-clause-pivot : goal.clear_row-requires-clause-pivot
clear_row-requires-clause-pivot g c =
    Clears-row_within c.args.pivot c.args.column (take c.clearing.row-index c.args.rows.now) c.args.matrix.now c.clearing.matrix c.args.plan.now c.clearing.plan
    c.args.pivot c.clearing.invariant.clears c.requires.pivot

pub clear_row-requires-clause-column : goal.clear_row-requires-clause-column
clear_row-requires-clause-column g c =
    Clears-column_within c.args.pivot c.args.column (take c.clearing.row-index c.args.rows.now) c.args.matrix.now c.clearing.matrix c.args.plan.now c.clearing.plan
    c.clearing.invariant.clears c.requires.column

pub clear_row-requires-clause-row : goal.clear_row-requires-clause-row
clear_row-requires-clause-row g c =
    Clears-row_within c.args.pivot c.args.column (take c.clearing.row-index c.args.rows.now) c.args.matrix.now c.clearing.matrix c.args.plan.now c.clearing.plan
    (get_or c.args.rows.now c.clearing.row-index 0) c.clearing.invariant.clears (c.requires.rows c.clearing.row-index 0 (omega arith))

pub clear_row-requires-clause-one : goal.clear_row-requires-clause-one
clear_row-requires-clause-one g c =
    Clears-pivot_one c.args.pivot c.args.column (take c.clearing.row-index c.args.rows.now) c.args.matrix.now c.clearing.matrix c.args.plan.now c.clearing.plan
    c.clearing.invariant.clears (All-take (λ r. r ≢ c.args.pivot) c.clearing.row-index c.args.rows.now c.requires.apart) c.requires.one

pub clearing-preserved : goal.clearing-preserved
clearing-preserved g c = record {
  clears =
      Clears-more c.args.pivot c.args.column c.args.rows.now c.clearing.row-index c.args.matrix.now c.clearing.matrix c.clear_row.new.matrix c.args.plan.now c.clearing.plan c.clear_row.new.plan
      (omega arith) c.clearing.invariant.clears c.in_ok-clear_row.ensures.clears;
  counted = omega (arith, c.in_ok-clear_row.ensures.counted);
  coef_steps = Spends-then c.clearing.invariant.coef_steps c.in_ok-clear_row.ensures.coef_steps;
}
