use Rattle.bats_dense.proofs.ResultLemmas.{IsReduced-read, KeepsOutside-read, Performed-read, KeepsSolutions-performed, fits-performed}
use Rattle.bats_dense.proofs.dense.reduce.Goals as goal

pub returns-clause-reduced : goal.returns-clause-reduced
returns-clause-reduced g c =
    IsReduced-read c.args.eqs c.args.others c.as_slice.result.now c.as_slice-2.result.now c.as_slice-3.result.now c.reduce_columns.new.progress.used.items c.deref.result.now
    (record {
      matrix = c.reduce_columns.new.progress.matrix;
      plan = c.reduce_columns.new.progress.plan;
      pivot_rows = c.reduce_columns.new.progress.pivot_rows;
      pivot_columns = c.reduce_columns.new.progress.pivot_columns;
      free = c.reduce_columns.new.progress.free;
      zero_rows = c.in_ok-zero_rows.zero_rows;
    })
    c.as_slice.ensures c.as_slice-2.ensures c.as_slice-3.ensures c.deref.ensures.value c.in_ok-reduce_columns.ensures.below c.in_ok-zero_rows.ensures

pub returns-clause-performed : goal.returns-clause-performed
returns-clause-performed g c =
    Performed-read c.args.eqs c.as_slice.result.now c.args.matrix c.reduce_columns.new.progress.matrix c.args.plan c.reduce_columns.new.progress.plan
    c.as_slice.ensures c.in_ok-reduce_columns.ensures.performed

pub returns-clause-outside : goal.returns-clause-outside
returns-clause-outside g c =
    KeepsOutside-read c.args.eqs c.args.others c.as_slice.result.now c.as_slice-2.result.now c.args.matrix c.reduce_columns.new.progress.matrix
    c.as_slice.ensures c.as_slice-2.ensures c.in_ok-reduce_columns.ensures.outside

pub returns-clause-solutions : goal.returns-clause-solutions
returns-clause-solutions g c =
    KeepsSolutions-performed c.args.eqs c.args.matrix c.reduce_columns.new.progress.matrix c.args.plan c.reduce_columns.new.progress.plan
    (Performed-read c.args.eqs c.as_slice.result.now c.args.matrix c.reduce_columns.new.progress.matrix c.args.plan c.reduce_columns.new.progress.plan
    c.as_slice.ensures c.in_ok-reduce_columns.ensures.performed)
    c.rows-rows.ensures.matrix

pub returns-clause-fits : goal.returns-clause-fits
returns-clause-fits g c =
    fits-performed c.as_slice.result.now c.args.matrix c.reduce_columns.new.progress.matrix c.args.plan c.reduce_columns.new.progress.plan
    c.in_ok-reduce_columns.ensures.performed c.requires.plan
