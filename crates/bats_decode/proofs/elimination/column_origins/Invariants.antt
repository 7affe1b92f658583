use Rattle.std.proofs.Common.{◌≡◌, length, get_or}
use Rattle.bats_decode.specs.declared.elimination.Origin.TheVariants.{Row, Free}
use Rattle.bats_decode.specs.steps.Eliminated.{HaveOrigins}
use Rattle.bats_decode.proofs.elimination.column_origins.Given as goal

abbrev pub invariant-pivots : goal.invariant-pivots
invariant-pivots l = record {
  count : length l.origins.items ≡ l.fn.columns;
  pivots : HaveOrigins l.i (λ k. Row (get_or l.fn.pivot_rows k 0)) l.fn.pivot_columns l.origins.items;
}

abbrev pub invariant-columns : goal.invariant-columns
invariant-columns l = record {
  count : length l.origins.items ≡ l.fn.columns;
  pivots : HaveOrigins (length l.fn.pivot_columns) (λ k. Row (get_or l.fn.pivot_rows k 0)) l.fn.pivot_columns l.origins.items;
  columns : HaveOrigins l.i (λ k. Free k) l.fn.free l.origins.items;
}
