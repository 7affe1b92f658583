use Rattle.std.proofs.Common.{ℕ, ◌≡◌, ◌∙◌, length, get_or, subst, arith, length-set}
use Rattle.bats_decode.specs.declared.elimination.Origin.TheVariants.{Row, Free}
use Rattle.bats_decode.specs.steps.Eliminated.{HaveOrigins}
use Rattle.bats_decode.proofs.OriginLemmas.{rising-count, HaveOrigins-none, HaveOrigins-more, HaveOrigins-other, pivot-apart}
use Rattle.bats_decode.proofs.elimination.column_origins.Goals as goal

pub pivots-init : goal.pivots-init
pivots-init c = record {
  count = omega (arith, c.in_ok-origins.ensures.len, c.in_ok-origins.origins.ok.0);
  pivots = HaveOrigins-none (λ k. Row (get_or c.args.pivot_rows.now k 0)) c.args.pivot_columns.now c.in_ok-origins.origins.items;
}

pub pivots-preserved : goal.pivots-preserved
pivots-preserved c = record {
  count =
      length-set c.pivots.origins.items (get_or c.args.pivot_columns.now c.pivots.i 0) (Row (get_or c.args.pivot_rows.now c.pivots.i 0)) ∙
      c.pivots.invariant.count;
  pivots =
      HaveOrigins-more c.pivots.i (λ k. Row (get_or c.args.pivot_rows.now k 0)) c.args.pivot_columns.now c.pivots.origins.items
      c.requires.split.pivots_rise c.pivots-test.true
      (omega (arith, c.pivots.invariant.count, c.requires.split.pivots_within c.pivots.i 0 c.pivots-test.true)) c.pivots.invariant.pivots;
}

pub columns-init : goal.columns-init
columns-init c =
    let e : c.pivots.i ≡ length c.args.pivot_columns.now = omega (arith, c.pivots-test.false, c.pivots.auto.i-end) in
    record {
      count = c.pivots.invariant.count;
      pivots = subst (λ (n : ℕ). HaveOrigins n (λ k. Row (get_or c.args.pivot_rows.now k 0)) c.args.pivot_columns.now c.pivots.origins.items)
          e c.pivots.invariant.pivots;
      columns = HaveOrigins-none (λ k. Free k) c.args.free.now c.pivots.origins.items;
    }

pub overflow_cast-i : goal.overflow_cast-i
overflow_cast-i c =
    omega (
      arith,
      c.ranges.columns,
      rising-count c.args.free.now c.args.columns c.columns.i c.requires.split.free_rise c.requires.split.free_within c.columns-test.true,
    )

pub columns-preserved : goal.columns-preserved
columns-preserved c = record {
  count = length-set c.columns.origins.items (get_or c.args.free.now c.columns.i 0) (Free c.columns.i) ∙ c.columns.invariant.count;
  pivots =
      HaveOrigins-other (length c.args.pivot_columns.now) (get_or c.args.free.now c.columns.i 0) (λ k. Row (get_or c.args.pivot_rows.now k 0))
      c.args.pivot_columns.now c.columns.origins.items (Free c.columns.i)
      (λ k h. pivot-apart c.args.columns c.args.pivot_columns.now c.args.free.now k c.columns.i c.requires.split h c.columns-test.true)
      c.columns.invariant.pivots;
  columns =
      HaveOrigins-more c.columns.i (λ k. Free k) c.args.free.now c.columns.origins.items c.requires.split.free_rise c.columns-test.true
      (omega (arith, c.columns.invariant.count, c.requires.split.free_within c.columns.i 0 c.columns-test.true)) c.columns.invariant.columns;
}

pub returns : goal.returns
returns c =
    let e : c.columns.i ≡ length c.args.free.now = omega (arith, c.columns-test.false, c.columns.auto.i-end) in
    record {
      count = c.columns.invariant.count;
      pivots = c.columns.invariant.pivots;
      columns = subst (λ (n : ℕ). HaveOrigins n (λ k. Free k) c.args.free.now c.columns.origins.items) e c.columns.invariant.columns;
    }
