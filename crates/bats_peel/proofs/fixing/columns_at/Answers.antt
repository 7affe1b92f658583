use Rattle.std.proofs.Common.{ℕ, ◌≡◌, length, refl, subst, arith}
use Rattle.bats_peel.specs.steps.Fixing.{HasColumns}
use Rattle.bats_peel.proofs.FixingLemmas.{HasColumns-none, HasColumns-more}
use Rattle.bats_peel.proofs.fixing.columns_at.Goals as goal

pub rows-init : goal.rows-init
rows-init c =
    HasColumns-none c.args.matrix.now c.args.places.now c.in_ok-columns.columns c.rows-2.result (length c.args.places.now)
    c.rows-2.ensures.count refl c.in_ok-columns.ensures

pub rows-preserved : goal.rows-preserved
rows-preserved c =
    HasColumns-more c.args.matrix.now c.args.places.now c.rows.r c.rows.columns c.copy_columns.new.columns c.rows.invariant
    c.copy_columns.ensures

pub returns : goal.returns
returns c =
    let all : c.rows.r ≡ length c.args.matrix.now.rows = omega (arith, c.rows-r-end.ensures.count) in
    subst (λ (n : ℕ). HasColumns c.args.matrix.now c.args.places.now n c.rows.columns) all c.rows.invariant
