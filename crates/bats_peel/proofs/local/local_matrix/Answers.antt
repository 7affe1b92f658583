use Rattle.std.proofs.Common.{ℕ, ◌≡◌, length, subst, arith}
use Rattle.bats_peel.specs.steps.Local.{HasFactors}
use Rattle.bats_peel.proofs.LocalLemmas.{HasFactors-none, HasFactors-more}
use Rattle.bats_peel.proofs.local.local_matrix.Goals as goal

pub packets-init : goal.packets-init
packets-init c =
    HasFactors-none c.args.batch.now c.args.basis.now.kept c.in_ok-matrix.matrix c.rank.result c.degree.result
    c.rank.ensures.value c.degree.ensures.value c.in_ok-matrix.ensures

pub packets-preserved : goal.packets-preserved
packets-preserved c =
    HasFactors-more c.args.batch.now c.args.basis.now.kept c.kept.result.now c.as_slice.result.now c.packets.i c.packets.matrix
    c.write_row.new.matrix c.packets.invariant c.kept.ensures.value c.as_slice.ensures.value c.write_row.ensures

pub returns : goal.returns
returns c =
    let all : c.packets.i ≡ length c.args.basis.now.kept = omega arith in
    record {
      is_batch = c.degree.ensures.within;
      factors = subst (λ (n : ℕ). HasFactors c.args.batch.now c.args.basis.now.kept n c.packets.matrix) all c.packets.invariant;
    }
