use Rattle.std.proofs.Common.{◌≡◌, ◌∙◌, ◌==◌, if◌then◌else◌, map, bit_xor, ap, arith}
use Rattle.std.specs.Int.{bit_at}
use lib.Lanes.{zip2}
use Rattle.gf_core.specs.Field.{double, gf_mul}
use Rattle.gf_rows.proofs.RoundLemmas.{sum_after, sums_at_first, powers_at_first, sums_more, powers_more}
use Rattle.gf_rows.proofs.rounds.times.Goals as goal

pub loop-i-init : goal.loop-i-init
loop-i-init c = record {
  sum_so_far = sums_at_first c.args.c 16 c.args.v c.fits-v.0;
  power_so_far = powers_at_first c.args.v;
}

pub loop-i-preserved : goal.loop-i-preserved
loop-i-preserved c = record {
  sum_so_far =
      ap (zip2 bit_xor c.loop-i.sum) c.picked-sum.ensures ∙
      ((λ j. zip2 bit_xor (c.loop-i.invariant.sum_so_far j) (map (λ x. if bit_at c.args.c c.loop-i.i == 1 then x else 0) (c.loop-i.invariant.power_so_far j))) ∙
      sums_more c.args.c c.loop-i.i c.args.v);
  power_so_far = c.doubled-power.ensures ∙ (ap (map double) c.loop-i.invariant.power_so_far ∙ powers_more c.loop-i.i c.args.v);
}

pub returns : goal.returns
unfolding gf_mul
returns c =
    let all : c.loop-i.i ≡ 8 = omega arith in
    c.loop-i.invariant.sum_so_far ∙ ap (λ n. map (sum_after c.args.c n) c.args.v) all
