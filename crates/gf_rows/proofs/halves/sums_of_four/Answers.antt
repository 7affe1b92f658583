use Rattle.std.proofs.Common.{◌∙◌, List, ℕ, bit_and, bit_xor, subst, w8, Fits}
use lib.Lanes.{zip2, Each1}
use Rattle.gf_rows.specs.declared.halves.TheConstants.{BIT_0, BIT_1, BIT_2, BIT_3}
use Rattle.gf_rows.proofs.LaneLemmas.{masked_sums}
use Rattle.gf_rows.proofs.halves.sums_of_four.Goals as goal

sums : List ℕ → List ℕ → List ℕ → List ℕ → List ℕ
sums a b c d = zip2 bit_xor (zip2 bit_xor (zip2 bit_xor (zip2 bit_and a BIT_0) (zip2 bit_and b BIT_1)) (zip2 bit_and c BIT_2)) (zip2 bit_and d BIT_3)

pub returns : goal.returns
unfolding sums
returns c w x y z a b d e =
    (λ i. sums (a i) (b i) (d i) (e i)) ∙
    masked_sums w x y z (subst (Each1 (Fits w8)) a c.fits-a.1).0 (subst (Each1 (Fits w8)) b c.fits-b.1).0 (subst (Each1 (Fits w8)) d c.fits-c.1).0 (subst (Each1 (Fits w8)) e c.fits-d.1).0
