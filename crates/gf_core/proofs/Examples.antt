-- The field's definitions at worked values, computed.
use Rattle.std.proofs.Common.{◌≡◌, refl}
use Rattle.gf_core.specs.Field.{gf_add, gf_mul, gf_sum, product_term, double, doubled}

add-0x53-0xCA : gf_add 0x53 0xCA ≡ 0x99
add-0x53-0xCA = refl

double-0x80 : double 0x80 ≡ 0x1D
unfolding double
double-0x80 = refl

mul-0x80-2 : gf_mul 0x80 0x02 ≡ 0x1D
unfolding double doubled gf_sum product_term gf_mul
mul-0x80-2 = refl

mul-2-0x80 : gf_mul 0x02 0x80 ≡ 0x1D
unfolding double doubled gf_sum product_term gf_mul
mul-2-0x80 = refl

mul-3-3 : gf_mul 3 3 ≡ 5
unfolding double doubled gf_sum product_term gf_mul
mul-3-3 = refl

mul-2-3 : gf_mul 2 3 ≡ 6
unfolding double doubled gf_sum product_term gf_mul
mul-2-3 = refl

-- the inverse of 2
mul-2-0x8E : gf_mul 2 0x8E ≡ 1
unfolding double doubled gf_sum product_term gf_mul
mul-2-0x8E = refl

mul-0xFF-0xFF : gf_mul 0xFF 0xFF ≡ 0xE2
unfolding double doubled gf_sum product_term gf_mul
mul-0xFF-0xFF = refl
