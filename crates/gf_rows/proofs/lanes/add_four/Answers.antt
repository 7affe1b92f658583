use Rattle.std.proofs.Common.{◌≡◌, ◌+◌, ◌*◌, ◌∙◌, length, map, take, bit_xor, ap, sym, arith, take_all}
use lib.Lanes.{zip2, chunk, put_chunk}
use Rattle.gf_core.specs.Field.{gf_mul}
use Rattle.gf_core.specs.Rows.{row_sum}
use Rattle.gf_core.proofs.RowLemmas.{row_sum-nil}
use Rattle.gf_rows.specs.Multiples.{sum_of_four}
use Rattle.gf_rows.proofs.LaneLemmas.{sum_vector}
use Rattle.gf_rows.proofs.MultipleLemmas.{length-sum_of_four, chunk-rest, chunk-sum_of_four}
use Rattle.gf_rows.proofs.lanes.add_four.Goals as goal

pub loop-k-init : goal.loop-k-init
loop-k-init c = sym (row_sum-nil c.args.dst.now)

pub loop-k-preserved : goal.loop-k-preserved
loop-k-preserved c =
    let at = c.loop-k.k * 32 in
    let next : at + 32 ≡ (c.loop-k.k + 1) * 32 = omega arith in
    let a = c.args.a.now in
    let b = c.args.b.now in
    let third = c.args.c.now in
    let d = c.args.d.now in
    let all = sum_of_four a.factor a.row.now b.factor b.row.now third.factor third.row.now d.factor d.row.now in
    let pa : c.times-product_a.result ≡ map (gf_mul a.factor) (chunk at 32 a.row.now) = c.times-product_a.ensures a.factor c.of-of_a.ensures ∙ ap (map (gf_mul a.factor)) (chunk-rest at 32 a.row.now) in
    let pb : c.times-product_b.result ≡ map (gf_mul b.factor) (chunk at 32 b.row.now) = c.times-product_b.ensures b.factor c.of-of_b.ensures ∙ ap (map (gf_mul b.factor)) (chunk-rest at 32 b.row.now) in
    let pc : c.times-product_c.result ≡ map (gf_mul third.factor) (chunk at 32 third.row.now) = c.times-product_c.ensures third.factor c.of-of_c.ensures ∙ ap (map (gf_mul third.factor)) (chunk-rest at 32 third.row.now) in
    let pd : c.times-product_d.result ≡ map (gf_mul d.factor) (chunk at 32 d.row.now) = c.times-product_d.ensures d.factor c.of-of_d.ensures ∙ ap (map (gf_mul d.factor)) (chunk-rest at 32 d.row.now) in
    let products : zip2 bit_xor (zip2 bit_xor (zip2 bit_xor c.times-product_a.result c.times-product_b.result) c.times-product_c.result) c.times-product_d.result ≡ chunk at 32 all =
    (λ i. zip2 bit_xor (zip2 bit_xor (zip2 bit_xor (pa i) (pb i)) (pc i)) (pd i)) ∙
    chunk-sum_of_four at 32 a.factor a.row.now b.factor b.row.now third.factor third.row.now d.factor d.row.now
    (sym c.requires.length_a ∙ c.requires.length_b) (sym c.requires.length_a ∙ c.requires.length_c) (sym c.requires.length_a ∙ c.requires.length_d) in
    let long : length c.args.dst.now ≡ length all =
    c.requires.length_a ∙ sym (length-sum_of_four a.factor a.row.now b.factor b.row.now third.factor third.row.now d.factor d.row.now) in
    ap (λ v. put_chunk at c.loop-k.dst (zip2 bit_xor (chunk at 32 c.loop-k.dst) v)) products ∙
    (ap (λ row. put_chunk at row (zip2 bit_xor (chunk at 32 row) (chunk at 32 all))) c.loop-k.invariant ∙
    (sum_vector 32 at c.args.dst.now all (omega arith) long ∙
    ap (λ m. row_sum c.args.dst.now (take m all)) next))

pub returns : goal.returns
returns c =
    let a = c.args.a.now in
    let b = c.args.b.now in
    let third = c.args.c.now in
    let d = c.args.d.now in
    let all = sum_of_four a.factor a.row.now b.factor b.row.now third.factor third.row.now d.factor d.row.now in
    let long : length c.args.dst.now ≡ length all =
    c.requires.length_a ∙ sym (length-sum_of_four a.factor a.row.now b.factor b.row.now third.factor third.row.now d.factor d.row.now) in
    c.loop-k.invariant ∙ ap (row_sum c.args.dst.now) (take_all (c.loop-k.k * 32) all (omega arith))
