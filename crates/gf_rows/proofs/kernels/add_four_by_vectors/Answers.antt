use Rattle.std.proofs.Common.{◌≡◌, ◌∙◌, ◌*◌, ◌/◌, ◌-◌, ◌++◌, length, take, drop, ap, sym, arith, take_all}
use Rattle.std.proofs.lemmas.List.{length-drop}
use Rattle.gf_core.specs.Rows.{row_sum, add_scaled_row}
use Rattle.gf_rows.specs.Multiples.{sum_of_four}
use Rattle.gf_rows.proofs.LaneLemmas.{sum_in_parts}
use Rattle.gf_rows.proofs.MultipleLemmas.{length-sum_of_four, row_sum-sum_of_four, take-sum_of_four, drop-sum_of_four}
use Rattle.gf_rows.proofs.kernels.add_four_by_vectors.Goals as goal

pub returns : goal.returns
returns c =
    let w = length c.args.dst.now / 32 * 32 in
    let dst = c.args.dst.now in
    let fa = c.args.a.now.factor in
    let fb = c.args.b.now.factor in
    let fc = c.args.c.now.factor in
    let fd = c.args.d.now.factor in
    let a = c.args.a.now.row.now in
    let b = c.args.b.now.row.now in
    let third = c.args.c.now.row.now in
    let d = c.args.d.now.row.now in
    let all = sum_of_four fa a fb b fc third fd d in
    let size = length-sum_of_four fa a fb b fc third fd d in
    let first : c.add_four.new.dst ≡ row_sum (take w dst) (take w all) =
    c.add_four.ensures ∙
    (λ i. row_sum (take w dst) (sum_of_four (c.front.ensures.factor i) (c.front.ensures.row i) (c.front-2.ensures.factor i) (c.front-2.ensures.row i) (c.front-3.ensures.factor i) (c.front-3.ensures.row i) (c.front-4.ensures.factor i) (c.front-4.ensures.row i))) ∙
    ap (row_sum (take w dst)) (take-sum_of_four w fa a fb b fc third fd d) in
    let found = take (length (c.add_four.new.dst ++ drop w dst) - w) (drop w (c.add_four.new.dst ++ drop w dst)) in
    let rest : drop w all ≡ take (length all - w) (drop w all) = sym (take_all (length all - w) (drop w all) (omega (arith, length-drop w all))) in
    let la : length (drop w a) ≡ length a - w = length-drop w a in
    let lb : length (drop w b) ≡ length b - w = length-drop w b in
    let lc : length (drop w third) ≡ length third - w = length-drop w third in
    let ld : length (drop w d) ≡ length d - w = length-drop w d in
    let second : c.add_four_short.new.dst ≡ row_sum found (take (length all - w) (drop w all)) =
    c.add_four_short.ensures ∙
    (λ i. add_scaled_row (add_scaled_row (add_scaled_row (add_scaled_row found (c.back.ensures.factor i) (c.back.ensures.row i)) (c.back-2.ensures.factor i) (c.back-2.ensures.row i)) (c.back-3.ensures.factor i) (c.back-3.ensures.row i)) (c.back-4.ensures.factor i) (c.back-4.ensures.row i)) ∙
    sym (row_sum-sum_of_four found fa (drop w a) fb (drop w b) fc (drop w third) fd (drop w d) (omega arith) (omega arith) (omega arith)) ∙
    ap (row_sum found) (drop-sum_of_four w fa a fb b fc third fd d ∙ rest) in
    sum_in_parts w dst all c.add_four.new.dst c.add_four_short.new.dst (omega arith) (c.requires.length_a ∙ sym size) first second
