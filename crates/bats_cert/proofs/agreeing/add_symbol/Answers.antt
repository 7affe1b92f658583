use Rattle.std.proofs.Common.{◌≡◌, ◌≤◌, ◌∙◌, ℕ, List, [], ◌∷◌, ◌++◌, length, take, drop, sym, ap, arith}
use Rattle.gf_core.specs.Rows.{row_sum, scaled_row, add_scaled_row}
use Rattle.gf_core.proofs.RowLemmas.{row_sum-nil, length-scaled_row}
use Rattle.bats_cert.proofs.agreeing.add_symbol.Goals as goal

-- a sum with a shorter row leaves the rest as it is
row_sum-front : (xs ys : List ℕ) → length ys ≤ length xs
    → row_sum (take (length ys) xs) ys ++ drop (length ys) xs ≡ row_sum xs ys
unfolding row_sum
row_sum-front xs [] h = sym (row_sum-nil xs)
row_sum-front [] (y ∷ ys) h = absurd (omega arith)
row_sum-front (x ∷ xs) (y ∷ ys) h = ap (λ rest. row_sum (x ∷ []) (y ∷ []) ++ rest) (row_sum-front xs ys (omega arith))

add_scaled_row-front : (row : List ℕ) (factor : ℕ) (symbol : List ℕ) → length symbol ≤ length row
    → add_scaled_row (take (length symbol) row) factor symbol ++ drop (length symbol) row ≡ add_scaled_row row factor symbol
add_scaled_row-front row factor symbol h =
    let long : length (scaled_row factor symbol) ≡ length symbol = length-scaled_row factor symbol in
    ap (λ n. row_sum (take n row) (scaled_row factor symbol) ++ drop n row) (sym long)
    ∙ row_sum-front row (scaled_row factor symbol) (omega (arith, long, h))

pub returns : goal.returns
returns c =
    ap (λ front. front ++ drop (length c.args.symbol.now) c.args.sum.now) c.add_scaled.ensures
    ∙ add_scaled_row-front c.args.sum.now c.args.factor c.args.symbol.now c.requires
