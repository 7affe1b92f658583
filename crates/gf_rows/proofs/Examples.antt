-- The definitions at worked values, computed.
use Rattle.std.proofs.Common.{◌≡◌, [], ◌∷◌, get_or, refl}
use Rattle.gf_core.specs.Field.{gf_mul, gf_sum, product_term, double, doubled}
use Rattle.gf_rows.specs.declared.operation.Op.TheVariants.{AddScaled, Scale}
use Rattle.gf_core.specs.Rows.{row_sum, scaled_row, add_scaled_row}
use Rattle.gf_rows.specs.Plan.{plan_on_column}
use Rattle.gf_rows.specs.Matrix.{rows_of, with_part}
use Rattle.gf_rows.specs.Equations.{row_value, row_result}

-- 1 + 2 * 0x80, and 1 + 2 * 3
row_with_double : add_scaled_row (1 ∷ 1 ∷ []) 2 (0x80 ∷ 3 ∷ []) ≡ 0x1C ∷ 7 ∷ []
unfolding row_sum scaled_row double doubled gf_sum product_term gf_mul
row_with_double = refl

-- 2 * 0x80, 2 * 3 and 2 * 0
scaled_by_two : scaled_row 2 (0x80 ∷ 3 ∷ 0 ∷ []) ≡ 0x1D ∷ 6 ∷ 0 ∷ []
unfolding scaled_row double doubled gf_sum product_term gf_mul
scaled_by_two = refl

-- row 0 gets 1 + 2 * 3, then row 1 gets 3 * 3, and then row 1 gets 5 + 1 * 7
three_operations : plan_on_column (AddScaled 0 1 2 ∷ Scale 1 3 ∷ AddScaled 1 0 1 ∷ []) (1 ∷ 3 ∷ []) ≡ 7 ∷ 2 ∷ []
unfolding plan_on_column double doubled gf_sum product_term gf_mul
three_operations = refl

-- two rows of three bytes
two_rows : rows_of 2 3 (1 ∷ 2 ∷ 3 ∷ 4 ∷ 5 ∷ 6 ∷ []) ≡ (1 ∷ 2 ∷ 3 ∷ []) ∷ (4 ∷ 5 ∷ 6 ∷ []) ∷ []
unfolding rows_of
two_rows = refl

other_middle : with_part (1 ∷ 2 ∷ 3 ∷ 4 ∷ []) 1 (8 ∷ 9 ∷ []) ≡ 1 ∷ 8 ∷ 9 ∷ 4 ∷ []
unfolding with_part
other_middle = refl

-- 0x80 * 2 + 3 * 3, for the values 2 and 3
value_of_row : row_value (record { cols = 2; rows = (1 ∷ 1 ∷ []) ∷ (0x80 ∷ 3 ∷ []) ∷ [] }) (λ j. get_or (2 ∷ 3 ∷ []) j 0) 1 ≡ 0x18
unfolding double doubled gf_sum product_term gf_mul
value_of_row = refl

-- what is left of the byte 0x1A
result_of_row : row_result (record { cols = 2; rows = (1 ∷ 1 ∷ []) ∷ (0x80 ∷ 3 ∷ []) ∷ [] }) (0 ∷ 0x1A ∷ []) (λ j. get_or (2 ∷ 3 ∷ []) j 0) 1 ≡ 2
unfolding double doubled gf_sum product_term gf_mul
result_of_row = refl
