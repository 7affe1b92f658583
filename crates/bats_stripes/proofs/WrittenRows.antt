-- A row of the payload that was written or copied.
use Rattle.std.proofs.Common.{ℕ, ◌≡◌, ◌≢◌, ◌<◌, ◌⊎◌, inl, inr, ◌∙◌, List, [], length, get_or, set, sym, ap, subst, length-set}
use Rattle.std.proofs.lemmas.Bool.{cases_eq}
use Rattle.std.proofs.lemmas.List.{ext_get_or, get_or-set_same, get_or-set_other}
use Rattle.gf_rows.specs.Matrix.{Grid, matrix_row, with_matrix_row}
use Rattle.bats_stripes.specs.Layout.{byte_place, striped_row, striped_rows}
use Rattle.bats_stripes.proofs.StripedRows.{striped_grid, length-striped_rows, length-striped_row, get_or-striped_rows, get_or-striped_row}

module _ (rows cols width stride r : ℕ) where
  -- a list that has the bytes of a row is that row
  pub row_is : (q : ℕ) (bytes row : List ℕ) → length row ≡ cols → ((c : ℕ) → c < cols → get_or bytes (byte_place rows width stride q c) 0 ≡ get_or row c 0)
      → striped_row rows cols width stride bytes q ≡ row
  row_is q bytes row size own =
      ext_get_or 0 (striped_row rows cols width stride bytes q) row (length-striped_row rows cols width stride bytes q ∙ sym size)
      (λ c h. by_entry c (subst (λ n. c < n) (length-striped_row rows cols width stride bytes q) h))
    where
      by_entry : (c : ℕ) → c < cols → get_or (striped_row rows cols width stride bytes q) c 0 ≡ get_or row c 0
      by_entry c p = get_or-striped_row rows cols width stride bytes q c p ∙ own c p

  module _ (before after row : List ℕ) (here : r < rows) (size : length row ≡ cols)
      (own : (c : ℕ) → c < cols → get_or after (byte_place rows width stride r c) 0 ≡ get_or row c 0)
      (others : (q c : ℕ) → q < rows → q ≢ r → c < cols → get_or after (byte_place rows width stride q c) 0 ≡ get_or before (byte_place rows width stride q c) 0) where
    at_row : (q : ℕ) → q < rows → ((q ≡ r) ⊎ (q ≢ r)) → get_or (striped_rows rows cols width stride after) q [] ≡ get_or (set (striped_rows rows cols width stride before) r row) q []
    at_row q h (inl same) =
        get_or-striped_rows rows cols width stride after q h ∙
        (ap (striped_row rows cols width stride after) same ∙
        (row_is r after row size own ∙
        sym (ap (λ n. get_or (set (striped_rows rows cols width stride before) r row) n []) same ∙
        get_or-set_same (striped_rows rows cols width stride before) r row [] (subst (λ n. r < n) (sym (length-striped_rows rows cols width stride before)) here))))
    at_row q h (inr other) =
        get_or-striped_rows rows cols width stride after q h ∙
        (row_is q after (striped_row rows cols width stride before q) (length-striped_row rows cols width stride before q)
        (λ c p. others q c h other p ∙ sym (get_or-striped_row rows cols width stride before q c p)) ∙
        sym (get_or-set_other (striped_rows rows cols width stride before) r q row [] other ∙ get_or-striped_rows rows cols width stride before q h))

    pub rows_written : striped_rows rows cols width stride after ≡ set (striped_rows rows cols width stride before) r row
    rows_written =
        ext_get_or [] (striped_rows rows cols width stride after) (set (striped_rows rows cols width stride before) r row)
        (length-striped_rows rows cols width stride after ∙ sym (length-set (striped_rows rows cols width stride before) r row ∙ length-striped_rows rows cols width stride before))
        (λ q h. at_row q (subst (λ n. q < n) (length-striped_rows rows cols width stride after) h) (cases_eq q r))

    pub grid_written : (old : Grid) → striped_grid rows cols width stride before ≡ old → striped_grid rows cols width stride after ≡ with_matrix_row old r row
    grid_written old view = ap (λ rs. record { cols = cols; rows = rs }) rows_written ∙ ap (λ (g : Grid). with_matrix_row g r row) view

  -- the copy of a row
  pub row_copied : (bytes dst : List ℕ) (old : Grid) → striped_grid rows cols width stride bytes ≡ old → r < rows → length dst ≡ cols
      → ((c : ℕ) → c < cols → get_or dst c 0 ≡ get_or bytes (byte_place rows width stride r c) 0) → dst ≡ matrix_row old r
  row_copied bytes dst old view here size own =
      sym (row_is r bytes dst size (λ c p. sym (own c p))) ∙ (sym (get_or-striped_rows rows cols width stride bytes r here) ∙ ap (λ (g : Grid). matrix_row g r) view)
