-- A row that is written or copied piece by piece, a piece a stripe.
use Rattle.std.proofs.Common.{ℕ, ◌≡◌, ◌≢◌, ◌<◌, ◌≤◌, ◌+◌, ◌-◌, ◌*◌, ◌/◌, ◌%◌, ◌⊎◌, inl, inr, ◌∙◌, List, length, get_or, take, drop, sym, ap, refl, subst, arith}
use Rattle.std.proofs.Math.Nat.{div-lt_iff_lt-mul, mod-lt, mod-eq_of_lt, mul-add-mod_self_right, div-add-mod}
use Rattle.std.proofs.lemmas.Bool.{cases_eq, cases_lt}
use Rattle.std.proofs.lemmas.List.{get_or-take, get_or-drop}
use Rattle.gf_rows.proofs.BufferLemmas.{length-part, row_within}
use Rattle.bats_stripes.specs.Layout.{byte_place}
use Rattle.bats_stripes.proofs.StripedRows.{place_in_stripe}

-- the bytes of a row are written in the stripes before k, and no other row has changed
pub record IsWritten (rows cols width stride r : ℕ) (row : List ℕ) (k : ℕ) (before after : List ℕ) : Type 0 where
  pub size : length after ≡ length before
  pub own : (c : ℕ) → c < cols → c / width < k → get_or after (byte_place rows width stride r c) 0 ≡ get_or row c 0
  pub others : (q c : ℕ) → q < rows → q ≢ r → c < cols → get_or after (byte_place rows width stride q c) 0 ≡ get_or before (byte_place rows width stride q c) 0

-- the bytes of a row are copied from the stripes before k
pub record IsCopied (rows cols width stride r : ℕ) (buffer : List ℕ) (k : ℕ) (dst : List ℕ) : Type 0 where
  pub size : length dst ≡ cols
  pub own : (c : ℕ) → c < cols → c / width < k → get_or dst c 0 ≡ get_or buffer (byte_place rows width stride r c) 0

-- a byte of one row of a stripe lies outside a piece of another row
outside_row : (stride n m j size : ℕ) → n ≢ m → j < stride → size ≤ stride → (n * stride + j < m * stride) ⊎ (m * stride + size ≤ n * stride + j)
outside_row stride n m j size other column fits = by_order (cases_lt n m)
  where
    by_order : ((n < m) ⊎ (m ≤ n)) → (n * stride + j < m * stride) ⊎ (m * stride + size ≤ n * stride + j)
    by_order (inl below) = inl (omega (arith, column, row_within m stride n (m * stride) refl below))
    by_order (inr above) = inr (omega (arith, fits, row_within n stride m (n * stride) refl (omega (arith, above, other))))

-- rows of one stripe are numbered apart from those of others
row_number : (rows a q : ℕ) → q < rows → (a * rows + q) % rows ≡ q
row_number rows a q h = mul-add-mod_self_right a rows q ∙ mod-eq_of_lt h

other_row : (rows a q k r : ℕ) → q < rows → r < rows → q ≢ r → a * rows + q ≢ k * rows + r
other_row rows a q k r h p other same = other (sym (row_number rows a q h) ∙ (ap (λ n. n % rows) same ∙ row_number rows k r p))

other_stripe : (rows a k r : ℕ) → a < k → 0 < rows → a * rows + r ≢ k * rows + r
other_stripe rows a k r below some same = omega (arith, same, some, row_within k rows a (k * rows) refl below)

column_is : (c width k : ℕ) → c / width ≡ k → c ≡ k * width + c % width
column_is c width k is = omega (arith, sym (div-add-mod c width) ∙ ap (λ n. width * n + c % width) is)

before_piece : (c width k : ℕ) → 0 < width → c / width < k → c < k * width
before_piece c width k some below = omega (arith, div-add-mod c width, mod-lt c some, row_within k width (c / width) (k * width) refl below)

module _ (rows cols width stride r k size : ℕ) (some : 0 < width) (fits : width ≤ stride) (here : r < rows)
    (narrow : size ≤ width) (all : (c : ℕ) → c < cols → c / width ≡ k → c % width < size) where
  module _ (row before now after piece : List ℕ) (at : ℕ) (place : at ≡ (k * rows + r) * stride) (is : (j : ℕ) → j < size → get_or piece j 0 ≡ get_or row (k * width + j) 0) (long : length piece ≡ size)
      (so_far : IsWritten rows cols width stride r row k before now) (same : length after ≡ length now)
      (inside : (i : ℕ) → i < length piece → get_or after (at + i) 0 ≡ get_or piece i 0)
      (outside : (p : ℕ) → (p < at) ⊎ (at + length piece ≤ p) → get_or after p 0 ≡ get_or now p 0) where
    kept : (n j : ℕ) → n ≢ k * rows + r → j < stride → get_or after (n * stride + j) 0 ≡ get_or now (n * stride + j) 0
    kept n j other column =
        outside (n * stride + j) (subst (λ (x : ℕ). (n * stride + j < x) ⊎ (x + length piece ≤ n * stride + j)) (sym place)
        (outside_row stride n (k * rows + r) j (length piece) other column (omega (arith, long, narrow, fits))))

    own_more : (c : ℕ) → c < cols → c / width < k + 1 → get_or after (byte_place rows width stride r c) 0 ≡ get_or row c 0
    own_more c p below = by_stripe (cases_eq (c / width) k)
      where
        column : c % width < stride
        column = omega (arith, mod-lt c some, fits)

        by_stripe : ((c / width ≡ k) ⊎ (c / width ≡ k → ⊥)) → get_or after (byte_place rows width stride r c) 0 ≡ get_or row c 0
        by_stripe (inl own) =
            let j : c % width < size = all c p own in
            ap (λ n. get_or after ((n * rows + r) * stride + c % width) 0) own ∙
            (ap (λ n. get_or after (n + c % width) 0) (sym place) ∙
            (inside (c % width) (omega (arith, j, long)) ∙ (is (c % width) j ∙ ap (λ n. get_or row n 0) (sym (column_is c width k own)))))
        by_stripe (inr other) =
            let earlier : c / width < k = omega (arith, below, other) in
            kept (c / width * rows + r) (c % width) (other_stripe rows (c / width) k r earlier (omega (arith, here))) column ∙ so_far.own c p earlier

    pub written_more : IsWritten rows cols width stride r row (k + 1) before after
    written_more = record {
      size = same ∙ so_far.size;
      own = own_more;
      others = λ q c h other p. kept (c / width * rows + q) (c % width) (other_row rows (c / width) q k r h here other) (omega (arith, mod-lt c some, fits)) ∙ so_far.others q c h other p;
    }

  module _ (buffer now after piece : List ℕ) (at : ℕ) (first : at ≡ k * width) (is : (j : ℕ) → j < size → get_or piece j 0 ≡ get_or buffer ((k * rows + r) * stride + j) 0) (long : length piece ≡ size)
      (so_far : IsCopied rows cols width stride r buffer k now) (same : length after ≡ length now)
      (inside : (i : ℕ) → i < length piece → get_or after (at + i) 0 ≡ get_or piece i 0)
      (outside : (p : ℕ) → (p < at) ⊎ (at + length piece ≤ p) → get_or after p 0 ≡ get_or now p 0) where
    copied : (c : ℕ) → c < cols → c / width < k + 1 → get_or after c 0 ≡ get_or buffer (byte_place rows width stride r c) 0
    copied c p below = by_stripe (cases_eq (c / width) k)
      where
        by_stripe : ((c / width ≡ k) ⊎ (c / width ≡ k → ⊥)) → get_or after c 0 ≡ get_or buffer (byte_place rows width stride r c) 0
        by_stripe (inl own) =
            let j : c % width < size = all c p own in
            ap (λ n. get_or after n 0) (column_is c width k own ∙ ap (λ n. n + c % width) (sym first)) ∙
            (inside (c % width) (omega (arith, j, long)) ∙ (is (c % width) j ∙ ap (λ n. get_or buffer ((n * rows + r) * stride + c % width) 0) (sym own)))
        by_stripe (inr other) =
            let earlier : c / width < k = omega (arith, below, other) in
            outside c (inl (omega (arith, first, before_piece c width k some earlier))) ∙ so_far.own c p earlier

    pub copied_more : IsCopied rows cols width stride r buffer (k + 1) after
    copied_more = record { size = same ∙ so_far.size; own = copied }

-- a part of a list
less : (a n : ℕ) → a + n - a ≡ n
less a n = omega arith

pub length_of_part : (xs : List ℕ) (at size : ℕ) → at + size ≤ length xs → length (take (at + size - at) (drop at xs)) ≡ size
length_of_part xs at size h = ap (λ n. length (take n (drop at xs))) (less at size) ∙ length-part xs at size h

-- an entry of it
pub entry_of_piece : (xs : List ℕ) (at size j : ℕ) → j < size → get_or (take (at + size - at) (drop at xs)) j 0 ≡ get_or xs (at + j) 0
entry_of_piece xs at size j h = ap (λ n. get_or (take n (drop at xs)) j 0) (less at size) ∙ (get_or-take size (drop at xs) j 0 h ∙ get_or-drop at xs j 0)

-- a piece lies within the buffer
pub piece_within : (rows stride stripes k r size n : ℕ) → n ≡ stripes * (rows * stride) → k < stripes → r < rows → size ≤ stride → (k * rows + r) * stride + size ≤ n
piece_within rows stride stripes k r size n is h p fits =
    omega (arith, is, fits, row_within stripes (rows * stride) k n is h, row_within rows stride r (rows * stride) refl p, place_in_stripe k rows stride r 0)

-- ---- a row of zeros

-- the bytes of a row in the stripes before k are 0
abbrev pub IsZeroBefore : ℕ → ℕ → ℕ → ℕ → ℕ → List ℕ → ℕ → Type 0
IsZeroBefore rows cols width stride r buffer k =
    (c : ℕ) → c < cols → c / width < k → get_or buffer (byte_place rows width stride r c) 0 ≡ 0

module _ (rows cols width stride r k size start : ℕ) (buffer : List ℕ) (some : 0 < width) (narrow : size ≤ width) (inside : k * width + size ≤ cols) (all : (c : ℕ) → c < cols → c / width ≡ k → c % width < size)
    (place : start ≡ (k * rows + r) * stride) (ends : start + size ≤ length buffer) where
  -- and those of one piece more
  pub zero_more : IsZeroBefore rows cols width stride r buffer k
      → ((i : ℕ) → i < length (take (start + size - start) (drop start buffer)) → get_or (take (start + size - start) (drop start buffer)) i 0 ≡ 0)
      → IsZeroBefore rows cols width stride r buffer (k + 1)
  zero_more so_far zeros c p below = by_stripe (cases_eq (c / width) k)
    where
      by_stripe : ((c / width ≡ k) ⊎ (c / width ≡ k → ⊥)) → get_or buffer (byte_place rows width stride r c) 0 ≡ 0
      by_stripe (inl own) =
          let j : c % width < size = all c p own in
          ap (λ n. get_or buffer ((n * rows + r) * stride + c % width) 0) own ∙
          (ap (λ n. get_or buffer (n + c % width) 0) (sym place) ∙
          (sym (entry_of_piece buffer start size (c % width) j) ∙
          zeros (c % width) (subst (λ n. c % width < n) (sym (length_of_part buffer start size ends)) j)))
      by_stripe (inr other) = so_far c p (omega (arith, below, other))

  -- the stripe and the place in it of a byte of the piece
  stripe_of : (i : ℕ) → i < size → (k * width + i) / width ≡ k
  stripe_of i h =
      let above : (k * width + i) / width < k + 1 = (div-lt_iff_lt-mul some).1 (omega (arith, h, narrow)) in
      omega (arith, above, not_below (cases_lt ((k * width + i) / width) k))
    where
      not_below : (((k * width + i) / width < k) ⊎ (k ≤ (k * width + i) / width)) → k ≤ (k * width + i) / width
      not_below (inl below) = omega (arith, (div-lt_iff_lt-mul some).0 below)
      not_below (inr is) = is

  -- where the row is 0, so is its piece
  pub zeros_in : ((c : ℕ) → c < cols → get_or buffer (byte_place rows width stride r c) 0 ≡ 0)
      → (i : ℕ) → i < length (take (start + size - start) (drop start buffer)) → get_or (take (start + size - start) (drop start buffer)) i 0 ≡ 0
  zeros_in zeros i below =
      let h : i < size = subst (λ n. i < n) (length_of_part buffer start size ends) below in
      let column : (k * width + i) % width ≡ i = mul-add-mod_self_right k width i ∙ mod-eq_of_lt (omega (arith, h, narrow)) in
      let same : byte_place rows width stride r (k * width + i) ≡ start + i =
      ap (λ n. (n * rows + r) * stride + (k * width + i) % width) (stripe_of i h) ∙ (ap (λ n. (k * rows + r) * stride + n) column ∙ ap (λ n. n + i) (sym place)) in
      entry_of_piece buffer start size i h ∙ (sym (ap (λ n. get_or buffer n 0) same) ∙ zeros (k * width + i) (omega (arith, h, inside)))
