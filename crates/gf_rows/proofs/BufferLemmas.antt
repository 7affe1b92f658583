-- A buffer that holds rows one after another: its rows, and what a write to one of them leaves.
use Rattle.std.proofs.Common.{ℕ, ◌≡◌, ◌≢◌, ◌<◌, ◌≤◌, ◌+◌, ◌-◌, ◌*◌, ◌⊎◌, inl, inr, ◌∙◌, List, [], ◌++◌, length, get_or, set, take, drop, replicate, sym, ap, subst, refl, arith, append_assoc, length-append, length-set, length-take, length-drop, length-take-le}
use Rattle.std.specs.Prelude.{All, slice_range}
use Rattle.std.proofs.Math.Nat.{mul-le-mul_right}
use Rattle.std.proofs.lemmas.Bool.{cases_eq, cases_lt}
use Rattle.std.proofs.lemmas.List.{append-nil, ext_get_or, take-take, length-replicate, get_or-replicate, get_or-take, get_or-drop, get_or-set_same, get_or-set_other, take-append-drop, take-append-le, take_at, drop_at, drop-append-le, drop-drop, set-append_left, set-append_right, take-replicate, drop-replicate, with_items_is}
use Rattle.std.proofs.lemmas.List.Elements.{All-from_get_or, All-take, All-drop, All-append}
use Rattle.std.proofs.lemmas.List.FromFn.{length-map-range_with_len, get_or-map-range_with_len}
use Rattle.std.specs.Prelude.{Vec}
use Rattle.std.specs.Vec.{with_items}
use borrow.Rule.Slice.PartMut.{put_mid}
use Rattle.gf_core.specs.Bytes.{AreBytes}
use Rattle.gf_core.specs.Rows.{scaled_row, add_scaled_row}
use Rattle.gf_rows.specs.Matrix.{rows_of, with_part}
use Rattle.gf_core.proofs.RowLemmas.{length-scaled_row, length-add_scaled_row, add_scaled_row-lt}

pub length-rows_of : (count width : ℕ) (bytes : List ℕ) → length (rows_of count width bytes) ≡ count
unfolding rows_of
length-rows_of count width bytes = length-map-range_with_len (λ r. take width (drop (r * width) bytes)) 0 count

pub get_or-rows_of : (count width : ℕ) (bytes : List ℕ) (r : ℕ) → r < count → get_or (rows_of count width bytes) r [] ≡ take width (drop (r * width) bytes)
unfolding rows_of
get_or-rows_of count width bytes r h = get_or-map-range_with_len (λ k. take width (drop (k * width) bytes)) 0 count r r [] h (omega arith)

pub length-part : (bytes : List ℕ) (at w : ℕ) → at + w ≤ length bytes → length (take w (drop at bytes)) ≡ w
length-part bytes at w h = length-take-le w (drop at bytes) (rw length-drop (omega arith))

-- a row ends within the buffer
pub row_within : (count width r n : ℕ) → n ≡ count * width → r < count → r * width + width ≤ n
row_within count width r n e h =
    let more : (r + 1) * width ≤ count * width = mul-le-mul_right width (omega arith) in
    omega (arith, more)

-- an entry of a row is a byte of the buffer
pub get_or-get_or-rows_of : (count width : ℕ) (bytes : List ℕ) (r c : ℕ) → r < count → c < width
    → get_or (get_or (rows_of count width bytes) r []) c 0 ≡ get_or bytes (r * width + c) 0
get_or-get_or-rows_of count width bytes r c h p =
    ap (λ row. get_or row c 0) (get_or-rows_of count width bytes r h) ∙
    (get_or-take width (drop (r * width) bytes) c 0 p ∙ get_or-drop (r * width) bytes c 0)

pub length-row_of : (count width : ℕ) (bytes : List ℕ) (r : ℕ) → length bytes ≡ count * width → r < count → length (get_or (rows_of count width bytes) r []) ≡ width
length-row_of count width bytes r e h =
    ap length (get_or-rows_of count width bytes r h) ∙
    length-take-le width (drop (r * width) bytes) (rw (length-drop) (let within = row_within count width r (length bytes) e h in omega (arith, within)))

pub widths_of_rows : (count width : ℕ) (bytes : List ℕ) → length bytes ≡ count * width → All (λ row. length row ≡ width) (rows_of count width bytes)
widths_of_rows count width bytes e =
    All-from_get_or (λ row. length row ≡ width) (rows_of count width bytes) []
    (λ r h. length-row_of count width bytes r e (rw (length-rows_of count width bytes) at h))

pub bytes_of_rows : (count width : ℕ) (bytes : List ℕ) → AreBytes bytes → All AreBytes (rows_of count width bytes)
bytes_of_rows count width bytes p =
    All-from_get_or AreBytes (rows_of count width bytes) []
    (λ r h. subst AreBytes (sym (get_or-rows_of count width bytes r (rw (length-rows_of count width bytes) at h)))
    (All-take (λ byte. byte < 256) width (drop (r * width) bytes) (All-drop (λ byte. byte < 256) (r * width) bytes p)))

-- what lies in the first part of two lists that begin alike
part_left : (xs ys zs : List ℕ) (n w : ℕ) → n + w ≤ length xs → take w (drop n (xs ++ ys)) ≡ take w (drop n (xs ++ zs))
part_left xs ys zs n w h =
    let fits : w ≤ length (drop n xs) = rw length-drop (omega arith) in
    ap (take w) (drop-append-le n xs ys (omega arith)) ∙
    (take-append-le w (drop n xs) ys fits ∙
    (sym (take-append-le w (drop n xs) zs fits) ∙ ap (take w) (sym (drop-append-le n xs zs (omega arith)))))

-- what lies past the first part of a list
drop_past : (xs zs : List ℕ) (n m : ℕ) → length xs ≡ n → drop (n + m) (xs ++ zs) ≡ drop m zs
drop_past xs zs n m e = sym (drop-drop m n (xs ++ zs)) ∙ ap (drop m) (drop_at xs zs n e)

-- a list and a part of it
pub split_part : (bytes : List ℕ) (at w : ℕ) → bytes ≡ take at bytes ++ (take w (drop at bytes) ++ drop (at + w) bytes)
split_part bytes at w =
    sym (take-append-drop at bytes) ∙
    ap (λ rest. take at bytes ++ rest) (sym (take-append-drop w (drop at bytes)) ∙ ap (λ rest. take w (drop at bytes) ++ rest) (drop-drop w at bytes))

length-front : (bytes : List ℕ) (at : ℕ) → at ≤ length bytes → length (take at bytes) ≡ at
length-front bytes at h = length-take-le at bytes h

pub length-with_part : (bytes : List ℕ) (at : ℕ) (part : List ℕ) → at + length part ≤ length bytes → length (with_part bytes at part) ≡ length bytes
unfolding with_part
length-with_part bytes at part h = simp (length-append, length-drop, length-take) (omega arith)

-- the part itself
part_same : (bytes : List ℕ) (at : ℕ) (part : List ℕ) (w : ℕ) → at ≤ length bytes → length part ≡ w → take w (drop at (with_part bytes at part)) ≡ part
unfolding with_part
part_same bytes at part w h e =
    ap (take w) (drop_at (take at bytes) (part ++ drop (at + length part) bytes) at (length-front bytes at h)) ∙
    take_at part (drop (at + length part) bytes) w e

-- before the part
part_before : (bytes : List ℕ) (at : ℕ) (part : List ℕ) (n w : ℕ) → n + w ≤ at → at ≤ length bytes → take w (drop n (with_part bytes at part)) ≡ take w (drop n bytes)
unfolding with_part
part_before bytes at part n w h l =
    part_left (take at bytes) (part ++ drop (at + length part) bytes) (drop at bytes) n w (rw (length-front bytes at l) h) ∙
    ap (λ xs. take w (drop n xs)) (take-append-drop at bytes)

-- past the part
part_past : (bytes : List ℕ) (at : ℕ) (part : List ℕ) (n : ℕ) → at + length part ≤ n → at + length part ≤ length bytes → drop n (with_part bytes at part) ≡ drop n bytes
unfolding with_part
part_past bytes at part n h l =
    let front : length (take at bytes ++ part) ≡ at + length part = length-append (take at bytes) part ∙ ap (λ k. k + length part) (length-front bytes at (omega arith)) in
    let place : at + length part + (n - (at + length part)) ≡ n = omega arith in
    ap (drop n) (sym (append_assoc (take at bytes) part (drop (at + length part) bytes))) ∙
    (ap (λ k. drop k (take at bytes ++ part ++ drop (at + length part) bytes)) (sym place) ∙
    (drop_past (take at bytes ++ part) (drop (at + length part) bytes) (at + length part) (n - (at + length part)) front ∙
    (drop-drop (n - (at + length part)) (at + length part) bytes ∙ ap (λ k. drop k bytes) place)))

-- another row in the buffer is another row in the list of rows
pub rows_of-with_part : (count width : ℕ) (bytes : List ℕ) (r : ℕ) (row : List ℕ) → length bytes ≡ count * width → r < count → length row ≡ width
    → rows_of count width (with_part bytes (r * width) row) ≡ set (rows_of count width bytes) r row
rows_of-with_part count width bytes r row e h l =
    ext_get_or [] (rows_of count width (with_part bytes (r * width) row)) (set (rows_of count width bytes) r row)
    (length-rows_of count width (with_part bytes (r * width) row) ∙ sym (length-set (rows_of count width bytes) r row ∙ length-rows_of count width bytes))
    (λ k p. at_row k (rw (length-rows_of count width (with_part bytes (r * width) row)) at p) (cases_eq k r))
  where
    within : r * width + width ≤ length bytes
    within = row_within count width r (length bytes) e h

    same_part : (k : ℕ) → ((k < r) ⊎ (r ≤ k)) → k ≢ r → take width (drop (k * width) (with_part bytes (r * width) row)) ≡ take width (drop (k * width) bytes)
    same_part k (inl below) other =
        let fits : k * width + width ≤ r * width = row_within r width k (r * width) refl below in
        part_before bytes (r * width) row (k * width) width fits (omega (arith, within))
    same_part k (inr above) other =
        let fits : r * width + width ≤ k * width = row_within k width r (k * width) refl (omega (arith, other)) in
        ap (take width) (part_past bytes (r * width) row (k * width) (omega (arith, l)) (omega (arith, within, l)))

    at_row : (k : ℕ) → k < count → ((k ≡ r) ⊎ (k ≡ r → ⊥)) → get_or (rows_of count width (with_part bytes (r * width) row)) k [] ≡ get_or (set (rows_of count width bytes) r row) k []
    at_row k p (inl here) =
        get_or-rows_of count width (with_part bytes (r * width) row) k p ∙
        (ap (λ n. take width (drop (n * width) (with_part bytes (r * width) row))) here ∙
        (part_same bytes (r * width) row width (omega (arith, within)) l ∙
        sym (ap (λ n. get_or (set (rows_of count width bytes) r row) n []) here ∙ get_or-set_same (rows_of count width bytes) r row [] (rw length-rows_of h))))
    at_row k p (inr other) =
        get_or-rows_of count width (with_part bytes (r * width) row) k p ∙
        (same_part k (cases_lt k r) other ∙
        sym (get_or-set_other (rows_of count width bytes) r k row [] other ∙ get_or-rows_of count width bytes k p))

pub AreBytes-with_part : (bytes : List ℕ) (at : ℕ) (part : List ℕ) → AreBytes bytes → AreBytes part → AreBytes (with_part bytes at part)
unfolding with_part
AreBytes-with_part bytes at part p q =
    All-append (λ byte. byte < 256) (take at bytes) (part ++ drop (at + length part) bytes) (All-take (λ byte. byte < 256) at bytes p)
    (All-append (λ byte. byte < 256) part (drop (at + length part) bytes) q (All-drop (λ byte. byte < 256) (at + length part) bytes p))

-- one byte written, as a part
pub set_as_part : (bytes : List ℕ) (at w c v : ℕ) → at + w ≤ length bytes → c < w → set bytes (at + c) v ≡ with_part bytes at (set (take w (drop at bytes)) c v)
unfolding with_part
set_as_part bytes at w c v h p =
    let front : length (take at bytes) ≡ at = length-front bytes at (omega arith) in
    let middle : length (take w (drop at bytes)) ≡ w = length-take-le w (drop at bytes) (rw length-drop (omega arith)) in
    let place : at + c - at ≡ c = omega arith in
    let size : at + w ≡ at + length (set (take w (drop at bytes)) c v) = ap (λ k. at + k) (sym (length-set (take w (drop at bytes)) c v ∙ middle)) in
    ap (λ xs. set xs (at + c) v) (split_part bytes at w) ∙
    (set-append_right (take at bytes) (take w (drop at bytes) ++ drop (at + w) bytes) at (at + c) v front (omega arith) ∙
    ap (λ rest. take at bytes ++ rest)
    (ap (λ k. set (take w (drop at bytes) ++ drop (at + w) bytes) k v) place ∙
    (set-append_left (take w (drop at bytes)) (drop (at + w) bytes) c v (omega (arith, middle)) ∙
    ap (λ k. set (take w (drop at bytes)) c v ++ drop k bytes) size)))

-- a part of the front of a buffer
pub with_part-front : (bytes : List ℕ) (n at : ℕ) (part : List ℕ) → at + length part ≤ n → n ≤ length bytes
    → with_part (take n bytes) at part ++ drop n bytes ≡ with_part bytes at part
unfolding with_part
with_part-front bytes n at part h l =
    append_assoc (take at (take n bytes)) (part ++ drop (at + length part) (take n bytes)) (drop n bytes) ∙
    (ap (λ front. front ++ (part ++ drop (at + length part) (take n bytes) ++ drop n bytes)) (take-take at n bytes (omega arith)) ∙
    ap (λ rest. take at bytes ++ rest)
    (append_assoc part (drop (at + length part) (take n bytes)) (drop n bytes) ∙
    ap (λ rest. part ++ rest)
    (sym (drop-append-le (at + length part) (take n bytes) (drop n bytes) (rw (length-front bytes n l) h)) ∙ ap (drop (at + length part)) (take-append-drop n bytes))))

-- a part at the start of the back of a buffer
pub with_part-back : (bytes : List ℕ) (n : ℕ) (part : List ℕ) → n ≤ length bytes → take n bytes ++ (part ++ drop (length part) (drop n bytes)) ≡ with_part bytes n part
unfolding with_part
with_part-back bytes n part h = ap (λ rest. take n bytes ++ (part ++ rest)) (drop-drop (length part) n bytes)

-- rows of zeros
pub rows_of-replicate : (count width : ℕ) → rows_of count width (replicate (count * width) 0) ≡ replicate count (replicate width 0)
rows_of-replicate count width =
    ext_get_or [] (rows_of count width (replicate (count * width) 0)) (replicate count (replicate width 0))
    (length-rows_of count width (replicate (count * width) 0) ∙ sym (length-replicate count (replicate width 0)))
    (λ r p. at_row r (rw (length-rows_of count width (replicate (count * width) 0)) at p))
  where
    at_row : (r : ℕ) → r < count → get_or (rows_of count width (replicate (count * width) 0)) r [] ≡ get_or (replicate count (replicate width 0)) r []
    at_row r p =
        let within : r * width + width ≤ count * width = row_within count width r (count * width) refl p in
        get_or-rows_of count width (replicate (count * width) 0) r p ∙
        (ap (take width) (drop-replicate (r * width) (count * width) 0) ∙
        (take-replicate width (count * width - r * width) 0 (omega arith) ∙ sym (get_or-replicate count r (replicate width 0) [] p)))

-- a write to a part of a buffer, as the code leaves it
pub put_mid-with_part : (bytes : List ℕ) (at w : ℕ) (part : List ℕ) → length part ≡ w → put_mid at w bytes part ≡ with_part bytes at part
unfolding with_part
put_mid-with_part bytes at w part e =
    ap (λ rest. take at bytes ++ (part ++ rest)) (drop-drop w at bytes ∙ ap (λ k. drop (at + k) bytes) (sym e))

-- a vector whose elements were written in place
pub items_of_part : {Z : Type 0} (v : Vec ℕ Z) (ws : List ℕ) (at : ℕ) (part : List ℕ) → ws ≡ with_part v.items at part → at + length part ≤ length v.items → (with_items v ws).items ≡ with_part v.items at part
items_of_part v ws at part e h =
    with_items_is v ws (ap length e ∙ (length-with_part v.items at part h ∙ sym v.ok.0)) ∙ e

-- two rows of a buffer don't meet
pub rows_apart : (width dst src : ℕ) → dst ≢ src → (dst * width + width ≤ src * width) ⊎ (src * width + width ≤ dst * width)
rows_apart width dst src other = by_order (cases_lt dst src)
  where
    by_order : ((dst < src) ⊎ (src ≤ dst)) → (dst * width + width ≤ src * width) ⊎ (src * width + width ≤ dst * width)
    by_order (inl below) = inl (row_within src width dst (src * width) refl below)
    by_order (inr above) = inr (row_within dst width src (dst * width) refl (omega (arith, other)))

-- a part of the front of a buffer is that part of the buffer
part_of_front : (bytes : List ℕ) (n at w : ℕ) → at + w ≤ n → n ≤ length bytes → take w (drop at (take n bytes)) ≡ take w (drop at bytes)
part_of_front bytes n at w h l =
    ap (λ xs. take w (drop at xs)) (sym (append-nil (take n bytes))) ∙
    (part_left (take n bytes) [] (drop n bytes) at w (rw (length-front bytes n l) h) ∙
    ap (λ xs. take w (drop at xs)) (take-append-drop n bytes))

less : (at w : ℕ) → at + w - at ≡ w
less at w = omega arith

ranges_are : (bytes : List ℕ) (w dst c src : ℕ) → add_scaled_row (slice_range bytes dst (dst + w)) c (slice_range bytes src (src + w)) ≡ add_scaled_row (take w (drop dst bytes)) c (take w (drop src bytes))
ranges_are bytes w dst c src =
    ap (λ n. add_scaled_row (take n (drop dst bytes)) c (slice_range bytes src (src + w))) (less dst w) ∙
    ap (λ n. add_scaled_row (take w (drop dst bytes)) c (take n (drop src bytes))) (less src w)

-- a row of the front, to which a row of the back was added
pub add_scaled_in_front : (bytes front back new : List ℕ) (w dst c src : ℕ) → front ≡ take src bytes → back ≡ drop src bytes → dst + w ≤ src → src + w ≤ length bytes
    → new ≡ add_scaled_row (take (dst + w - dst) (drop dst front)) c (take w back)
    → put_mid dst (dst + w - dst) front new ++ back ≡ with_part bytes dst (add_scaled_row (slice_range bytes dst (dst + w)) c (slice_range bytes src (src + w)))
add_scaled_in_front bytes front back new w dst c src ef eb h l en =
    let part : List ℕ = add_scaled_row (take w (drop dst bytes)) c (take w (drop src bytes)) in
    let new_is : new ≡ part =
    en ∙ (ap (λ n. add_scaled_row (take n (drop dst front)) c (take w back)) (less dst w) ∙
    (ap (λ xs. add_scaled_row (take w (drop dst xs)) c (take w back)) ef ∙
    (ap (λ xs. add_scaled_row xs c (take w back)) (part_of_front bytes src dst w h (omega arith)) ∙
    ap (λ xs. add_scaled_row (take w (drop dst bytes)) c (take w xs)) eb))) in
    let size : length part ≡ w = length-add_scaled_row (take w (drop dst bytes)) c (take w (drop src bytes)) ∙ length-part bytes dst w (omega arith) in
    ap (λ n. put_mid dst n front new ++ back) (less dst w) ∙
    (ap (λ xs. put_mid dst w xs new ++ back) ef ∙
    (ap (λ xs. put_mid dst w (take src bytes) xs ++ back) new_is ∙
    (ap (λ xs. put_mid dst w (take src bytes) part ++ xs) eb ∙
    (ap (λ xs. xs ++ drop src bytes) (put_mid-with_part (take src bytes) dst w part size) ∙
    (with_part-front bytes src dst part (omega (arith, size)) (omega arith) ∙
    ap (with_part bytes dst) (sym (ranges_are bytes w dst c src)))))))

-- a row at the start of the back, to which a row of the front was added
pub add_scaled_in_back : (bytes front back new : List ℕ) (w dst c src : ℕ) → front ≡ take dst bytes → back ≡ drop dst bytes → src + w ≤ dst → dst + w ≤ length bytes
    → new ≡ add_scaled_row (take w back) c (take (src + w - src) (drop src front))
    → front ++ (new ++ drop w back) ≡ with_part bytes dst (add_scaled_row (slice_range bytes dst (dst + w)) c (slice_range bytes src (src + w)))
add_scaled_in_back bytes front back new w dst c src ef eb h l en =
    let part : List ℕ = add_scaled_row (take w (drop dst bytes)) c (take w (drop src bytes)) in
    let new_is : new ≡ part =
    en ∙ (ap (λ n. add_scaled_row (take w back) c (take n (drop src front))) (less src w) ∙
    (ap (λ xs. add_scaled_row (take w back) c (take w (drop src xs))) ef ∙
    (ap (add_scaled_row (take w back) c) (part_of_front bytes dst src w h (omega arith)) ∙
    ap (λ xs. add_scaled_row (take w xs) c (take w (drop src bytes))) eb))) in
    let size : length part ≡ w = length-add_scaled_row (take w (drop dst bytes)) c (take w (drop src bytes)) ∙ length-part bytes dst w l in
    ap (λ xs. xs ++ (new ++ drop w back)) ef ∙
    (ap (λ xs. take dst bytes ++ (xs ++ drop w back)) new_is ∙
    (ap (λ xs. take dst bytes ++ (part ++ drop w xs)) eb ∙
    (ap (λ n. take dst bytes ++ (part ++ drop n (drop dst bytes))) (sym size) ∙
    (with_part-back bytes dst part (omega arith) ∙
    ap (with_part bytes dst) (sym (ranges_are bytes w dst c src))))))

-- the same for a slice that is the buffer
pub add_scaled_in_slice : (bytes slice ws : List ℕ) (w dst c src : ℕ) → slice ≡ bytes
    → ws ≡ with_part slice dst (add_scaled_row (slice_range slice dst (dst + w)) c (slice_range slice src (src + w)))
    → ws ≡ with_part bytes dst (add_scaled_row (take w (drop dst bytes)) c (take w (drop src bytes)))
add_scaled_in_slice bytes slice ws w dst c src e is =
    is ∙ (ap (with_part slice dst) (ranges_are slice w dst c src) ∙
    ap (λ xs. with_part xs dst (add_scaled_row (take w (drop dst xs)) c (take w (drop src xs)))) e)

-- a row of a slice that is the buffer, which was scaled
pub scaled_in_slice : (bytes slice new : List ℕ) (w at c : ℕ) → slice ≡ bytes → at + w ≤ length bytes → new ≡ scaled_row c (take (at + w - at) (drop at slice))
    → put_mid at (at + w - at) slice new ≡ with_part bytes at (scaled_row c (take w (drop at bytes)))
scaled_in_slice bytes slice new w at c e h en =
    let part : List ℕ = scaled_row c (take w (drop at bytes)) in
    let new_is : new ≡ part =
    en ∙ (ap (λ n. scaled_row c (take n (drop at slice))) (less at w) ∙ ap (λ xs. scaled_row c (take w (drop at xs))) e) in
    ap (λ n. put_mid at n slice new) (less at w) ∙
    (ap (λ xs. put_mid at w xs new) e ∙
    (ap (put_mid at w bytes) new_is ∙
    put_mid-with_part bytes at w part (length-scaled_row c (take w (drop at bytes)) ∙ length-part bytes at w h)))

-- a row of a slice that is the buffer, which was written whole
pub written_in_slice : (bytes slice new row : List ℕ) (w at : ℕ) → slice ≡ bytes → new ≡ row → length row ≡ w → put_mid at (at + w - at) slice new ≡ with_part bytes at row
written_in_slice bytes slice new row w at e en size =
    ap (λ n. put_mid at n slice new) (less at w) ∙ (ap (λ xs. put_mid at w xs new) e ∙ (ap (put_mid at w bytes) en ∙ put_mid-with_part bytes at w row size))

-- a vector of rows, one of which got a multiple of another
pub items_of_add_scaled : {Z : Type 0} (v : Vec ℕ Z) (slice ws : List ℕ) (w dst c src : ℕ) → slice ≡ v.items → dst + w ≤ length v.items
    → ws ≡ with_part slice dst (add_scaled_row (slice_range slice dst (dst + w)) c (slice_range slice src (src + w)))
    → (with_items v ws).items ≡ with_part v.items dst (add_scaled_row (take w (drop dst v.items)) c (take w (drop src v.items)))
items_of_add_scaled v slice ws w dst c src e h is =
    let size = length-add_scaled_row (take w (drop dst v.items)) c (take w (drop src v.items)) in
    let part = length-part v.items dst w h in
    items_of_part v ws dst (add_scaled_row (take w (drop dst v.items)) c (take w (drop src v.items)))
    (add_scaled_in_slice v.items slice ws w dst c src e is) (omega (arith, h, size, part))

-- its bytes
pub AreBytes-add_scaled : (bytes : List ℕ) (w dst c src : ℕ) → AreBytes bytes → AreBytes (with_part bytes dst (add_scaled_row (take w (drop dst bytes)) c (take w (drop src bytes))))
AreBytes-add_scaled bytes w dst c src p =
    AreBytes-with_part bytes dst (add_scaled_row (take w (drop dst bytes)) c (take w (drop src bytes))) p
    (add_scaled_row-lt (take w (drop dst bytes)) c (take w (drop src bytes)) (part_of dst) (part_of src))
  where
    part_of : (at : ℕ) → AreBytes (take w (drop at bytes))
    part_of at = All-take (λ byte. byte < 256) w (drop at bytes) (All-drop (λ byte. byte < 256) at bytes p)
