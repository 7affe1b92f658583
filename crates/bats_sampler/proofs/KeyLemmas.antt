-- Keys, and what their words pick.
use Rattle.std.proofs.Common.{ℕ, ◌≡◌, ◌<◌, ◌≤◌, ◌+◌, ◌*◌, ◌/◌, ◌%◌, ◌^◌, List, [], ◌∷◌, ◌++◌, length, get_or, map, refl, sym, ap, ◌∙◌, arith, append_assoc}
use Rattle.std.specs.Prelude.{replicate}
use Rattle.std.specs.Int.{w32, to_be_bytes}
use Rattle.std.specs.List.{range_with_len}
use Rattle.std.proofs.Math.Nat.{mod-lt}
use Rattle.std.proofs.Math.Nat as nat
use Rattle.std.proofs.lemmas.List.FromFn.{fill_by_all, length-map-range_with_len, get_or-map-range_with_len, map-range_with_len_more}
use Rattle.rand_chacha.specs.Block.{block_word}
use Rattle.bats_model.specs.Key.{key_word, key_byte, seeded_key, pick}
use Rattle.bats_model.specs.Batch.{entries_by}
use Rattle.bats_sampler.specs.Words.{bytes_from}

zero-more : (k : ℕ) → 0 + k ≡ k
zero-more k = omega arith

whole : (k m : ℕ) → 1 ≤ m → k ≡ k / m * m + k % m
whole k m some = omega arith

-- a word of a key is below 2^32
pub key_word-small : (key : List ℕ) (i : ℕ) → key_word key i < 2 ^ 32
unfolding key_word block_word
key_word-small key i = mod-lt _ (omega arith)

-- a word picks one of the numbers below n
pub pick-below : (word n : ℕ) → word < 2 ^ 32 → 0 < n → pick word n < n
pick-below word n small some =
    let low : word * n < 2 ^ 32 * n = nat.mul-lt-mul_of_pos_right small some in
    omega arith

-- one byte more
pub bytes_from-more : (key : List ℕ) (first i word byte : ℕ) (bytes after : List ℕ)
    → bytes ≡ bytes_from key (4 * first) i → word ≡ key_word key (first + i / 4)
    → byte ≡ word / 256 ^ (i % 4) % 256 → after ≡ bytes ++ byte ∷ [] → after ≡ bytes_from key (4 * first) (i + 1)
unfolding bytes_from key_byte
bytes_from-more key first i word byte bytes after so_far is part new =
    let quotient : (4 * first + i) / 4 ≡ first + i / 4 = omega arith in
    let rest : (4 * first + i) % 4 ≡ i % 4 = omega arith in
    let here : key_byte key (4 * first + i) ≡ byte = rw (quotient, rest, ← is, ← part) refl in
    new ∙ ap (λ xs. xs ++ byte ∷ []) so_far
    ∙ ap (λ x. map (λ n. key_byte key (4 * first + n)) (range_with_len 0 i) ++ x ∷ []) (sym here)
    ∙ sym (map-range_with_len_more (λ n. key_byte key (4 * first + n)) 0 i i (omega arith))

pub bytes_from-none : (key : List ℕ) (first : ℕ) → bytes_from key first 0 ≡ []
unfolding bytes_from
bytes_from-none key first = refl

pub length-bytes_from : (key : List ℕ) (first count : ℕ) → length (bytes_from key first count) ≡ count
unfolding bytes_from
length-bytes_from key first count = length-map-range_with_len (λ n. key_byte key (first + n)) 0 count

-- bytes one after the other are the entries of a generator, row after row
pub entries-of_bytes : (key : List ℕ) (first rows columns : ℕ) → 1 ≤ columns
    → bytes_from key first (rows * columns) ≡ entries_by rows columns (λ k j. key_byte key (first + (k * columns + j)))
unfolding bytes_from entries_by
entries-of_bytes key first rows columns some =
    fill_by_all (λ place. key_byte key (first + (place / columns * columns + place % columns)))
    (map (λ n. key_byte key (first + n)) (range_with_len 0 (rows * columns))) (rows * columns) 0
    (length-map-range_with_len (λ n. key_byte key (first + n)) 0 (rows * columns))
    (λ k lt. get_or-map-range_with_len (λ n. key_byte key (first + n)) 0 (rows * columns) k k 0 lt (omega arith)
    ∙ ap (λ n. key_byte key (first + n)) (whole k columns some))

-- from byte 0 on
pub bytes_from-start : (key : List ℕ) (count : ℕ)
    → bytes_from key 0 count ≡ map (λ i. key_byte key i) (range_with_len 0 count)
unfolding bytes_from
bytes_from-start key count =
    fill_by_all (λ i. key_byte key i) (map (λ n. key_byte key (0 + n)) (range_with_len 0 count)) count 0
    (length-map-range_with_len (λ n. key_byte key (0 + n)) 0 count)
    (λ k lt. get_or-map-range_with_len (λ n. key_byte key (0 + n)) 0 count k k 0 lt (omega arith)
    ∙ ap (λ n. key_byte key n) (zero-more k))

regroup : (a b c d : List ℕ) → ((a ++ b) ++ c) ++ d ≡ a ++ (b ++ (c ++ d))
regroup a b c d = simp append_assoc

-- the parts of a key
pub seeded_key-parts : (copy seed a b : List ℕ) (first kind second : ℕ) → copy ≡ seed
    → a ≡ to_be_bytes w32 first → b ≡ to_be_bytes w32 second
    → copy ++ (get_or a 0 0 ∷ get_or a 1 0 ∷ get_or a 2 0 ∷ get_or a 3 0 ∷ kind
    ∷ get_or b 0 0 ∷ get_or b 1 0 ∷ get_or b 2 0 ∷ get_or b 3 0 ∷ replicate 7 0)
    ≡ seeded_key seed first kind second
unfolding seeded_key
seeded_key-parts copy seed a b first kind second same one two =
    rw (same, one, two)
    (sym (regroup seed (to_be_bytes w32 first) (kind ∷ to_be_bytes w32 second) (replicate 7 0)))
