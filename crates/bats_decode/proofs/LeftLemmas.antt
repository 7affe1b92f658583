-- Where peeling leaves the symbols: their own rows, which with the rows left over are no more than all, and their columns.
use Rattle.std.proofs.Common.{ℕ, suc, ◌≡◌, ◌≢◌, ◌<◌, ◌≤◌, ◌+◌, ◌-◌, ◌∙◌, ◌⊎◌, inl, inr, cond, eqb, ltb, Bool, true, false, List, [], ◌∷◌, ◌++◌, length, get_or, map, take, sym, ap, refl, subst, arith}
use Rattle.std.specs.Prelude.{All, AllPairs, Contains, ◌%◌}
use Rattle.std.specs.List.{range_with_len, count_by}
use Rattle.std.proofs.Math.Seq.{get_or-append_seam}
use Rattle.std.proofs.lemmas.Bool.{cases_lt, ne_eqb, lt-ltb}
use Rattle.std.proofs.lemmas.List.{length-append}
use Rattle.std.proofs.lemmas.List.Elements.{All-nil, All-append, All-push, All-weaker, Contains-append_left, Contains-push}
use Rattle.std.proofs.lemmas.List.FromFn.{map-range_with_len_more}
use Rattle.std.proofs.lemmas.List.Kept.{AllPairs-cons}
use Rattle.std.proofs.lemmas.List.Quantifiers.{all_pairs_push}
use Rattle.std.proofs.lemmas.List.Sums.{sum_by-cons}
use Rattle.bats_model.specs.Session.{SessionData, IsPadded, symbols_of}
use Rattle.bats_model.specs.Peeling.{first_inactive}
use Rattle.bats_sampler.proofs.Unchosen.{length-unchosen}
use Rattle.bats_dense.specs.Reduced.{AreTargets}
use Rattle.bats_peel.specs.declared.peeled.Place.{Place}
use Rattle.bats_peel.specs.declared.peeled.Place.TheVariants.{Row as OwnRow, Column}
use Rattle.bats_peel.specs.declared.peeled.Peeled.{Peeled}
use Rattle.bats_peel.specs.Peeled.{columns_of, StandsAt, IsPlaced}
use Rattle.bats_peel.specs.Peeled.{place_of}
use Rattle.bats_decode.specs.declared.elimination.Origin.{Origin}
use Rattle.bats_decode.specs.steps.Left.{HaveOwnRows, HasSymbol, AreOwnRows, HaveColumns, origin_after}

-- ---- a place is a row or a column

abbrev row_left : Place → ℕ
row_left (OwnRow r) = r
row_left (Column j) = 0

abbrev is_own_row : Place → ℕ
is_own_row (OwnRow r) = 1
is_own_row (Column j) = 0

-- the one or the other
pub left_kind : (left : Place) → ((r : ℕ) × (left ≡ OwnRow r)) ⊎ ((j : ℕ) × (left ≡ Column j))
left_kind (OwnRow r) = inl (r, refl)
left_kind (Column j) = inr (j, refl)

-- and not both
pub no_row_at_column : (left : Place) (r j : ℕ) → left ≡ OwnRow r → left ≡ Column j → ⊥
no_row_at_column left r j own at =
    let bad : 1 ≡ 0 = ap is_own_row (sym own ∙ at) in
    absurd (omega (arith, bad))

-- ---- the rows of symbols, one symbol after another

pub AreOwnRows-none : (left : List Place) (rows : List ℕ) → rows ≡ [] → AreOwnRows 0 left rows
AreOwnRows-none left rows is =
    let none : AreOwnRows 0 left [] = record {
      are = All-nil (HasSymbol 0 left);
      each = λ s r h own. absurd (omega (arith, h));
      once = λ i j d before h. absurd (omega (arith, before, h));
    } in
    subst (AreOwnRows 0 left) (sym is) none

has_later : (s : ℕ) (left : List Place) (r : ℕ) → HasSymbol s left r → HasSymbol (s + 1) left r
has_later s left r has = record { symbol = has.symbol; within = omega (arith, has.within); at = has.at }

-- one more symbol, which has a row
pub AreOwnRows-row : (s n r : ℕ) (left : List Place) (rows after : List ℕ) → AreOwnRows s left rows → HaveOwnRows n left → s < n
    → place_of left s ≡ OwnRow r → after ≡ rows ++ r ∷ [] → AreOwnRows (s + 1) left after
AreOwnRows-row s n r left rows after state once within at is =
    let more : AreOwnRows (s + 1) left (rows ++ r ∷ []) = record {
      are = All-push (HasSymbol (s + 1) left) rows r
          (All-weaker (HasSymbol s left) (HasSymbol (s + 1) left) (has_later s left) rows state.are)
          (record { symbol = s; within = omega arith; at = at });
      each = λ u k h own. elim (cases_lt u s) [
        | inl before ↦ Contains-append_left rows (r ∷ []) k (state.each u k before own)
        | inr past ↦
            let e : u ≡ s = omega arith in
            let same : r ≡ k = ap row_left (sym at ∙ (ap (place_of left) (sym e) ∙ own)) in
            subst (Contains (rows ++ r ∷ [])) same (Contains-push rows r)
      ];
      once = all_pairs_push (λ a b. a ≢ b) rows r state.once
          (λ k d h e.
          let has : HasSymbol s left (get_or rows k d) = state.are k d h in
          let same : has.symbol ≡ s = once has.symbol s r (omega (arith, has.within, within)) within (has.at ∙ ap OwnRow e) at in
          absurd (omega (arith, has.within, same)));
    } in
    subst (AreOwnRows (s + 1) left) (sym is) more

-- one more symbol, which has a column
pub AreOwnRows-column : (s j : ℕ) (left : List Place) (rows after : List ℕ) → AreOwnRows s left rows → place_of left s ≡ Column j
    → after ≡ rows → AreOwnRows (s + 1) left after
AreOwnRows-column s j left rows after state at is =
    let more : AreOwnRows (s + 1) left rows = record {
      are = All-weaker (HasSymbol s left) (HasSymbol (s + 1) left) (has_later s left) rows state.are;
      each = λ u k h own. elim (cases_lt u s) [
        | inl before ↦ state.each u k before own
        | inr past ↦
            let e : u ≡ s = omega arith in
            absurd (no_row_at_column (place_of left s) k j (ap (place_of left) (sym e) ∙ own) at)
      ];
      once = state.once;
    } in
    subst (AreOwnRows (s + 1) left) (sym is) more

-- ---- the origins of symbols, one symbol after another

-- one more symbol
pub origins-more : (columns : List Origin) (left : List Place) (s : ℕ) (origin : Origin) (before after : List Origin)
    → after ≡ before ++ origin ∷ [] → origin ≡ origin_after columns (place_of left s)
    → before ≡ map (λ k. origin_after columns (place_of left k)) (range_with_len 0 s)
    → after ≡ map (λ k. origin_after columns (place_of left k)) (range_with_len 0 (s + 1))
origins-more columns left s origin before after more own so_far =
    more ∙ (ap (λ (p : Origin). before ++ p ∷ []) own ∙
    (ap (λ (ps : List Origin). ps ++ origin_after columns (place_of left s) ∷ []) so_far ∙
    sym (map-range_with_len_more (λ k. origin_after columns (place_of left k)) 0 s s (omega arith))))

-- by what was read
pub origins-read : (count symbols : ℕ) (read columns : List Origin) (left : List Place) (origins : List Origin) → count ≡ symbols → read ≡ columns
    → origins ≡ map (λ k. origin_after read (place_of left k)) (range_with_len 0 count)
    → origins ≡ map (λ k. origin_after columns (place_of left k)) (range_with_len 0 symbols)
origins-read count symbols read columns left origins e f h =
    subst (λ (n : ℕ). origins ≡ map (λ k. origin_after columns (place_of left k)) (range_with_len 0 n)) e
    (subst (λ (ps : List Origin). origins ≡ map (λ k. origin_after ps (place_of left k)) (range_with_len 0 count)) f h)

-- ---- distinct numbers are no more than the numbers that they are below

all-counted : (xs : List ℕ) (n : ℕ) → All (λ r. r < n) xs → count_by (λ c. ltb c n) xs ≡ length xs
all-counted [] n below = refl
all-counted (x ∷ xs) n below =
    let test : ltb x n ≡ true = lt-ltb x n (below 0 0 (omega arith)) in
    let one : cond {A = ℕ} (ltb x n) 1 0 ≡ 1 = rw test refl in
    let rest = all-counted xs n (λ k d h. below (suc k) d (omega (arith, h))) in
    omega (arith, sum_by-cons (λ c. cond (ltb c n) 1 0) x xs, one, rest)

distinct-count : (xs : List ℕ) (n : ℕ) → AllPairs (λ a b. a ≢ b) xs → All (λ r. r < n) xs → length xs ≤ n
distinct-count xs n distinct below = omega (arith, length-unchosen xs distinct n, all-counted xs n below)

-- two lists of distinct numbers, where none of the second is in the first
distinct-both : (xs ys : List ℕ) → AllPairs (λ a b. a ≢ b) xs → AllPairs (λ a b. a ≢ b) ys → All (λ r. ¬ Contains xs r) ys
    → AllPairs (λ a b. a ≢ b) (xs ++ ys)
distinct-both [] ys one other apart = other
distinct-both (x ∷ xs) ys one other apart =
    AllPairs-cons (λ a b. a ≢ b) x (xs ++ ys)
    (All-append (λ b. x ≢ b) xs ys (λ k d h. one 0 (suc k) d (omega arith) (omega (arith, h)))
    (λ k d h e. apart k d h (0, omega arith, e)))
    (distinct-both xs ys (λ i j d before h. one (suc i) (suc j) d (omega (arith, before)) (omega (arith, h))) other
    (λ k d h has. apart k d h (suc has.0, omega (arith, has.1), has.2)))

-- ---- the columns

rotated-length : (b : Bool) (s : ℕ) (list : List ℕ) → length (cond b (s ∷ list) (list ++ s ∷ [])) ≡ length (s ∷ list)
rotated-length true s list = refl
rotated-length false s list = omega (arith, length-append list (s ∷ []))

-- they are as many as the inactive symbols
pub length-columns_of : (session : SessionData) (list : List ℕ) → length (columns_of session list) ≡ length list
length-columns_of session [] = refl
length-columns_of session (s ∷ list) = rotated-length (eqb (session.file_length % session.t) 0) s list

-- the last element
abbrev pub LastIs : List ℕ → ℕ → Type 0
LastIs xs s = (j : ℕ) × (suc j ≡ length xs) × (get_or xs j 0 ≡ s)

last-moved : (session : SessionData) (list : List ℕ) (s : ℕ) → IsPadded session → take 1 list ≡ s ∷ [] → LastIs (columns_of session list) s
last-moved session [] s padded begins =
    let bad : 0 ≡ 1 = ap (λ (xs : List ℕ). length xs) begins in
    absurd (omega (arith, bad))
last-moved session (x ∷ list) s padded begins =
    let moved : columns_of session (x ∷ list) ≡ list ++ x ∷ [] =
    ap (λ (b : Bool). cond b (x ∷ list) (list ++ x ∷ [])) (ne_eqb (session.file_length % session.t) 0 padded) in
    let first : x ≡ s = ap (λ (xs : List ℕ). get_or xs 0 0) begins in
    let last : LastIs (list ++ x ∷ []) s =
    (length list, omega (arith, length-append list (x ∷ [])), get_or-append_seam list x [] 0 ∙ first) in
    subst (λ (xs : List ℕ). LastIs xs s) (sym moved) last

-- where the session is padded its last symbol is the last column
pub last-column : (session : SessionData) (list : List ℕ) (s : ℕ) → IsPadded session → suc s ≡ symbols_of session
    → take (length (first_inactive session)) list ≡ first_inactive session → LastIs (columns_of session list) s
last-column session list s padded last begins =
    let before : symbols_of session - 1 ≡ s = omega (arith, last) in
    let first : first_inactive session ≡ s ∷ [] =
    ap (λ (b : Bool). cond b [] ((symbols_of session - 1) ∷ [])) (ne_eqb (session.file_length % session.t) 0 padded)
    ∙ ap (λ (n : ℕ). n ∷ []) before in
    last-moved session list s padded (subst (λ (xs : List ℕ). take (length xs) list ≡ xs) first begins)

-- ---- what is reduced

module _ (session : SessionData) (rows : ℕ) (peeled : Peeled) (placed : IsPlaced session rows peeled) where
  -- a matrix column for each inactive symbol
  pub cols-inactive : peeled.rows.cols ≡ length peeled.inactive
  cols-inactive =
      placed.cols ∙ (ap (λ (xs : List ℕ). length xs) placed.columns ∙ length-columns_of session peeled.inactive)

  -- a symbol that is left in a row stands in one of the matrix
  pub row-within : (s r : ℕ) → s < symbols_of session → place_of peeled.places s ≡ OwnRow r → r < rows
  row-within s r h own =
      subst (λ (n : ℕ). r < n) placed.row_count (subst (StandsAt peeled s) own (placed.each s h))

  -- one that is left at a column has one of the columns
  pub at-column : (s j : ℕ) → s < symbols_of session → place_of peeled.places s ≡ Column j
      → (j < length peeled.columns) × (get_or peeled.columns j 0 ≡ s)
  at-column s j h at = subst (StandsAt peeled s) at (placed.each s h)

  pub HaveColumns-placed : (n count : ℕ) → n ≡ symbols_of session → count ≡ length peeled.columns → HaveColumns n count peeled.places
  HaveColumns-placed n count e f s j h at =
      subst (λ (k : ℕ). j < k) (sym f) (at-column s j (subst (λ (k : ℕ). s < k) e h) at).0

  pub HaveOwnRows-placed : (n : ℕ) → n ≡ symbols_of session → HaveOwnRows n peeled.places
  HaveOwnRows-placed n e s u r h w one other =
      placed.rows_once s u r (subst (λ (k : ℕ). s < k) e h) (subst (λ (k : ℕ). u < k) e w) one other

  module _ (others : List ℕ) (own : AreOwnRows (symbols_of session) peeled.places others) where
    others-within : All (λ r. r < rows) others
    others-within k d h =
        let has : HasSymbol (symbols_of session) peeled.places (get_or others k d) = own.are k d h in
        row-within has.symbol (get_or others k d) has.within has.at

    others-apart : All (λ r. ¬ Contains peeled.leftover r) others
    others-apart k d h has =
        let of : HasSymbol (symbols_of session) peeled.places (get_or others k d) = own.are k d h in
        placed.leftover_no_symbol of.symbol (get_or others k d) of.within of.at has

    pub AreTargets-left : AreTargets peeled.rows peeled.leftover others
    AreTargets-left = record {
      eqs_within = subst (λ (n : ℕ). All (λ r. r < n) peeled.leftover) (sym placed.row_count) placed.leftover_within;
      others_within = subst (λ (n : ℕ). All (λ r. r < n) others) (sym placed.row_count) others-within;
      distinct = placed.leftover_once;
      apart = others-apart;
    }

    -- together they are at most all rows
    pub targets-count : length peeled.leftover + length others ≤ rows
    targets-count =
        let both : length (peeled.leftover ++ others) ≤ rows =
        distinct-count (peeled.leftover ++ others) rows (distinct-both peeled.leftover others placed.leftover_once own.once others-apart)
        (All-append (λ r. r < rows) peeled.leftover others placed.leftover_within others-within) in
        omega (arith, length-append peeled.leftover others, both)
