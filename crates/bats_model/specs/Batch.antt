-- The batch of a number: its contributors among the symbols, and its generator. After Yang and Yeung, Batched
-- Sparse Codes (2014); the keys, the draws and the systematic batches are this project's own.
use Rattle.std.specs.Prelude.{ℕ, ◌≡◌, ◌≤◌, zero, suc, ◌+◌, ◌-◌, ◌*◌, ◌/◌, ◌%◌, ◌==◌, ◌&&◌, min, not, nat_lt, if◌then◌else◌, List, [], ◌∷◌, ◌++◌, map, filter, slice_index, Option, Some, None, Bool, length}
use Rattle.std.specs.List.{range_with_len, list_any}
use Rattle.bats_model.specs.Session.{SessionData, symbols_of}
use Rattle.bats_model.specs.Key.{key_word, key_byte, pick, batch_key}
use Rattle.bats_model.specs.DegreeTable.{degree_table, degree_at}

-- a batch: its number, the columns of its generator, its contributors, and the generator's entries, row after
-- row, with one row a contributor
pub record BatchData : Type 0 where
  pub number : ℕ
  pub columns : ℕ
  pub contributors : List ℕ
  pub entries : List ℕ

-- the generator has its one row a contributor, and the numbers are within the limits
pub record IsBatch (batch : BatchData) : Type 0 where
  pub columns_low : 1 ≤ batch.columns
  pub columns_high : batch.columns ≤ 32
  pub degree : length batch.contributors ≤ 128
  pub entries : length batch.entries ≡ length batch.contributors * batch.columns

-- the degree of a batch: the number of its contributors
abbrev pub degree_of : BatchData → ℕ
degree_of batch = length batch.contributors

-- contributor k of a batch, a symbol by its number
abbrev pub contributor_of : BatchData → ℕ → ℕ
contributor_of batch k = slice_index batch.contributors k

-- the entry in row k and column j of the generator
abbrev pub entry_of : BatchData → ℕ → ℕ → ℕ
entry_of batch k j = slice_index batch.entries (k * batch.columns + j)

-- the entries of a generator, row after row, that has this entry in each row and column
unfoldable pub entries_by : ℕ → ℕ → (ℕ → ℕ → ℕ) → List ℕ
entries_by rows columns entry =
    map (λ place. entry (place / columns) (place % columns)) (range_with_len 0 (rows * columns))

-- the identity's entry: 1 where row and column have the same number, else 0
abbrev pub identity_entry : ℕ → ℕ → ℕ
identity_entry k j = if k == j then 1 else 0

-- the systematic batch of this number: its contributors are the next m symbols, or those that are left, and coded
-- packet j is contributor j
unfoldable pub systematic_batch_of : SessionData → ℕ → BatchData
systematic_batch_of session number =
    let first = number * session.m in
    let degree = min (symbols_of session) (first + session.m) - first in
    record {
      number = number;
      columns = session.m;
      contributors = map (λ i. first + i) (range_with_len 0 degree);
      entries = entries_by degree session.m identity_entry;
    }

-- the session is systematic, and its symbols reach to the batch of this number
abbrev pub is_systematic_batch : SessionData → ℕ → Bool
is_systematic_batch session number = session.systematic && nat_lt (number * session.m) (symbols_of session)

-- the systematic batch of this number, where there is one
unfoldable pub unit_batch_of : SessionData → ℕ → Option BatchData
unit_batch_of session number =
    if is_systematic_batch session number then Some (systematic_batch_of session number) else None

-- the numbers below n that are not among the chosen, rising
unfoldable pub unchosen : ℕ → List ℕ → List ℕ
unchosen n chosen = filter (λ s. not (list_any (λ x. x == s) chosen)) (range_with_len 0 n)

-- the first `count` contributors that a key draws among the symbols: word 1 + i picks contributor i among the
-- numbers that are not chosen yet
unfoldable pub drawn : List ℕ → ℕ → ℕ → List ℕ
drawn key symbols zero = []
drawn key symbols (suc i) =
    let chosen = drawn key symbols i in
    chosen ++ slice_index (unchosen symbols chosen) (pick (key_word key (1 + i)) (symbols - i)) ∷ []

-- the sampled batch of this number: word 0 of its key draws the degree, which is at most the number of symbols;
-- the words after it draw the contributors, and the bytes of the words after those are the entries
unfoldable pub sampled_batch_of : SessionData → ℕ → BatchData
sampled_batch_of session number =
    let key = batch_key session.seed number in
    let drawn_degree = degree_at (degree_table session.table) (pick (key_word key 0) 1000) in
    let degree = min drawn_degree (symbols_of session) in
    record {
      number = number;
      columns = session.m;
      contributors = drawn key (symbols_of session) degree;
      entries = entries_by degree session.m
          (λ k j. key_byte key (4 * (1 + degree) + (k * session.m + j)));
    }

-- the batch of this number: the systematic one, where the session has one of this number, else the sampled one
unfoldable pub batch_of : SessionData → ℕ → BatchData
batch_of session number =
    if is_systematic_batch session number then systematic_batch_of session number else sampled_batch_of session number
