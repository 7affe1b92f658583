-- What holds of each batch of a session: the generator's entries are bytes, and the contributors are symbols.
use Rattle.std.proofs.Common.{Bool, true, false, cond, not, min, ℕ, zero, suc, ◌≡◌, ◌<◌, ◌≤◌, ◌+◌, ◌-◌, ◌*◌, ◌/◌, ◌%◌, ◌^◌, ◌==◌, List, [], ◌∷◌, ◌++◌, length, map, get_or, eqb, ltb, subst, sym, inl, inr, arith}
use Rattle.std.specs.List.{range_with_len, list_any, All}
use Rattle.std.proofs.lemmas.Bool.{cases_lt, cond_both}
use Rattle.std.proofs.lemmas.List.{get_or_past}
use Rattle.std.proofs.lemmas.List.Elements.{All-nil, All-push, All-map, All-filter}
use Rattle.std.proofs.lemmas.List.FromFn.{get_or-range_with_len, length-range_with_len}
use Rattle.gf_core.proofs.RowLemmas.{byte_at}
use Rattle.bats_model.specs.Bytes.{AreBytes}
use Rattle.bats_model.specs.Session.{SessionData, symbols_of}
use Rattle.bats_model.specs.Key.{key_word, key_byte, pick, batch_key}
use Rattle.bats_model.specs.DegreeTable.{degree_table, degree_at}
use Rattle.bats_model.specs.Batch.{BatchData, degree_of, contributor_of, entry_of, entries_by, identity_entry, unchosen, drawn, is_systematic_batch, systematic_batch_of, sampled_batch_of, batch_of}

-- ---- entries

entries_by-lt : (rows columns : ℕ) (entry : ℕ → ℕ → ℕ) → ((k j : ℕ) → entry k j < 256) → AreBytes (entries_by rows columns entry)
unfolding entries_by
entries_by-lt rows columns entry small =
    All-map (λ byte. byte < 256) (λ place. entry (place / columns) (place % columns)) (range_with_len 0 (rows * columns))
    (λ i d within. small (get_or (range_with_len 0 (rows * columns)) i d / columns) (get_or (range_with_len 0 (rows * columns)) i d % columns))

identity_entry-lt : (k j : ℕ) → identity_entry k j < 256
identity_entry-lt k j = cond_both (k == j) 1 0 (λ entry. entry < 256) (λ _. omega arith) (λ _. omega arith)

-- a byte of a key's words is a byte
pub key_byte-lt : (key : List ℕ) (i : ℕ) → key_byte key i < 256
unfolding key_byte
key_byte-lt key i = omega arith

entries_of_either : (b : Bool) (x y : BatchData) → AreBytes x.entries → AreBytes y.entries → AreBytes (cond b x y).entries
entries_of_either true x y p q = p
entries_of_either false x y p q = q

pub entries-batch_of : (session : SessionData) (number : ℕ) → AreBytes (batch_of session number).entries
unfolding batch_of systematic_batch_of sampled_batch_of
entries-batch_of session number =
    let key = batch_key session.seed number in
    let degree : ℕ = min (degree_at (degree_table session.table) (pick (key_word key 0) 1000)) (symbols_of session) in
    entries_of_either (is_systematic_batch session number) (systematic_batch_of session number) (sampled_batch_of session number)
    (entries_by-lt (min (symbols_of session) (number * session.m + session.m) - number * session.m) session.m identity_entry identity_entry-lt)
    (entries_by-lt degree session.m (λ k j. key_byte key (4 * (1 + degree) + (k * session.m + j)))
    (λ k j. key_byte-lt key (4 * (1 + degree) + (k * session.m + j))))

-- each entry of a batch is a byte
pub entry_of-lt : (session : SessionData) (number k j : ℕ) → entry_of (batch_of session number) k j < 256
entry_of-lt session number k j =
    byte_at (batch_of session number).entries (k * (batch_of session number).columns + j) (entries-batch_of session number)

-- ---- contributors

-- an unchosen number is below n
pub unchosen-lt : (n : ℕ) (chosen : List ℕ) → All (λ s. s < n) (unchosen n chosen)
unfolding unchosen
unchosen-lt n chosen =
    All-filter (λ s. not (list_any (λ x. eqb x s) chosen)) (λ s. s < n) (range_with_len 0 n)
    (λ k d within.
    let at = get_or-range_with_len 0 n k d (subst (λ m. k < m) (length-range_with_len 0 n) within) in
    let long = length-range_with_len 0 n in
    omega arith)

at-lt : (n : ℕ) (numbers : List ℕ) (place : ℕ) → 0 < n → All (λ s. s < n) numbers → get_or numbers place 0 < n
at-lt n numbers place some below = elim (cases_lt place (length numbers)) [
  | inl within ↦ below place 0 within
  | inr past ↦ omega (arith, get_or_past numbers place 0 past)
]

drawn-lt : (key : List ℕ) (symbols i : ℕ) → i ≤ symbols → All (λ s. s < symbols) (drawn key symbols i)
unfolding drawn
drawn-lt key symbols zero few = All-nil (λ s. s < symbols)
drawn-lt key symbols (suc i) few =
    let chosen : List ℕ = drawn key symbols i in
    let place : ℕ = pick (key_word key (1 + i)) (symbols - i) in
    All-push (λ s. s < symbols) chosen (get_or (unchosen symbols chosen) place 0) (drawn-lt key symbols i (omega arith))
    (at-lt symbols (unchosen symbols chosen) place (omega arith) (unchosen-lt symbols chosen))

systematic-lt : (symbols first m : ℕ) → All (λ s. s < symbols) (map (λ i. first + i) (range_with_len 0 (min symbols (first + m) - first)))
systematic-lt symbols first m =
    let degree : ℕ = min symbols (first + m) - first in
    All-map (λ s. s < symbols) (λ i. first + i) (range_with_len 0 degree)
    (λ k d within.
    let at = get_or-range_with_len 0 degree k d (subst (λ n. k < n) (length-range_with_len 0 degree) within) in
    let long = length-range_with_len 0 degree in
    omega arith)

contributors_of_either : (symbols : ℕ) (b : Bool) (x y : BatchData) → All (λ s. s < symbols) x.contributors
    → All (λ s. s < symbols) y.contributors → All (λ s. s < symbols) (cond b x y).contributors
contributors_of_either symbols true x y p q = p
contributors_of_either symbols false x y p q = q

pub contributors-batch_of : (session : SessionData) (number : ℕ) → All (λ s. s < symbols_of session) (batch_of session number).contributors
unfolding batch_of systematic_batch_of sampled_batch_of
contributors-batch_of session number =
    let key = batch_key session.seed number in
    let degree : ℕ = min (degree_at (degree_table session.table) (pick (key_word key 0) 1000)) (symbols_of session) in
    contributors_of_either (symbols_of session) (is_systematic_batch session number)
    (systematic_batch_of session number) (sampled_batch_of session number)
    (systematic-lt (symbols_of session) (number * session.m) session.m)
    (drawn-lt key (symbols_of session) degree (omega arith))

-- each contributor of a batch is the number of a symbol
pub contributor_of-lt : (session : SessionData) (number k : ℕ) → k < degree_of (batch_of session number)
    → contributor_of (batch_of session number) k < symbols_of session
contributor_of-lt session number k within = contributors-batch_of session number k 0 within
