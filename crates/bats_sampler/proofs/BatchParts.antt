-- Which batch a number has, and the parts of a sampled one.
use Rattle.std.proofs.Common.{Bool, true, false, cond, ℕ, ◌≡◌, ◌≤◌, ◌+◌, ◌*◌, min, Some, None, List, length, refl, ap, ◌∙◌, arith}
use Rattle.bats_model.specs.Session.{SessionData, symbols_of}
use Rattle.bats_model.specs.Key.{key_word, pick, seeded_key, batch_key}
use Rattle.bats_model.specs.DegreeTable.{degree_table, degree_at}
use Rattle.bats_model.specs.Batch.{BatchData, IsBatch, unit_batch_of, is_systematic_batch, systematic_batch_of, sampled_batch_of, batch_of, drawn}
use Rattle.bats_sampler.specs.Words.{bytes_from}
use Rattle.bats_sampler.proofs.KeyLemmas.{entries-of_bytes, length-bytes_from}
use Rattle.bats_sampler.proofs.DistinctContributors.{length-drawn}

found : (b : Bool) (x y z : BatchData) → Some z ≡ cond b (Some x) None → z ≡ cond b x y
found true x y z h = cc
found false x y z h = absurd cc

not_found : (b : Bool) (x y : BatchData) → None ≡ cond b (Some x) None → y ≡ cond b x y
not_found true x y h = absurd cc
not_found false x y h = refl

pub batch_of-found : (s : SessionData) (n : ℕ) (batch : BatchData) → Some batch ≡ unit_batch_of s n
    → batch ≡ batch_of s n
unfolding unit_batch_of batch_of
batch_of-found s n batch h =
    found (is_systematic_batch s n) (systematic_batch_of s n) (sampled_batch_of s n) batch h

pub batch_of-not_found : (s : SessionData) (n : ℕ) → None ≡ unit_batch_of s n → sampled_batch_of s n ≡ batch_of s n
unfolding unit_batch_of batch_of
batch_of-not_found s n h = not_found (is_systematic_batch s n) (systematic_batch_of s n) (sampled_batch_of s n) h

pub sampled_batch_of-parts : (s : SessionData) (n degree : ℕ) (key contributors entries : List ℕ)
    → 1 ≤ s.m → key ≡ seeded_key s.seed n 0 0
    → degree ≡ min (degree_at (degree_table s.table) (pick (key_word key 0) 1000)) (symbols_of s)
    → contributors ≡ drawn key (symbols_of s) degree
    → entries ≡ bytes_from key (4 * (1 + degree)) (degree * s.m)
    → record { number = n; columns = s.m; contributors = contributors; entries = entries } ≡ sampled_batch_of s n
unfolding sampled_batch_of batch_key
sampled_batch_of-parts s n degree key contributors entries some k d cs es =
    let all = es ∙ entries-of_bytes key (4 * (1 + degree)) degree s.m some in
    rw (all, cs, d, k) refl

-- such parts are within the limits
pub IsBatch-sampled : (n degree symbols columns : ℕ) (key contributors entries : List ℕ)
    → 1 ≤ columns → columns ≤ 32 → degree ≤ 128 → contributors ≡ drawn key symbols degree
    → entries ≡ bytes_from key (4 * (1 + degree)) (degree * columns)
    → IsBatch (record { number = n; columns = columns; contributors = contributors; entries = entries })
IsBatch-sampled n degree symbols columns key contributors entries low high few cs es =
    let count : length contributors ≡ degree = ap length cs ∙ length-drawn key symbols degree in
    let size : length entries ≡ degree * columns = ap length es ∙ length-bytes_from key _ (degree * columns) in
    record {
      columns_low = low;
      columns_high = high;
      degree = omega arith;
      entries = rw (size, count) refl;
    }
