-- Which batches are systematic.
use Rattle.std.proofs.Common.{Bool, cond, ℕ, ◌≡◌, ◌*◌, ◌<◌, ◌≤◌, true, false, Some, None, ◌∙◌, ap, refl, ◌-◌, ◌+◌, min, map, length, List, arith, rules}
use Rattle.std.specs.List.{range_with_len}
use Rattle.std.proofs.lemmas.Bool.Decides.{nat_tests}
use Rattle.std.proofs.lemmas.List.FromFn.{length-map-range_with_len}
use Rattle.bats_model.specs.Session.{SessionData, symbols_of}
use Rattle.bats_model.specs.Batch.{BatchData, unit_batch_of, is_systematic_batch, systematic_batch_of, sampled_batch_of, batch_of, entries_by, identity_entry, IsBatch}

pub is_systematic_batch-not_systematic : (s : SessionData) (n : ℕ) → s.systematic ≡ false → is_systematic_batch s n ≡ false
is_systematic_batch-not_systematic s n h = rw h refl

pub is_systematic_batch-past : (s : SessionData) (n : ℕ) → symbols_of s ≤ n * s.m → is_systematic_batch s n ≡ false
is_systematic_batch-past s n h = grind (arith, nat_tests, rules)

pub is_systematic_batch-within : (s : SessionData) (n : ℕ) → s.systematic ≡ true → n * s.m < symbols_of s → is_systematic_batch s n ≡ true
is_systematic_batch-within s n h k = grind (arith, nat_tests, rules)

pub unit_batch_of-none : (s : SessionData) (n : ℕ) → is_systematic_batch s n ≡ false → unit_batch_of s n ≡ None
unfolding unit_batch_of
unit_batch_of-none s n h = rw h refl

pub unit_batch_of-some : (s : SessionData) (n : ℕ) → is_systematic_batch s n ≡ true → unit_batch_of s n ≡ Some (systematic_batch_of s n)
unfolding unit_batch_of
unit_batch_of-some s n h = rw h refl

-- where there is a systematic batch, it is the batch of the number
pub batch_of-systematic : (s : SessionData) (n : ℕ) → is_systematic_batch s n ≡ true → batch_of s n ≡ systematic_batch_of s n
unfolding batch_of
batch_of-systematic s n h = rw h refl

-- the parts of the systematic batch of a number
pub systematic_batch_of-parts : (s : SessionData) (n first degree columns : ℕ) (contributors entries : List ℕ)
    → first ≡ n * s.m → degree ≡ min (symbols_of s) (first + s.m) - first → columns ≡ s.m
    → contributors ≡ map (λ i. first + i) (range_with_len 0 degree) → entries ≡ entries_by degree columns identity_entry
    → systematic_batch_of s n ≡ record { number = n; columns = columns; contributors = contributors; entries = entries }
unfolding systematic_batch_of
systematic_batch_of-parts s n first degree columns contributors entries f d k cs es = rw (cs, es, d, k, f) refl

-- such parts are within the limits
pub IsBatch-systematic : (n first degree columns : ℕ) (contributors entries : List ℕ)
    → 1 ≤ columns → columns ≤ 32 → degree ≤ columns
    → contributors ≡ map (λ i. first + i) (range_with_len 0 degree) → entries ≡ entries_by degree columns identity_entry
    → IsBatch (record { number = n; columns = columns; contributors = contributors; entries = entries })
unfolding entries_by
IsBatch-systematic n first degree columns contributors entries low high d cs es =
    let count : length contributors ≡ degree = ap length cs ∙ length-map-range_with_len (λ i. first + i) 0 degree in
    let size : length entries ≡ degree * columns = ap length es ∙ length-map-range_with_len _ 0 (degree * columns) in
    record {
      columns_low = low;
      columns_high = high;
      degree = omega arith;
      entries = rw (size, count) refl;
    }

columns_of_either : (b : Bool) (x y : BatchData) (m : ℕ) → x.columns ≡ m → y.columns ≡ m → (cond b x y).columns ≡ m
columns_of_either true x y m p q = p
columns_of_either false x y m p q = q

-- each batch of a session has m columns
pub columns-batch_of : (s : SessionData) (n : ℕ) → (batch_of s n).columns ≡ s.m
unfolding batch_of systematic_batch_of sampled_batch_of
columns-batch_of s n = columns_of_either (is_systematic_batch s n) _ _ s.m refl refl

number_of_either : (b : Bool) (x y : BatchData) (n : ℕ) → x.number ≡ n → y.number ≡ n → (cond b x y).number ≡ n
number_of_either true x y n p q = p
number_of_either false x y n p q = q

-- the batch of a number has that number
pub number-batch_of : (s : SessionData) (n : ℕ) → (batch_of s n).number ≡ n
unfolding batch_of systematic_batch_of sampled_batch_of
number-batch_of s n = number_of_either (is_systematic_batch s n) _ _ n refl refl
