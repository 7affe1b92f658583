-- What holds of the contributors of a batch, and of the numbers that are drawn so far.
use Rattle.std.specs.Prelude.{ℕ, List, ◌≢◌, ◌≤◌, ◌<◌, length, slice_index}
use Rattle.std.specs.List.{All, AllPairs}
use Rattle.std.specs.List.Sorted.{IsPermutation, IsStrictlyIncreasing}

-- these numbers are distinct, and each is the number of a symbol
pub record AreContributors (symbols : ℕ) (numbers : List ℕ) : Type 0 where
  pub distinct : AllPairs (λ a b. a ≢ b) numbers
  pub below : All (λ s. s < symbols) numbers

-- `sorted` has the drawn numbers, rising
pub record AreSorted (drawn sorted : List ℕ) : Type 0 where
  pub rises : IsStrictlyIncreasing sorted
  pub same : IsPermutation drawn sorted

-- the first `index` of these numbers are below the number, and the others are above it
pub record Parts (numbers : List ℕ) (index number : ℕ) : Type 0 where
  pub within : index ≤ length numbers
  pub below : (k : ℕ) → k < index → slice_index numbers k < number
  pub above : (k : ℕ) → index ≤ k → k < length numbers → number < slice_index numbers k
