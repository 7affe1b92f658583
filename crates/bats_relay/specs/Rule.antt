-- Rules: how many outputs a relay makes of a batch, by the batch's rank.
use Rattle.std.specs.Prelude.{ℕ, ◌≡◌, ◌≤◌, ◌+◌, ◌==◌, if◌then◌else◌, min}

-- the most that a rule answers, and the closure that answers
pub record RuleData (F : Type 0) : Type 0 where
  pub cap : ℕ
  pub closure : F

-- the rank of a batch, at most: packets of a batch
abbrev pub max_rank : ℕ
max_rank = 32

-- what a rule knows of its closure, by which it may be called on a rank (`pre`) and which it may answer there (`post`)
pub record IsRule {F : Type 0} (pre : F → ℕ → Type 0) (post : F → ℕ → ℕ → Type 0) (rule : RuleData F) : Type 0 where
  pub callable : (rank : ℕ) → rank ≤ max_rank → pre rule.closure rank
  pub capped : (rank answer : ℕ) → rank ≤ max_rank → post rule.closure rank answer → answer ≤ rule.cap
  pub none : (answer : ℕ) → post rule.closure 0 answer → answer ≡ 0

-- the same number of outputs of each batch
abbrev pub fixed_count : ℕ → ℕ → ℕ
fixed_count count rank = if rank == 0 then 0 else count

-- as many as its rank, m at most, and this number more
abbrev pub extra_count : ℕ → ℕ → ℕ → ℕ
extra_count m count rank = if rank == 0 then 0 else min rank m + count
