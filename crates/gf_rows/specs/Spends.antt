-- What is said of a counter.
use Rattle.std.specs.Prelude.{ℕ, ◌≤◌, ◌+◌}

-- the counter rises, by at most so much
pub record Spends (old new most : ℕ) : Type 0 where
  pub rises : old ≤ new
  pub within : new ≤ old + most
