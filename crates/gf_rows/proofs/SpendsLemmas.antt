-- Counters that rise, by at most so much.
use Rattle.std.proofs.Common.{ℕ, ◌≡◌, ◌<◌, ◌≤◌, ◌+◌, arith}
use Rattle.gf_rows.specs.Spends.{Spends}

-- nothing is counted
pub Spends-none : (count most : ℕ) → Spends count count most
Spends-none count most = record { rises = omega arith; within = omega arith }

-- so much is counted
pub Spends-by : {old new : ℕ} (by most : ℕ) → new ≡ old + by → by ≤ most → Spends old new most
Spends-by by most is few = record { rises = omega (arith, is); within = omega (arith, is, few) }

-- one step is counted
pub Spends-step : {old new : ℕ} (most : ℕ) → new ≡ old + 1 → 0 < most → Spends old new most
Spends-step most is some = Spends-by 1 most is (omega (arith, some))

-- one part after another
pub Spends-then : {old between new first second : ℕ} → Spends old between first → Spends between new second → Spends old new (first + second)
Spends-then before after = record {
  rises = omega (arith, before.rises, after.rises);
  within = omega (arith, before.within, after.within);
}

-- what is at most this much is at most that
pub Spends-weaken : {old new few : ℕ} (most : ℕ) → Spends old new few → few ≤ most → Spends old new most
Spends-weaken most is less = record { rises = is.rises; within = omega (arith, is.within, less) }

-- and both are at most so much
pub Spends-trans : {old between new first second : ℕ} (most : ℕ) → Spends old between first → Spends between new second
    → first + second ≤ most → Spends old new most
Spends-trans most before after few = Spends-weaken most (Spends-then before after) few
