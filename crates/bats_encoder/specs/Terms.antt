-- How far a payload has come, between the steps that make it.
use Rattle.std.specs.Prelude.{ℕ, ◌≡◌, ◌<◌, List, slice_index}
use Rattle.gf_core.specs.Field.{gf_sum}
use Rattle.bats_model.specs.Session.{SessionData}
use Rattle.bats_model.specs.Batch.{BatchData}
use Rattle.bats_model.specs.Values.{coded_term}
use Rattle.bats_model.specs.Symbol.{symbol_byte}

-- each byte of the row is the sum of what the first n contributors add to that byte of coded packet j
pub record HasTerms (row : List ℕ) (session : SessionData) (file : List ℕ) (batch : BatchData) (j n : ℕ) : Type 0 where
  pub each : (c : ℕ) → c < session.t → slice_index row c ≡ gf_sum n (coded_term batch j (λ s. symbol_byte session file s c))
