-- Coded packets of a file: contributors times generator.
use Rattle.std.specs.Prelude.{ℕ, ◌==◌, if◌then◌else◌, List, map}
use Rattle.std.specs.List.{range_with_len}
use Rattle.bats_model.specs.Session.{SessionData}
use Rattle.bats_model.specs.Symbol.{symbol_byte}
use Rattle.bats_model.specs.Batch.{BatchData}
use Rattle.bats_model.specs.Values.{coded_value}

-- byte c of coded packet j of a batch: the sum, over the contributors, of the generator's entry times the
-- contributor's byte
abbrev pub coded_byte : SessionData → List ℕ → BatchData → ℕ → ℕ → ℕ
coded_byte session file batch j c = coded_value batch j (λ s. symbol_byte session file s c)

-- the payload of coded packet j
unfoldable pub coded_payload : SessionData → List ℕ → BatchData → ℕ → List ℕ
coded_payload session file batch j =
    map (coded_byte session file batch j) (range_with_len 0 session.t)

-- the vector of m coefficients that is 1 at place j and 0 elsewhere
unfoldable pub unit_vector : ℕ → ℕ → List ℕ
unit_vector m j = map (λ i. if i == j then 1 else 0) (range_with_len 0 m)
