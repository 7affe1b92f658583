-- Coded packets and their combinations, for any value of each symbol: x s is that of symbol s. What is said of a file
-- is this at the bytes of its symbols in one column.
use Rattle.std.specs.Prelude.{ℕ, ◌≡◌, ◌<◌, List, map, slice_index}
use Rattle.gf_core.specs.Field.{gf_mul, gf_sum}
use Rattle.bats_model.specs.Session.{SessionData, symbols_of}
use Rattle.bats_model.specs.Batch.{BatchData, batch_of, degree_of, contributor_of, entry_of}
use Rattle.bats_model.specs.declared.packet.Packet.{Packet}

-- what contributor k adds to coded packet j of a batch
abbrev pub coded_term : BatchData → ℕ → (ℕ → ℕ) → ℕ → ℕ
coded_term batch j x k = gf_mul (entry_of batch k j) (x (contributor_of batch k))

-- coded packet j of a batch: the sum, over the contributors, of the generator's entry times the contributor's value
unfoldable pub coded_value : BatchData → ℕ → (ℕ → ℕ) → ℕ
coded_value batch j x = gf_sum (degree_of batch) (coded_term batch j x)

-- what coefficient j adds to a combination of a batch's coded packets
abbrev pub combined_term : SessionData → ℕ → List ℕ → (ℕ → ℕ) → ℕ → ℕ
combined_term session number coefs x j = gf_mul (slice_index coefs j) (coded_value (batch_of session number) j x)

-- the combination of a batch's coded packets: the sum of the coefficients times them
unfoldable pub combined_value : SessionData → ℕ → List ℕ → (ℕ → ℕ) → ℕ
combined_value session number coefs x = gf_sum session.m (combined_term session number coefs x)

-- what a packet's payload is in a column, by its batch and its coefficient vector
abbrev pub packet_value : SessionData → Packet → (ℕ → ℕ) → ℕ
packet_value session packet x = combined_value session packet.batch packet.coefs x

-- each symbol of the session has a byte as its value
abbrev pub AreByteValues : SessionData → (ℕ → ℕ) → Type 0
AreByteValues session x = (s : ℕ) → s < symbols_of session → x s < 256

-- with these values of the symbols, which are bytes, each packet has the byte that the column gives it
pub record Satisfies (session : SessionData) (packets : List Packet) (column : List ℕ) (x : ℕ → ℕ) : Type 0 where
  pub bytes : AreByteValues session x
  pub values : map (λ packet. packet_value session packet x) packets ≡ column
