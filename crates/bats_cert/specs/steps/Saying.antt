-- How far a packet's row over the symbols has come, and what a row makes of a file.
use Rattle.std.specs.Prelude.{ℕ, List, slice_index}
use Rattle.gf_core.specs.Field.{gf_mul, gf_sum}
use Rattle.gf_rows.specs.Matrix.{Grid}
use Rattle.bats_model.specs.Session.{SessionData, symbols_of}
use Rattle.bats_model.specs.Symbol.{symbol_byte}
use Rattle.bats_model.specs.Batch.{BatchData, contributor_of, entry_of}
use Rattle.bats_model.specs.declared.packet.Packet.{Packet}
use Rattle.bats_cert.specs.Sums.{one_at, symbol_rows}

-- what contributor k adds to entry u of a packet's row
abbrev pub said_term : BatchData → List ℕ → ℕ → ℕ → ℕ
said_term batch coefs u k =
    gf_mul (gf_sum batch.columns (λ j. gf_mul (slice_index coefs j) (entry_of batch k j))) (one_at u (contributor_of batch k))

-- the sum over the symbols of a row's entries times the file's bytes in a column
abbrev pub row_in_file : SessionData → List ℕ → ℕ → List ℕ → ℕ
row_in_file session file c row = gf_sum (symbols_of session) (λ s. gf_mul (slice_index row s) (symbol_byte session file s c))

-- the matrix of what the packets say of each symbol
abbrev pub said_grid : SessionData → List Packet → Grid
said_grid session packets = record { cols = symbols_of session; rows = symbol_rows session packets }
