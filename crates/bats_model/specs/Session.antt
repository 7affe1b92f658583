-- A session: what source, relays and sink agree on.
use Rattle.std.specs.Prelude.{ℕ, ◌≡◌, ◌%◌, ◌≢◌, ◌≤◌, ◌<◌, Bool, List, length}
use Rattle.std.specs.Int.{div_ceil}
use Rattle.bats_model.specs.Bytes.{AreBytes}

-- the parameters of a session: packets of a batch, bytes of a symbol, bytes of the file, number of the degree
-- table, whether the first batches are systematic, and the seed
pub record SessionData : Type 0 where
  pub m : ℕ
  pub t : ℕ
  pub file_length : ℕ
  pub table : ℕ
  pub systematic : Bool
  pub seed : List ℕ

-- the session of these parameters
abbrev pub session_with : ℕ → ℕ → ℕ → ℕ → Bool → List ℕ → SessionData
session_with m t file_length table systematic seed =
    record { m = m; t = t; file_length = file_length; table = table; systematic = systematic; seed = seed }

-- packets of a batch, at most
abbrev pub max_batch_size : ℕ
max_batch_size = 32

-- bytes of a symbol, at most
abbrev pub max_symbol_size : ℕ
max_symbol_size = 2048

-- symbols of a file, at most
abbrev pub max_symbols : ℕ
max_symbols = 4096

-- the number of symbols of t bytes that hold a file of this length: the length / t, rounded up
abbrev pub symbol_count : ℕ → ℕ → ℕ
symbol_count file_length t = div_ceil file_length t

-- the number of symbols of a session, K
abbrev pub symbols_of : SessionData → ℕ
symbols_of session = symbol_count session.file_length session.t

-- the last symbol is only in part the file's
abbrev pub IsPadded : SessionData → Type 0
IsPadded session = session.file_length % session.t ≢ 0

-- the parameters are within the limits: M is 1 to 32, T 1 to 2,048, the table 0 or 1, K at most 4,096; the seed is 16 bytes
pub record IsSession (session : SessionData) : Type 0 where
  pub m_low : 1 ≤ session.m
  pub m_high : session.m ≤ max_batch_size
  pub t_low : 1 ≤ session.t
  pub t_high : session.t ≤ max_symbol_size
  pub table : session.table < 2
  pub symbols : symbols_of session ≤ max_symbols
  pub seed : length session.seed ≡ 16
  pub seed_bytes : AreBytes session.seed
