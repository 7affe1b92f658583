-- The symbols that a file is cut into.
use Rattle.std.specs.Prelude.{ℕ, ◌+◌, ◌*◌, List, slice_index}
use Rattle.bats_model.specs.Session.{SessionData}

-- byte c of symbol s of a file: the file's byte at that place, or 0 past the file's end
abbrev pub symbol_byte : SessionData → List ℕ → ℕ → ℕ → ℕ
symbol_byte session file s c = slice_index file (s * session.t + c)
