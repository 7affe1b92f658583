-- What a write adds to the bytes that a sink was given, where it tells them.
use Rattle.std.specs.Prelude.{◌≡◌, ℕ, ◌≤◌, List, ◌++◌, length, take, Option, Some, None}

-- the bytes written, with a piece appended; a sink that tells nothing goes on telling nothing
abbrev pub appended : Option (List ℕ) → List ℕ → Option (List ℕ)
appended None piece = None
appended (Some written) piece = Some (written ++ piece)

-- the piece was appended
abbrev pub Appends : Option (List ℕ) → Option (List ℕ) → List ℕ → Type 0
Appends old new piece = new ≡ appended old piece

-- a prefix of these bytes was appended, perhaps none or all of them
pub record AppendsPrefix (old new : Option (List ℕ)) (bytes : List ℕ) : Type 0 where
  pub count : ℕ
  pub within : count ≤ length bytes
  pub front : Appends old new (take count bytes)
