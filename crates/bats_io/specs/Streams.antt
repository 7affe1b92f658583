-- Inputs and outputs as clauses see them, before and after a call.
use Rattle.std.specs.Prelude.{◌≡◌, ◌≤◌, ℕ, Bool, List, [], ◌++◌, length, Option, Some, None}

-- an input: the bytes left, where it tells them, and how often it failed
pub record InputState : Type 0 where
  pub left : Option (List ℕ)
  pub faults : ℕ

-- an output: the bytes written, where it tells them, whether they were flushed, and how often it failed
pub record OutputState : Type 0 where
  pub written : Option (List ℕ)
  pub flushed : Bool
  pub faults : ℕ

-- the bytes are what the input tells; where it tells nothing, any bytes are
abbrev pub IsTold : Option (List ℕ) → List ℕ → Type 0
IsTold None bytes = Unit {0}
IsTold (Some told) bytes = told ≡ bytes

-- these bytes were read, from the front of those that were left; an input that tells nothing goes on telling nothing
abbrev pub IsRead : Option (List ℕ) → Option (List ℕ) → List ℕ → Type 0
IsRead None new bytes = new ≡ None
IsRead (Some left) new bytes = (rest : List ℕ) × (new ≡ Some rest) × (left ≡ bytes ++ rest)

-- no byte is left; of an input that tells nothing this says nothing
abbrev pub IsEnded : Option (List ℕ) → Type 0
IsEnded None = Unit {0}
IsEnded (Some bytes) = bytes ≡ []

-- at most so many bytes were read
pub record ReadsAtMost (before after : Option (List ℕ)) (most : ℕ) : Type 0 where
  pub bytes : List ℕ
  pub read : IsRead before after bytes
  pub within : length bytes ≤ most
