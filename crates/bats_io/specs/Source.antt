-- What a read takes of the bytes that a source has left, where it tells them.
use Rattle.std.specs.Prelude.{◌≡◌, ℕ, ◌≤◌, List, [], length, take, drop, Option, None, Some}

-- the first n of these bytes stand at the front of the buffer and are taken, and n is 0 only where there are none
pub record TakesFirst (bytes : List ℕ) (new : Option (List ℕ)) (n : ℕ) (buffer : List ℕ) : Type 0 where
  pub within : n ≤ length bytes
  pub given : take n buffer ≡ take n bytes
  pub left : new ≡ Some (drop n bytes)
  pub end : n ≡ 0 → bytes ≡ []

-- a read of n bytes into the buffer; a source that tells nothing goes on telling nothing
abbrev pub Takes : Option (List ℕ) → Option (List ℕ) → ℕ → List ℕ → Type 0
Takes None new n buffer = new ≡ None
Takes (Some bytes) new n buffer = TakesFirst bytes new n buffer
