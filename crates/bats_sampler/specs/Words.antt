-- Where a reader of a key's words stands, and the bytes of the words.
use Rattle.std.specs.Prelude.{ℕ, List, ◌+◌, map}
use Rattle.std.specs.List.{range_with_len}
use Rattle.bats_model.specs.Key.{key_byte}

-- a key, and the place of its next word
pub record KeyPlace : Type 0 where
  pub key : List ℕ
  pub place : ℕ

-- bytes of a key's words, from byte `first` on
unfoldable pub bytes_from : List ℕ → ℕ → ℕ → List ℕ
bytes_from key first count = map (λ i. key_byte key (first + i)) (range_with_len 0 count)
