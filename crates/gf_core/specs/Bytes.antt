-- Lists of bytes.
use Rattle.std.specs.Prelude.{ℕ, zero, suc, ◌<◌, ◌||◌, Bool, false, List, [], ◌∷◌, All}

-- each entry of the list is a byte
abbrev pub AreBytes : List ℕ → Type 0
AreBytes items = All (λ item. item < 256) items

-- whether some number below n passes the test
unfoldable pub some_below : ℕ → (ℕ → Bool) → Bool
some_below zero test = false
some_below (suc n) test = test n || some_below n test

-- whether some list of n bytes passes the test. It decides a statement that begins with "there are bytes", where the
-- logic has no excluded middle; it is never run
unfoldable pub some_bytes : ℕ → (List ℕ → Bool) → Bool
some_bytes zero test = test []
some_bytes (suc n) test = some_below 256 (λ byte. some_bytes n (λ bytes. test (byte ∷ bytes)))
