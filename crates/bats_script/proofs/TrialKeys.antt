-- The key of a trial's file, byte by byte.
use Rattle.std.proofs.Common.{ℕ, ◌≡◌, List, [], ◌∷◌, get_or, refl}
use Rattle.std.specs.Int.{w64, to_be_bytes}
use Rattle.bats_model.specs.Key.{seeded_key}
use Rattle.bats_script.specs.Trial.{trial_file_key, trial_seed}

-- the bytes of the key of a trial's file
pub trial_file_key-bytes : (number : ℕ) (n : List ℕ) → n ≡ to_be_bytes w64 number
    → (get_or n 0 0 ∷ get_or n 1 0 ∷ get_or n 2 0 ∷ get_or n 3 0 ∷ get_or n 4 0 ∷ get_or n 5 0 ∷ get_or n 6 0
    ∷ get_or n 7 0 ∷ 0 ∷ 0 ∷ 0 ∷ 0 ∷ 0 ∷ 0 ∷ 0 ∷ 0 ∷ 0 ∷ 0 ∷ 0 ∷ 0 ∷ 2 ∷ 0 ∷ 0 ∷ 0 ∷ 0 ∷ 0 ∷ 0 ∷ 0 ∷ 0 ∷ 0 ∷ 0 ∷ 0 ∷ [])
    ≡ trial_file_key number
unfolding trial_file_key trial_seed seeded_key
trial_file_key-bytes number n is = rw is refl
