-- The bytes of a trial's seeds and keys.
use Rattle.std.proofs.Common.{ℕ, ◌≡◌, List, [], ◌∷◌, get_or, refl}
use Rattle.std.specs.Int.{w32, w64, to_be_bytes}
use Rattle.bats_model.specs.Key.{seeded_key}
use Rattle.bats_script.specs.Trial.{trial_seed}
use Rattle.tool_replay.specs.Trial.{loss_key, relay_seed}

pub trial_seed-bytes : (number : ℕ) (n : List ℕ) → n ≡ to_be_bytes w64 number
    → (get_or n 0 0 ∷ get_or n 1 0 ∷ get_or n 2 0 ∷ get_or n 3 0 ∷ get_or n 4 0 ∷ get_or n 5 0 ∷ get_or n 6 0 ∷ get_or n 7 0
    ∷ 0 ∷ 0 ∷ 0 ∷ 0 ∷ 0 ∷ 0 ∷ 0 ∷ 0 ∷ [])
    ≡ trial_seed number
unfolding trial_seed
trial_seed-bytes number n is = rw is refl

pub relay_seed-bytes : (number relay : ℕ) (n r : List ℕ) → n ≡ to_be_bytes w64 number → r ≡ to_be_bytes w32 relay
    → (get_or n 0 0 ∷ get_or n 1 0 ∷ get_or n 2 0 ∷ get_or n 3 0 ∷ get_or n 4 0 ∷ get_or n 5 0 ∷ get_or n 6 0 ∷ get_or n 7 0
    ∷ get_or r 0 0 ∷ get_or r 1 0 ∷ get_or r 2 0 ∷ get_or r 3 0 ∷ 0 ∷ 0 ∷ 0 ∷ 0 ∷ [])
    ≡ relay_seed number relay
relay_seed-bytes number relay n r n_is r_is = rw (n_is, r_is) refl

pub loss_key-bytes : (number hop : ℕ) (n h : List ℕ) → n ≡ to_be_bytes w64 number → h ≡ to_be_bytes w32 hop
    → (get_or n 0 0 ∷ get_or n 1 0 ∷ get_or n 2 0 ∷ get_or n 3 0 ∷ get_or n 4 0 ∷ get_or n 5 0 ∷ get_or n 6 0 ∷ get_or n 7 0
    ∷ 0 ∷ 0 ∷ 0 ∷ 0 ∷ 0 ∷ 0 ∷ 0 ∷ 0
    ∷ get_or h 0 0 ∷ get_or h 1 0 ∷ get_or h 2 0 ∷ get_or h 3 0 ∷ 3 ∷ 0 ∷ 0 ∷ 0 ∷ 0 ∷ 0 ∷ 0 ∷ 0 ∷ 0 ∷ 0 ∷ 0 ∷ 0 ∷ [])
    ≡ loss_key number hop
unfolding trial_seed seeded_key
loss_key-bytes number hop n h n_is h_is = rw (n_is, h_is) refl
