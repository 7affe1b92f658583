-- The file of a trial: bytes that the trial's number gives.
use Rattle.std.specs.Prelude.{ℕ, List, ◌++◌, map, replicate}
use Rattle.std.specs.Int.{w64, to_be_bytes}
use Rattle.std.specs.List.{range_with_len}
use Rattle.bats_model.specs.Key.{key_byte, seeded_key}

-- the session's seed of a trial: its number as 8 bytes, the highest first, and 8 zero bytes
unfoldable pub trial_seed : ℕ → List ℕ
trial_seed number = to_be_bytes w64 number ++ replicate 8 0

-- the key of a trial's file
unfoldable pub trial_file_key : ℕ → List ℕ
trial_file_key number = seeded_key (trial_seed number) 0 2 0

-- the file of a trial: the first bytes of the words of its key
unfoldable pub trial_file : ℕ → ℕ → List ℕ
trial_file number file_length = map (λ i. key_byte (trial_file_key number) i) (range_with_len 0 file_length)
