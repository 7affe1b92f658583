-- The numbers of records, as byteorder and std say them.
use Rattle.std.proofs.Common.{◌≡◌, ℕ, ◌<◌, List, length, get_or, refl, arith}
use Rattle.std.proofs.lemmas.Nat.{be_bytes_2, be_bytes_4, be_bytes_8}
use Rattle.std.specs.Int.{w16, w32, w64, to_be_bytes, from_be_bytes}
use Rattle.byteorder.specs.Endian.{big_bytes, big_number}

pub big_bytes-two : (n : ℕ) → big_bytes 2 n ≡ to_be_bytes w16 n
big_bytes-two n = refl

pub big_bytes-four : (n : ℕ) → big_bytes 4 n ≡ to_be_bytes w32 n
big_bytes-four n = refl

pub big_bytes-eight : (n : ℕ) → big_bytes 8 n ≡ to_be_bytes w64 n
big_bytes-eight n = refl

pub big_number-two : (bytes : List ℕ) → big_number 2 bytes ≡ from_be_bytes w16 bytes
big_number-two bytes = omega arith

pub big_number-four : (bytes : List ℕ) → big_number 4 bytes ≡ from_be_bytes w32 bytes
big_number-four bytes = omega arith

pub big_number-eight : (bytes : List ℕ) → big_number 8 bytes ≡ from_be_bytes w64 bytes
big_number-eight bytes = omega arith

-- bytes that are read as a number are the bytes of that number
pub bytes-two : (bytes : List ℕ) → length bytes ≡ 2 → ((i : ℕ) → get_or bytes i 0 < 256) → to_be_bytes w16 (from_be_bytes w16 bytes) ≡ bytes
bytes-two bytes count small = be_bytes_2 bytes (from_be_bytes w16 bytes) count small refl

pub bytes-four : (bytes : List ℕ) → length bytes ≡ 4 → ((i : ℕ) → get_or bytes i 0 < 256) → to_be_bytes w32 (from_be_bytes w32 bytes) ≡ bytes
bytes-four bytes count small = be_bytes_4 bytes (from_be_bytes w32 bytes) count small refl

pub bytes-eight : (bytes : List ℕ) → length bytes ≡ 8 → ((i : ℕ) → get_or bytes i 0 < 256) → to_be_bytes w64 (from_be_bytes w64 bytes) ≡ bytes
bytes-eight bytes count small = be_bytes_8 bytes (from_be_bytes w64 bytes) count small refl
