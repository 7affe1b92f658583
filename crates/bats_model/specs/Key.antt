-- Words and bytes that a key of 32 bytes gives, after ChaCha20 (RFC 8439) as `rand_chacha` defines it.
use Rattle.std.specs.Prelude.{ℕ, ◌*◌, ◌/◌, ◌%◌, ◌^◌, List, ◌∷◌, ◌++◌, replicate}
use Rattle.std.specs.Int.{w32, to_be_bytes}
use Rattle.rand_chacha.specs.ChaCha.{word_at, key_of}

-- word i of a key of 32 bytes: the i-th 32-bit word of the ChaCha20 generator with that key, on stream 0 from place 0
unfoldable pub key_word : List ℕ → ℕ → ℕ
key_word key i = word_at 10 (key_of key) 0 i

-- byte i of a key's words: four bytes a word, the lowest first
unfoldable pub key_byte : List ℕ → ℕ → ℕ
key_byte key i = key_word key (i / 4) / 256 ^ (i % 4) % 256

-- the number below n that a word picks: the word times n, divided by 2^32 and rounded down. The small bias is accepted.
abbrev pub pick : ℕ → ℕ → ℕ
pick word n = word * n / 2 ^ 32

-- a key: a seed of 16 bytes, a number, a byte for the kind of key, a second number, and zeros
unfoldable pub seeded_key : List ℕ → ℕ → ℕ → ℕ → List ℕ
seeded_key seed first kind second =
    seed ++ to_be_bytes w32 first ++ kind ∷ to_be_bytes w32 second ++ replicate 7 0

-- the key of a batch: kind 0, and second number 0
unfoldable pub batch_key : List ℕ → ℕ → List ℕ
batch_key seed number = seeded_key seed number 0 0

-- the key of an output of a relay, for a batch: kind 1, and the output's number
unfoldable pub relay_key : List ℕ → ℕ → ℕ → List ℕ
relay_key seed batch output = seeded_key seed batch 1 output
