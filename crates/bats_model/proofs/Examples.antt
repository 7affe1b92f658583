-- Worked values, computed: the session with 2 packets a batch, 1 byte a symbol, 5 symbols, table 1 and a zero seed,
-- whose batch 0 has the zero key.
use Rattle.std.proofs.Common.{ℕ, ◌≡◌, List, [], ◌∷◌, refl}
use Rattle.std.specs.Prelude.{replicate}
use Rattle.rand_core.specs.Steps.{u32_at}
use Rattle.rand_chacha.specs.Block.{quarter_round, column_round, diagonal_round, double_rounds, block_word}
use Rattle.bats_model.specs.Key.{key_word, key_byte, seeded_key, batch_key, pick}
use Rattle.bats_model.specs.DegreeTable.{table_1, degree_at, first_degree_above}
use Rattle.bats_model.specs.Batch.{drawn, unchosen}

-- the key of 32 zero bytes
abbrev zero_key : List ℕ
zero_key = replicate 32 0

batch_key-zero : batch_key (replicate 16 0) 0 ≡ zero_key
unfolding batch_key seeded_key
batch_key-zero = refl

-- the words are those of RFC 8439, appendix A.1, first vector
word_0 : key_word zero_key 0 ≡ 0xade0b876
unfolding key_word quarter_round column_round diagonal_round double_rounds block_word u32_at
word_0 = refl

word_1 : key_word zero_key 1 ≡ 0x903df1a0
unfolding key_word quarter_round column_round diagonal_round double_rounds block_word u32_at
word_1 = refl

word_2 : key_word zero_key 2 ≡ 0xe56a5d40
unfolding key_word quarter_round column_round diagonal_round double_rounds block_word u32_at
word_2 = refl

word_3 : key_word zero_key 3 ≡ 0x28bd8653
unfolding key_word quarter_round column_round diagonal_round double_rounds block_word u32_at
word_3 = refl

word_4 : key_word zero_key 4 ≡ 0xb819d2bd
unfolding key_word quarter_round column_round diagonal_round double_rounds block_word u32_at
word_4 = refl

word_5 : key_word zero_key 5 ≡ 0x1aed8da0
unfolding key_word quarter_round column_round diagonal_round double_rounds block_word u32_at
word_5 = refl

word_6 : key_word zero_key 6 ≡ 0xccef36a8
unfolding key_word quarter_round column_round diagonal_round double_rounds block_word u32_at
word_6 = refl

-- word 0 draws degree 4
degree : degree_at table_1 (pick (key_word zero_key 0) 1000) ≡ 4
unfolding degree_at first_degree_above
degree = rw word_0 refl

-- words 1 to 4 draw these contributors
contributors : drawn zero_key 5 4 ≡ 2 ∷ 4 ∷ 0 ∷ 3 ∷ []
unfolding drawn unchosen
contributors = rw (word_1, word_2, word_3, word_4) refl

-- the bytes of words 5 and 6 are the generator's entries
entry_0 : key_byte zero_key 20 ≡ 0xa0
unfolding key_byte
entry_0 = rw word_5 refl

entry_3 : key_byte zero_key 23 ≡ 0x1a
unfolding key_byte
entry_3 = rw word_5 refl

entry_7 : key_byte zero_key 27 ≡ 0xcc
unfolding key_byte
entry_7 = rw word_6 refl
