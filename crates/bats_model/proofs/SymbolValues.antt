-- Coded packets and their combinations over any values of the symbols: the values of other numbers don't count, and of
-- bytes they are bytes.
use Rattle.std.proofs.Common.{ℕ, ◌≡◌, ◌<◌, ◌+◌, ◌*◌, ap, List, get_or}
use Rattle.std.specs.List.{range_with_len}
use Rattle.std.proofs.lemmas.List.Elements.{All-map}
use Rattle.gf_core.specs.Field.{gf_mul}
use Rattle.gf_core.proofs.RowLemmas.{byte_at}
use Rattle.gf_core.proofs.SumLemmas.{gf_sum-congruence, gf_sum-lt}
use Rattle.gf_core.proofs.ProductLemmas.{gf_mul-lt}
use Rattle.bats_model.specs.Bytes.{AreBytes}
use Rattle.bats_model.specs.Session.{SessionData, symbols_of}
use Rattle.bats_model.specs.Symbol.{symbol_byte}
use Rattle.bats_model.specs.Batch.{BatchData, batch_of, degree_of, contributor_of, entry_of}
use Rattle.bats_model.specs.Values.{coded_value, combined_value, packet_value, AreByteValues}
use Rattle.bats_model.specs.Coded.{coded_byte, coded_payload}
use Rattle.bats_model.specs.declared.packet.Packet.{Packet}
use Rattle.bats_model.proofs.EachBatch.{contributor_of-lt}

-- the same values for each symbol of the session
abbrev pub AreSameValues : SessionData → (ℕ → ℕ) → (ℕ → ℕ) → Type 0
AreSameValues session x y = (s : ℕ) → s < symbols_of session → x s ≡ y s

pub coded_value-congruence : (session : SessionData) (number j : ℕ) (x y : ℕ → ℕ) → AreSameValues session x y
    → coded_value (batch_of session number) j x ≡ coded_value (batch_of session number) j y
unfolding coded_value
coded_value-congruence session number j x y same =
    let batch : BatchData = batch_of session number in
    gf_sum-congruence (degree_of batch) (λ k. gf_mul (entry_of batch k j) (x (contributor_of batch k)))
    (λ k. gf_mul (entry_of batch k j) (y (contributor_of batch k)))
    (λ k within. ap (gf_mul (entry_of batch k j)) (same (contributor_of batch k) (contributor_of-lt session number k within)))

pub combined_value-congruence : (session : SessionData) (number : ℕ) (coefs : List ℕ) (x y : ℕ → ℕ) → AreSameValues session x y
    → combined_value session number coefs x ≡ combined_value session number coefs y
unfolding combined_value
combined_value-congruence session number coefs x y same =
    let batch : BatchData = batch_of session number in
    gf_sum-congruence session.m (λ j. gf_mul (get_or coefs j 0) (coded_value batch j x))
    (λ j. gf_mul (get_or coefs j 0) (coded_value batch j y))
    (λ j within. ap (gf_mul (get_or coefs j 0)) (coded_value-congruence session number j x y same))

-- a packet's value counts the session's symbols alone
pub packet_value-congruence : (session : SessionData) (packet : Packet) (x y : ℕ → ℕ) → AreSameValues session x y
    → packet_value session packet x ≡ packet_value session packet y
packet_value-congruence session packet x y same = combined_value-congruence session packet.batch packet.coefs x y same

pub coded_value-lt : (session : SessionData) (number j : ℕ) (x : ℕ → ℕ) → AreByteValues session x
    → coded_value (batch_of session number) j x < 256
unfolding coded_value
coded_value-lt session number j x bytes =
    let batch : BatchData = batch_of session number in
    gf_sum-lt (degree_of batch) (λ k. gf_mul (entry_of batch k j) (x (contributor_of batch k)))
    (λ k within. gf_mul-lt (entry_of batch k j) (x (contributor_of batch k))
    (bytes (contributor_of batch k) (contributor_of-lt session number k within)))

pub combined_value-lt : (session : SessionData) (number : ℕ) (coefs : List ℕ) (x : ℕ → ℕ) → AreByteValues session x
    → combined_value session number coefs x < 256
unfolding combined_value
combined_value-lt session number coefs x bytes =
    let batch : BatchData = batch_of session number in
    gf_sum-lt session.m (λ j. gf_mul (get_or coefs j 0) (coded_value batch j x))
    (λ j within. gf_mul-lt (get_or coefs j 0) (coded_value batch j x) (coded_value-lt session number j x bytes))

-- ---- of a file

-- the coded bytes of a file of bytes are bytes
pub coded_byte-lt : (session : SessionData) (file : List ℕ) (number j c : ℕ) → AreBytes file
    → coded_byte session file (batch_of session number) j c < 256
coded_byte-lt session file number j c bytes =
    coded_value-lt session number j (λ s. symbol_byte session file s c) (λ s within. byte_at file (s * session.t + c) bytes)

pub coded_payload-lt : (session : SessionData) (file : List ℕ) (number j : ℕ) → AreBytes file
    → AreBytes (coded_payload session file (batch_of session number) j)
unfolding coded_payload
coded_payload-lt session file number j bytes =
    All-map (λ byte. byte < 256) (coded_byte session file (batch_of session number) j) (range_with_len 0 session.t)
    (λ i d within. coded_byte-lt session file number j (get_or (range_with_len 0 session.t) i d) bytes)
