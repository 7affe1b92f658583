-- A file agrees with a plain packet exactly where the packet's payload is the symbol that it names.
use Rattle.std.proofs.Common.{ℕ, ◌≡◌, ◌≢◌, ◌<◌, ◌≤◌, ◌==◌, ◌+◌, ◌-◌, ◌*◌, ◌/◌, ◌%◌, ◌∙◌, ◌↔◌, sym, ap, refl, min, mul_comm, true, List, length, slice_index, inl, inr, arith}
use Rattle.std.proofs.lemmas.Bool.{cases_lt, cond-true, cond-false, eq-eqb, ne_eqb}
use Rattle.std.proofs.lemmas.List.{get_or_past}
use Rattle.std.proofs.lemmas.Grind.{div_ceil_times}
use Rattle.std.proofs.lemmas.Nat.{mul-add-lt, div-mul-add, mod-mul-add, mul-le}
use Rattle.std.proofs.lemmas.List.FromFn.{get_or-map-range_with_len, length-map-range_with_len}
use Rattle.gf_core.specs.Field.{gf_mul, gf_sum}
use Rattle.gf_core.proofs.SumLemmas.{gf_sum-one, gf_sum-zeros}
use Rattle.gf_core.proofs.ProductLemmas.{zero-gf_mul, one-gf_mul}
use Rattle.bats_model.specs.Session.{SessionData, symbols_of}
use Rattle.bats_model.specs.Symbol.{symbol_byte}
use Rattle.bats_model.specs.Batch.{BatchData, batch_of, systematic_batch_of, is_systematic_batch, degree_of, entry_of, contributor_of, entries_by, identity_entry}
use Rattle.bats_model.specs.Values.{coded_value, combined_value}
use Rattle.bats_model.specs.Values.{coded_term, combined_term}
use Rattle.bats_model.specs.Coded.{coded_byte}
use Rattle.bats_model.specs.Agreement.{IsFile, Agrees, combined_byte}
use Rattle.bats_model.specs.declared.packet.Packet.{Packet}
use Rattle.bats_model.proofs.SystematicBatches.{batch_of-systematic}
use Rattle.bats_model.proofs.UnitVectors.{IsUnitAt, one-at, zero-elsewhere}

-- a unit vector takes one coded packet
pub combined_byte-unit : (session : SessionData) (file : List ℕ) (number : ℕ) (coefs : List ℕ) (j c : ℕ)
    → IsUnitAt coefs j → length coefs ≡ session.m
    → combined_byte session file number coefs c ≡ coded_byte session file (batch_of session number) j c
unfolding combined_value
combined_byte-unit session file number coefs j c h l =
    let byte : ℕ → ℕ = λ i. coded_byte session file (batch_of session number) i c in
    gf_sum-one session.m (combined_term session number coefs (λ s. symbol_byte session file s c)) j (omega (arith, h.within))
    (λ i b other. ap (λ (x : ℕ). gf_mul x (byte i)) (zero-elsewhere coefs j h i (omega arith) other) ∙ zero-gf_mul (byte i))
    ∙ ap (λ (x : ℕ). gf_mul x (byte j)) (one-at coefs j h) ∙ one-gf_mul (byte j)

degree-systematic : (session : SessionData) (number : ℕ)
    → degree_of (systematic_batch_of session number) ≡ min (symbols_of session) (number * session.m + session.m) - number * session.m
unfolding systematic_batch_of
degree-systematic session number =
    let first = number * session.m in
    length-map-range_with_len (λ i. first + i) 0 (min (symbols_of session) (first + session.m) - first)

-- the entries of a systematic batch are the identity's
entry-systematic : (session : SessionData) (number k j : ℕ) → k < degree_of (systematic_batch_of session number) → j < session.m
    → entry_of (systematic_batch_of session number) k j ≡ identity_entry k j
unfolding systematic_batch_of entries_by
entry-systematic session number k j a b =
    let m = session.m in
    let degree : ℕ = degree_of (systematic_batch_of session number) in
    let count : degree ≡ min (symbols_of session) (number * m + m) - number * m = degree-systematic session number in
    let rows : ℕ = min (symbols_of session) (number * m + m) - number * m in
    let low : k < rows = omega arith in
    get_or-map-range_with_len (λ place. identity_entry (place / m) (place % m)) 0 (rows * m) (k * m + j) (k * m + j) 0
    (omega (arith, mul-add-lt k m j rows low b, mul_comm m rows)) (omega arith)
    ∙ ap (λ (x : ℕ). identity_entry x ((k * m + j) % m)) (div-mul-add k m j b)
    ∙ ap (identity_entry k) (mod-mul-add k m j b)

contributor-systematic : (session : SessionData) (number k : ℕ) → k < degree_of (systematic_batch_of session number)
    → contributor_of (systematic_batch_of session number) k ≡ number * session.m + k
unfolding systematic_batch_of
contributor-systematic session number k a =
    let first = number * session.m in
    let rows : ℕ = min (symbols_of session) (first + session.m) - first in
    let count : degree_of (systematic_batch_of session number) ≡ rows = degree-systematic session number in
    get_or-map-range_with_len (λ i. first + i) 0 rows k k 0 (omega arith) (omega arith)

-- no symbol from the last on has a byte
pub symbol_byte-past : (session : SessionData) (file : List ℕ) (s c : ℕ) → IsFile session file → symbols_of session ≤ s
    → 0 < session.t → symbol_byte session file s c ≡ 0
symbol_byte-past session file s c h past some =
    let t = session.t in
    let covered : session.file_length ≤ symbols_of session * t = (div_ceil_times session.file_length t some).0 in
    let more : symbols_of session * t ≤ s * t = mul-le (symbols_of session) t s t past (omega arith) in
    get_or_past file (s * t + c) 0 (omega (arith, h.size, covered, more))

-- coded packet j of a systematic batch is symbol number * M + j
pub coded_byte-systematic : (session : SessionData) (file : List ℕ) (number j c : ℕ) → IsFile session file
    → is_systematic_batch session number ≡ true → j < session.m → 0 < session.t
    → coded_byte session file (batch_of session number) j c ≡ symbol_byte session file (number * session.m + j) c
unfolding coded_value
coded_byte-systematic session file number j c f h l some =
    let batch : BatchData = systematic_batch_of session number in
    let term : ℕ → ℕ = coded_term batch j (λ s. symbol_byte session file s c) in
    let byte : ℕ → ℕ = λ k. symbol_byte session file (contributor_of batch k) c in
    let degree : degree_of batch ≡ min (symbols_of session) (number * session.m + session.m) - number * session.m = degree-systematic session number in
    let off : (k : ℕ) → k < degree_of batch → k ≢ j → term k ≡ 0 = λ k b other.
    ap (λ (x : ℕ). gf_mul x (byte k)) (entry-systematic session number k j b l ∙ cond-false (k == j) 1 0 (ne_eqb k j other))
    ∙ zero-gf_mul (byte k) in
    ap (λ (b : BatchData). gf_sum (degree_of b) (coded_term b j (λ s. symbol_byte session file s c))) (batch_of-systematic session number h)
    ∙ elim (cases_lt j (degree_of batch)) [
      | inl within ↦
          gf_sum-one (degree_of batch) term j within off
          ∙ ap (λ (x : ℕ). gf_mul x (byte j)) (entry-systematic session number j j within l ∙ cond-true (j == j) 1 0 (eq-eqb j j refl))
          ∙ one-gf_mul (byte j) ∙ ap (λ (s : ℕ). symbol_byte session file s c) (contributor-systematic session number j within)
      | inr past ↦
          gf_sum-zeros (degree_of batch) term (λ k b. off k b (omega arith))
          ∙ sym (symbol_byte-past session file (number * session.m + j) c f (omega (arith, degree-systematic session number)) some)
    ]

-- what a plain packet of this batch and place says of a file
pub combined_byte-plain : (session : SessionData) (file : List ℕ) (number : ℕ) (coefs : List ℕ) (j c : ℕ) → IsFile session file
    → is_systematic_batch session number ≡ true → IsUnitAt coefs j → length coefs ≡ session.m → 0 < session.t
    → combined_byte session file number coefs c ≡ symbol_byte session file (number * session.m + j) c
combined_byte-plain session file number coefs j c f h unit l some =
    combined_byte-unit session file number coefs j c unit l
    ∙ coded_byte-systematic session file number j c f h (omega (arith, unit.within, l)) some

-- a file agrees with a plain packet exactly where the payload is the symbol's bytes, which are zeros where the
-- packet's place isn't below the batch's degree
pub Agrees-plain : (session : SessionData) (file : List ℕ) (packet : Packet) (j : ℕ) → IsFile session file
    → is_systematic_batch session packet.batch ≡ true → IsUnitAt packet.coefs j → length packet.coefs ≡ session.m
    → 0 < session.t
    → Agrees session file packet ↔ ((c : ℕ) → c < session.t
    → slice_index packet.payload c ≡ symbol_byte session file (packet.batch * session.m + j) c)
Agrees-plain session file packet j f h unit l some =
    let byte : (c : ℕ) → combined_byte session file packet.batch packet.coefs c ≡ symbol_byte session file (packet.batch * session.m + j) c =
    λ c. combined_byte-plain session file packet.batch packet.coefs j c f h unit l some in
    (λ a c b. a.columns c b ∙ byte c, λ s. record { is_file = f; columns = λ c b. s c b ∙ sym (byte c) })
