-- A packet's value is the sum of its row over the symbols times the symbols' values, and sums of packets follow.
use Rattle.std.proofs.Common.{ℕ, ◌≡◌, ◌≢◌, ◌<◌, ◌+◌, ◌*◌, ◌==◌, ◌∙◌, ◌↔◌, sym, ap, refl, subst, List, [], ◌∷◌, All, length, get_or, arith}
use Rattle.std.specs.List.{range_with_len}
use Rattle.std.proofs.lemmas.Bool.{cond-true, cond-false, cond_both, eq-eqb, ne_eqb}
use Rattle.std.proofs.lemmas.List.{get_or-replicate, ext_get_or, length-map}
use Rattle.std.proofs.lemmas.List.Elements.{All-map, All-head, All-tail}
use Rattle.std.proofs.lemmas.List.FromFn.{get_or-map-range_with_len, length-map-range_with_len, fill_by_all}
use Rattle.gf_core.specs.Bytes.{AreBytes}
use Rattle.gf_core.specs.Field.{gf_add, gf_mul, gf_sum}
use Rattle.gf_core.specs.Combinations.{combination}
use Rattle.gf_core.proofs.RowLemmas.{byte_at, get_or-add_scaled_row}
use Rattle.gf_core.proofs.SumLemmas.{gf_sum-congruence, gf_sum-one, gf_sum-exchange}
use Rattle.gf_core.proofs.ProductLemmas.{zero-gf_mul, one-gf_mul, gf_mul-gf_sum, gf_mul-gf_sum_left, gf_mul_assoc}
use Rattle.gf_core.proofs.LinearRows.{AreRows, IsLinear, IsLinear-zeros, IsLinear-product}
use Rattle.gf_core.proofs.CombinationLemmas.{length-combination, combination-lt, get_or-combination}
use Rattle.bats_model.specs.Session.{SessionData, symbols_of}
use Rattle.bats_model.specs.Symbol.{symbol_byte}
use Rattle.bats_model.specs.Batch.{BatchData, batch_of, degree_of, contributor_of, entry_of}
use Rattle.bats_model.specs.Values.{coded_value, combined_value, packet_value, AreByteValues}
use Rattle.bats_model.specs.Relay.{payloads_of}
use Rattle.bats_model.specs.Agreement.{IsFile, Agrees, AgreesWithAll}
use Rattle.bats_model.specs.PacketFile.{HasShape}
use Rattle.bats_model.specs.declared.packet.Packet.{Packet}
use Rattle.bats_model.proofs.SystematicBatches.{columns-batch_of}
use Rattle.bats_model.proofs.EachBatch.{entry_of-lt, contributor_of-lt}
use Rattle.bats_model.proofs.SymbolValues.{coded_value-lt, combined_value-lt}
use Rattle.bats_cert.specs.Sums.{one_at, symbol_row, symbol_rows, symbol_sums, payload_sums}
use Rattle.bats_cert.specs.steps.Saying.{said_term, row_in_file}

-- ---- unit values

pub one_at-lt : (s u : ℕ) → one_at s u < 256
one_at-lt s u = cond_both (u == s) 1 0 (λ (n : ℕ). n < 256) (λ _. omega arith) (λ _. omega arith)

pub one_at-same : (s u : ℕ) → u ≡ s → one_at s u ≡ 1
one_at-same s u e = cond-true (u == s) 1 0 (eq-eqb u s e)

pub one_at-other : (s u : ℕ) → u ≢ s → one_at s u ≡ 0
one_at-other s u e = cond-false (u == s) 1 0 (ne_eqb u s e)

-- a value among the first is the sum of all, each times 1 at its own place
pick-value : (n u : ℕ) (x : ℕ → ℕ) → u < n → gf_sum n (λ s. gf_mul (one_at s u) (x s)) ≡ x u
pick-value n u x within =
    gf_sum-one n (λ s. gf_mul (one_at s u) (x s)) u within
    (λ s l other. ap (λ (y : ℕ). gf_mul y (x s)) (one_at-other s u (λ e. other (sym e))) ∙ zero-gf_mul (x s))
    ∙ ap (λ (y : ℕ). gf_mul y (x u)) (one_at-same u u refl) ∙ one-gf_mul (x u)

-- sums of products, summed the other way
pub sums-exchanged : (d m : ℕ) (coef value : ℕ → ℕ) (entry : ℕ → ℕ → ℕ) → ((k j : ℕ) → entry k j < 256) → ((k : ℕ) → k < d → value k < 256)
    → gf_sum d (λ k. gf_mul (gf_sum m (λ j. gf_mul (coef j) (entry k j))) (value k))
    ≡ gf_sum m (λ j. gf_mul (coef j) (gf_sum d (λ k. gf_mul (entry k j) (value k))))
sums-exchanged d m coef value entry bytes values =
    let product : ℕ → ℕ → ℕ = λ k j. gf_mul (coef j) (gf_mul (entry k j) (value k)) in
    gf_sum-congruence d (λ k. gf_mul (gf_sum m (λ j. gf_mul (coef j) (entry k j))) (value k)) (λ k. gf_sum m (product k))
    (λ k l.
    gf_mul-gf_sum_left m (λ j. gf_mul (coef j) (entry k j)) (value k)
    ∙ gf_sum-congruence m (λ j. gf_mul (gf_mul (coef j) (entry k j)) (value k)) (product k)
    (λ j q. gf_mul_assoc (coef j) (entry k j) (value k) (bytes k j) (values k l)))
    ∙ gf_sum-exchange d m product
    ∙ gf_sum-congruence m (λ j. gf_sum d (λ k. product k j)) (λ j. gf_mul (coef j) (gf_sum d (λ k. gf_mul (entry k j) (value k))))
    (λ j l. sym (gf_mul-gf_sum (coef j) d (λ k. gf_mul (entry k j) (value k))))

-- ---- a packet's row

pub one_at-bytes : (session : SessionData) (s : ℕ) → AreByteValues session (one_at s)
one_at-bytes session s u within = one_at-lt s u

-- entry s of a packet's row
pub get_or-symbol_row : (session : SessionData) (packet : Packet) (s : ℕ) → s < symbols_of session
    → get_or (symbol_row session packet) s 0 ≡ packet_value session packet (one_at s)
unfolding symbol_row
get_or-symbol_row session packet s within =
    get_or-map-range_with_len (λ u. packet_value session packet (one_at u)) 0 (symbols_of session) s s 0 within (omega arith)

pub length-symbol_row : (session : SessionData) (packet : Packet) → length (symbol_row session packet) ≡ symbols_of session
unfolding symbol_row
length-symbol_row session packet = length-map-range_with_len (λ u. packet_value session packet (one_at u)) 0 (symbols_of session)

pub symbol_row-lt : (session : SessionData) (packet : Packet) → AreBytes (symbol_row session packet)
unfolding symbol_row
symbol_row-lt session packet =
    All-map (λ byte. byte < 256) (λ u. packet_value session packet (one_at u)) (range_with_len 0 (symbols_of session))
    (λ i d within. combined_value-lt session packet.batch packet.coefs (one_at (get_or (range_with_len 0 (symbols_of session)) i d))
    (one_at-bytes session (get_or (range_with_len 0 (symbols_of session)) i d)))

pub AreRows-symbol_rows : (session : SessionData) (packets : List Packet) → AreRows (symbols_of session) (symbol_rows session packets)
AreRows-symbol_rows session packets = record {
  widths = All-map (λ row. length row ≡ symbols_of session) (symbol_row session) packets (λ i d within. length-symbol_row session (get_or packets i d));
  bytes = All-map AreBytes (symbol_row session) packets (λ i d within. symbol_row-lt session (get_or packets i d));
}

coded-sum : (session : SessionData) (number j : ℕ) (x : ℕ → ℕ) → AreByteValues session x
    → gf_sum (symbols_of session) (λ s. gf_mul (coded_value (batch_of session number) j (one_at s)) (x s)) ≡ coded_value (batch_of session number) j x
unfolding coded_value
coded-sum session number j x bytes =
    let batch : BatchData = batch_of session number in
    let n : ℕ = symbols_of session in
    sums-exchanged n (degree_of batch) (λ k. entry_of batch k j) x (λ s k. one_at s (contributor_of batch k)) (λ s k. one_at-lt s (contributor_of batch k)) bytes
    ∙ gf_sum-congruence (degree_of batch) (λ k. gf_mul (entry_of batch k j) (gf_sum n (λ s. gf_mul (one_at s (contributor_of batch k)) (x s))))
    (λ k. gf_mul (entry_of batch k j) (x (contributor_of batch k)))
    (λ k within. ap (gf_mul (entry_of batch k j)) (pick-value n (contributor_of batch k) x (contributor_of-lt session number k within)))

-- a packet's value is the sum of its row times the values
pub packet-sum : (session : SessionData) (packet : Packet) (x : ℕ → ℕ) → AreByteValues session x
    → gf_sum (symbols_of session) (λ s. gf_mul (get_or (symbol_row session packet) s 0) (x s)) ≡ packet_value session packet x
unfolding combined_value
packet-sum session packet x bytes =
    let batch : BatchData = batch_of session packet.batch in
    let n : ℕ = symbols_of session in
    gf_sum-congruence n (λ s. gf_mul (get_or (symbol_row session packet) s 0) (x s))
    (λ s. gf_mul (gf_sum session.m (λ j. gf_mul (get_or packet.coefs j 0) (coded_value batch j (one_at s)))) (x s))
    (λ s within. ap (λ (y : ℕ). gf_mul y (x s)) (get_or-symbol_row session packet s within))
    ∙ sums-exchanged n session.m (λ j. get_or packet.coefs j 0) x (λ s j. coded_value batch j (one_at s))
    (λ s j. coded_value-lt session packet.batch j (one_at s) (one_at-bytes session s)) bytes
    ∙ gf_sum-congruence session.m (λ j. gf_mul (get_or packet.coefs j 0) (gf_sum n (λ s. gf_mul (coded_value batch j (one_at s)) (x s))))
    (λ j. gf_mul (get_or packet.coefs j 0) (coded_value batch j x))
    (λ j within. ap (gf_mul (get_or packet.coefs j 0)) (coded-sum session packet.batch j x bytes))

-- ---- sums of packets with which a file agrees

pub file-bytes : (session : SessionData) (file : List ℕ) (c : ℕ) → AreBytes file → AreByteValues session (λ s. symbol_byte session file s c)
file-bytes session file c bytes s within = byte_at file (s * session.t + c) bytes

agreeing : (session : SessionData) (file : List ℕ) (c : ℕ) → AreBytes file → c < session.t → (factors : List ℕ) (packets : List Packet)
    → All (Agrees session file) packets
    → get_or (payload_sums session packets factors) c 0 ≡ row_in_file session file c (symbol_sums session packets factors)
unfolding combination
agreeing session file c bytes column [] packets all =
    get_or-replicate session.t c 0 0 column
    ∙ sym (IsLinear-zeros (symbols_of session) (row_in_file session file c)
    (IsLinear-product (symbols_of session) (λ s. symbol_byte session file s c) (λ s within. file-bytes session file c bytes s within)))
agreeing session file c bytes column (f ∷ fs) [] all =
    get_or-replicate session.t c 0 0 column
    ∙ sym (IsLinear-zeros (symbols_of session) (row_in_file session file c)
    (IsLinear-product (symbols_of session) (λ s. symbol_byte session file s c) (λ s within. file-bytes session file c bytes s within)))
agreeing session file c bytes column (f ∷ fs) (p ∷ ps) all =
    let n : ℕ = symbols_of session in
    let own : Agrees session file p = All-head (Agrees session file) p ps all in
    let rest : List Packet = ps in
    let linear : IsLinear n (row_in_file session file c) =
    IsLinear-product n (λ s. symbol_byte session file s c) (λ s within. file-bytes session file c bytes s within) in
    get_or-add_scaled_row (payload_sums session ps fs) f p.payload c (subst (λ (k : ℕ). c < k) (sym (length-combination session.t fs (payloads_of ps))) column)
    ∙ ap (λ (y : ℕ). gf_add y (gf_mul f (get_or p.payload c 0))) (agreeing session file c bytes column fs ps (All-tail (Agrees session file) p ps all))
    ∙ ap (λ (y : ℕ). gf_add (row_in_file session file c (symbol_sums session ps fs)) (gf_mul f y))
    (own.columns c column ∙ sym (packet-sum session p (λ s. symbol_byte session file s c) (file-bytes session file c bytes)))
    ∙ sym (linear.of_sum (symbol_sums session ps fs) f (symbol_row session p) (length-combination n fs (symbol_rows session ps)) (length-symbol_row session p)
    (combination-lt n fs (symbol_rows session ps) (AreRows-symbol_rows session ps).bytes) (symbol_row-lt session p))

-- of a file that agrees, a byte of a sum of payloads is the sum over the symbols of what the sum says of them times their bytes
pub agreeing-byte : (session : SessionData) (packets : List Packet) (file : List ℕ) (factors : List ℕ) (c : ℕ) → AgreesWithAll session packets file → c < session.t
    → get_or (payload_sums session packets factors) c 0 ≡ row_in_file session file c (symbol_sums session packets factors)
agreeing-byte session packets file factors c h column = agreeing session file c h.is_file.bytes column factors packets h.each

-- ---- a packet's row from its batch

-- what the contributors of a packet's batch say of a symbol is what the packet says of it
pub said-entry : (session : SessionData) (packet : Packet) (u : ℕ)
    → gf_sum (degree_of (batch_of session packet.batch)) (said_term (batch_of session packet.batch) packet.coefs u) ≡ packet_value session packet (one_at u)
unfolding combined_value coded_value
said-entry session packet u =
    let batch : BatchData = batch_of session packet.batch in
    let term : ℕ → ℕ = λ j. gf_mul (get_or packet.coefs j 0) (coded_value batch j (one_at u)) in
    sums-exchanged (degree_of batch) batch.columns (λ j. get_or packet.coefs j 0) (λ k. one_at u (contributor_of batch k)) (entry_of batch)
    (entry_of-lt session packet.batch) (λ k l. one_at-lt u (contributor_of batch k))
    ∙ ap (λ (n : ℕ). gf_sum n term) (columns-batch_of session packet.batch)

pub symbol_row-said : (session : SessionData) (packet : Packet) (row : List ℕ) → length row ≡ symbols_of session
    → ((u : ℕ) → u < symbols_of session → get_or row u 0 ≡ gf_sum (degree_of (batch_of session packet.batch)) (said_term (batch_of session packet.batch) packet.coefs u))
    → row ≡ symbol_row session packet
unfolding symbol_row
symbol_row-said session packet row size entries =
    fill_by_all (λ u. packet_value session packet (one_at u)) row (symbols_of session) 0 size (λ u h. entries u h ∙ said-entry session packet u)

-- ---- a file's payload

-- a file agrees with a packet exactly where the packet's payload is what its row makes of the file
pub agrees-payload : (session : SessionData) (file payload : List ℕ) (packet : Packet) → HasShape session packet → IsFile session file
    → length payload ≡ session.t
    → ((c : ℕ) → c < session.t → get_or payload c 0 ≡ row_in_file session file c (symbol_row session packet))
    → (payload ≡ packet.payload) ↔ Agrees session file packet
agrees-payload session file payload packet shape is size bytes = (
  λ e. record {
    is_file = is;
    columns = λ c column. sym (ap (λ (p : List ℕ). get_or p c 0) e) ∙ bytes c column
        ∙ packet-sum session packet (λ s. symbol_byte session file s c) (file-bytes session file c is.bytes);
  },
  λ h. ext_get_or 0 payload packet.payload (size ∙ sym shape.payload) (λ c below.
      let column : c < session.t = omega (arith, below, size) in
      bytes c column ∙ packet-sum session packet (λ s. symbol_byte session file s c) (file-bytes session file c is.bytes) ∙ sym (h.columns c column)),
)

-- ---- a byte of a sum of payloads

-- it is the sum of the factors times the payloads' bytes there
pub payload-sum : (session : SessionData) (packets : List Packet) (factors : List ℕ) (column : ℕ) → column < session.t
    → gf_sum (length packets) (λ i. gf_mul (get_or factors i 0) (get_or (get_or (payloads_of packets) i []) column 0))
    ≡ get_or (payload_sums session packets factors) column 0
payload-sum session packets factors column within =
    ap (λ (n : ℕ). gf_sum n (λ i. gf_mul (get_or factors i 0) (get_or (get_or (payloads_of packets) i []) column 0)))
    (sym (length-map packets (λ (p : Packet). p.payload)))
    ∙ sym (get_or-combination session.t factors (payloads_of packets) column within)
