-- What a packet says of each symbol, by the contributors of its batch.
use Rattle.std.proofs.Common.{ℕ, ◌≡◌, ◌≢◌, ◌<◌, ◌∙◌, List, [], length, get_or, sym, ap, refl, inl, inr}
use Rattle.std.specs.List.{Contains}
use Rattle.std.proofs.lemmas.Bool.{cases_order}
use Rattle.std.proofs.lemmas.List.{length-map, get_or_default}
use Rattle.gf_core.specs.Field.{gf_mul, gf_sum}
use Rattle.gf_core.proofs.SumLemmas.{gf_sum-lt, gf_sum-one, gf_sum-zeros}
use Rattle.gf_core.proofs.ProductLemmas.{gf_mul-lt, gf_mul-zero, gf_mul-one}
use Rattle.gf_core.proofs.CombinationLemmas.{get_or-combination}
use Rattle.bats_model.specs.Session.{SessionData, symbols_of}
use Rattle.bats_model.specs.Batch.{BatchData, batch_of, degree_of, contributor_of, entry_of}
use Rattle.bats_model.specs.declared.packet.Packet.{Packet}
use Rattle.bats_model.proofs.SystematicBatches.{columns-batch_of}
use Rattle.bats_model.proofs.EachBatch.{entry_of-lt, contributor_of-lt}
use Rattle.bats_sampler.proofs.DistinctContributors.{AreContributors-batch_of}
use Rattle.bats_cert.specs.Sums.{symbol_row, symbol_rows, symbol_sums}
use Rattle.bats_cert.specs.steps.Saying.{said_term}
use Rattle.bats_cert.proofs.SymbolSums.{one_at-same, one_at-other, get_or-symbol_row, said-entry}

apart : (session : SessionData) (number i k : ℕ) → i < degree_of (batch_of session number) → k < degree_of (batch_of session number) → i ≢ k
    → contributor_of (batch_of session number) i ≢ contributor_of (batch_of session number) k
apart session number i k l m differ =
    let distinct = (AreContributors-batch_of session number).distinct in
    elim (cases_order i k) [
      | inl e ↦ absurd (differ e)
      | inr (inl lower) ↦ distinct i k 0 lower m
      | inr (inr higher) ↦ λ e. distinct k i 0 higher l (sym e)
    ]

pub contributor-entry : (session : SessionData) (packet : Packet) (k : ℕ) → k < degree_of (batch_of session packet.batch)
    → get_or (symbol_row session packet) (contributor_of (batch_of session packet.batch) k) 0
    ≡ gf_sum session.m (λ j. gf_mul (get_or packet.coefs j 0) (entry_of (batch_of session packet.batch) k j))
contributor-entry session packet k within =
    let batch : BatchData = batch_of session packet.batch in
    let s : ℕ = contributor_of batch k in
    let product : ℕ → ℕ → ℕ = λ i j. gf_mul (get_or packet.coefs j 0) (entry_of batch i j) in
    let own : ℕ → ℕ = λ i. gf_sum batch.columns (product i) in
    get_or-symbol_row session packet s (contributor_of-lt session packet.batch k within) ∙ sym (said-entry session packet s)
    ∙ gf_sum-one (degree_of batch) (said_term batch packet.coefs s) k within
    (λ i l differ. ap (gf_mul (own i)) (one_at-other s (contributor_of batch i) (apart session packet.batch i k l within differ)) ∙ gf_mul-zero (own i))
    ∙ ap (gf_mul (own k)) (one_at-same s s refl)
    ∙ gf_mul-one (own k) (gf_sum-lt batch.columns (product k)
    (λ j l. gf_mul-lt (get_or packet.coefs j 0) (entry_of batch k j) (entry_of-lt session packet.batch k j)))
    ∙ ap (λ (n : ℕ). gf_sum n (product k)) (columns-batch_of session packet.batch)

pub other-entry : (session : SessionData) (packet : Packet) (s : ℕ) → s < symbols_of session
    → ¬ Contains (batch_of session packet.batch).contributors s → get_or (symbol_row session packet) s 0 ≡ 0
other-entry session packet s within none =
    let batch : BatchData = batch_of session packet.batch in
    let own : ℕ → ℕ = λ i. gf_sum batch.columns (λ j. gf_mul (get_or packet.coefs j 0) (entry_of batch i j)) in
    get_or-symbol_row session packet s within ∙ sym (said-entry session packet s)
    ∙ gf_sum-zeros (degree_of batch) (said_term batch packet.coefs s)
    (λ i l. ap (gf_mul (own i)) (one_at-other s (contributor_of batch i) (λ e.
    none (i, l, get_or_default batch.contributors i s 0 l ∙ e))) ∙ gf_mul-zero (own i))

pub packet-sums : (session : SessionData) (packets : List Packet) (factors : List ℕ) (s : ℕ) → s < symbols_of session
    → get_or (symbol_sums session packets factors) s 0
    ≡ gf_sum (length packets) (λ i. gf_mul (get_or factors i 0) (get_or (get_or (symbol_rows session packets) i []) s 0))
packet-sums session packets factors s within =
    get_or-combination (symbols_of session) factors (symbol_rows session packets) s within
    ∙ ap (λ (n : ℕ). gf_sum n (λ i. gf_mul (get_or factors i 0) (get_or (get_or (symbol_rows session packets) i []) s 0)))
    (length-map packets (symbol_row session))
