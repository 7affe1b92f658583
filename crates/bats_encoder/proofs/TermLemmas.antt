-- A payload with the terms of one more contributor.
use Rattle.std.proofs.Common.{◌≡◌, ◌+◌, ◌<◌, ℕ, List, ◌∙◌, sym, ap, get_or, length, arith}
use Rattle.gf_core.specs.Field.{gf_add, gf_mul, gf_sum}
use Rattle.gf_core.specs.Rows.{add_scaled_row}
use Rattle.gf_core.proofs.RowLemmas.{get_or-add_scaled_row}
use Rattle.gf_core.proofs.AddLemmas.{gf_add-zero}
use Rattle.gf_core.proofs.ProductLemmas.{zero-gf_mul}
use Rattle.gf_core.proofs.SumLemmas.{gf_sum-zero, gf_sum-more}
use Rattle.bats_model.specs.Session.{SessionData}
use Rattle.bats_model.specs.Batch.{BatchData, entry_of, contributor_of}
use Rattle.bats_model.specs.Symbol.{symbol_byte}
use Rattle.bats_model.specs.Values.{coded_term}
use Rattle.bats_encoder.specs.Terms.{HasTerms}

pub HasTerms-none : (row : List ℕ) (session : SessionData) (file : List ℕ) (batch : BatchData) (j : ℕ)
    → ((c : ℕ) → c < session.t → get_or row c 0 ≡ 0) → HasTerms row session file batch j 0
HasTerms-none row session file batch j zeros = record {
  each = λ c h. zeros c h ∙ sym (gf_sum-zero (coded_term batch j (λ s. symbol_byte session file s c)));
}

pub HasTerms-more : (row : List ℕ) (session : SessionData) (file : List ℕ) (batch : BatchData) (j n factor : ℕ) (symbol : List ℕ)
    → length row ≡ session.t → factor ≡ entry_of batch n j
    → ((c : ℕ) → c < session.t → get_or symbol c 0 ≡ symbol_byte session file (contributor_of batch n) c)
    → HasTerms row session file batch j n → HasTerms (add_scaled_row row factor symbol) session file batch j (n + 1)
HasTerms-more row session file batch j n factor symbol long entry bytes before = record {
  each = λ c h.
      let term : ℕ → ℕ = coded_term batch j (λ s. symbol_byte session file s c) in
      get_or-add_scaled_row row factor symbol c (omega arith) ∙
      ((λ i. gf_add (before.each c h i) (gf_mul (entry i) (bytes c h i))) ∙ sym (gf_sum-more n term));
}

-- a contributor whose factor is 0 adds nothing
pub HasTerms-zero : (row : List ℕ) (session : SessionData) (file : List ℕ) (batch : BatchData) (j n : ℕ) → entry_of batch n j ≡ 0
    → HasTerms row session file batch j n → HasTerms row session file batch j (n + 1)
HasTerms-zero row session file batch j n none before = record {
  each = λ c h.
      let term : ℕ → ℕ = coded_term batch j (λ s. symbol_byte session file s c) in
      let nothing : term n ≡ 0 = ap (λ factor. gf_mul factor (symbol_byte session file (contributor_of batch n) c)) none
      ∙ zero-gf_mul (symbol_byte session file (contributor_of batch n) c) in
      before.each c h ∙ sym (gf_sum-more n term ∙ ap (gf_add (gf_sum n term)) nothing ∙ gf_add-zero (gf_sum n term));
}
