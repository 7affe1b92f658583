use Rattle.std.proofs.Common.{ℕ, ◌≡◌, ◌<◌, ◌∙◌, List, length, get_or, set, sym, ap, subst, refl, inl, inr}
use Rattle.std.proofs.lemmas.Bool.{cases_eq}
use Rattle.std.proofs.lemmas.List.{get_or-set_same, get_or-set_other}
use Rattle.gf_core.specs.Field.{gf_add, gf_mul, gf_sum}
use Rattle.gf_core.proofs.AddLemmas.{gf_add-zero}
use Rattle.gf_core.proofs.SumLemmas.{gf_sum-congruence}
use Rattle.gf_core.proofs.ProductLemmas.{gf_mul-one, gf_mul-zero}
use Rattle.bats_model.specs.Batch.{BatchData, entry_of, contributor_of}
use Rattle.bats_cert.specs.Sums.{one_at}
use Rattle.bats_cert.proofs.SymbolSums.{one_at-same, one_at-other}
use Rattle.bats_cert.proofs.saying.add_contributor.Goals as goal

-- a value that is added at one place is added to each, times 1 there and 0 elsewhere
added-at : (row : List ℕ) (s value u : ℕ) → s < length row → value < 256
    → get_or (set row s (gf_add (get_or row s 0) value)) u 0 ≡ gf_add (get_or row u 0) (gf_mul value (one_at u s))
added-at row s value u within byte = elim (cases_eq u s) [
  | inl e ↦
      subst (λ (v : ℕ). get_or (set row s (gf_add (get_or row s 0) value)) v 0 ≡ gf_add (get_or row v 0) (gf_mul value (one_at v s))) (sym e)
      (get_or-set_same row s (gf_add (get_or row s 0) value) 0 within
      ∙ ap (gf_add (get_or row s 0)) (sym (gf_mul-one value byte) ∙ ap (gf_mul value) (sym (one_at-same s s refl))))
  | inr n ↦
      get_or-set_other row s u (gf_add (get_or row s 0) value) 0 n
      ∙ sym (ap (gf_add (get_or row u 0)) (ap (gf_mul value) (one_at-other u s (λ e. n (sym e))) ∙ gf_mul-zero value) ∙ gf_add-zero (get_or row u 0))
]

pub returns-clause-entries : goal.returns-clause-entries
returns-clause-entries c = λ u within.
    let batch : BatchData = c.args.batch.now in
    let row : List ℕ = c.args.row.now in
    let s : ℕ = contributor_of batch c.args.k in
    let coefs : List ℕ = c.args.coefs.now in
    let value : ℕ = c.byte-said.result in
    let place : c.contributor-s.result ≡ s = c.contributor-s.ensures in
    let is : value ≡ gf_sum batch.columns (λ j. gf_mul (get_or coefs j 0) (entry_of batch c.args.k j)) =
    c.byte-said.ensures ∙ c.dot.ensures
    ∙ ap (λ (n : ℕ). gf_sum n (λ j. gf_mul (get_or coefs j 0) (get_or c.row.result.now j 0))) c.requires.width
    ∙ gf_sum-congruence batch.columns (λ j. gf_mul (get_or coefs j 0) (get_or c.row.result.now j 0)) (λ j. gf_mul (get_or coefs j 0) (entry_of batch c.args.k j))
    (λ j below. ap (gf_mul (get_or coefs j 0)) (c.row.ensures.entries j below)) in
    let written : c.byte.result ≡ gf_add (get_or row s 0) value =
    c.byte.ensures ∙ c.add.ensures ∙ ap (λ (x : ℕ). gf_add x c.new-2.result) (c.new.ensures ∙ ap (λ (p : ℕ). get_or row p 0) place)
    ∙ ap (gf_add (get_or row s 0)) c.new-2.ensures in
    ap (λ (p : ℕ). get_or (set row p c.byte.result) u 0) place ∙ ap (λ (v : ℕ). get_or (set row s v) u 0) written
    ∙ added-at row s value u c.requires.inside c.byte-said.type_inv ∙ ap (λ (v : ℕ). gf_add (get_or row u 0) (gf_mul v (one_at u s))) is
