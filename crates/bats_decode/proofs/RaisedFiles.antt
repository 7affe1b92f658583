-- A file in which the first byte of one symbol after another is raised.
use Rattle.std.proofs.Common.{ℕ, ◌≡◌, ◌≢◌, ◌⊎◌, inl, inr, ◌<◌, ◌≤◌, ◌+◌, ◌*◌, ◌∙◌, List, length, get_or, set, sym, ap, subst, arith}
use Rattle.std.proofs.Math.Nat.{mul-le-mul_right}
use Rattle.std.proofs.lemmas.Bool.{cases_eq}
use Rattle.std.proofs.lemmas.Grind.{div_ceil_times}
use Rattle.std.proofs.lemmas.List.{get_or-set_same, get_or-set_other}
use Rattle.gf_core.specs.Field.{gf_add}
use Rattle.gf_rows.proofs.BufferLemmas.{rows_apart}
use Rattle.bats_model.specs.Session.{symbol_count}

-- the symbols of a session begin within the file
pub begins-within : (size t s : ℕ) → 0 < t → s < symbol_count size t → s * t < size
begins-within size t s some h =
    let more : (s + 1) * t ≤ symbol_count size t * t = mul-le-mul_right t (omega arith) in
    omega (arith, more, div_ceil_times size t some)

-- other symbols begin elsewhere
pub starts-apart : (t k s : ℕ) → 0 < t → k ≢ s → k * t ≢ s * t
starts-apart t k s some other = by_order (rows_apart t k s other)
  where
    by_order : ((k * t + t ≤ s * t) ⊎ (s * t + t ≤ k * t)) → k * t ≢ s * t
    by_order (inl below) = λ e. omega arith
    by_order (inr above) = λ e. omega arith

-- no symbol begins within another
pub insides-apart : (t k s c : ℕ) → 0 < c → c < t → k * t + c ≢ s * t
insides-apart t k s c some h = by_case (cases_eq k s)
  where
    by_order : ((k * t + t ≤ s * t) ⊎ (s * t + t ≤ k * t)) → k * t + c ≢ s * t
    by_order (inl below) = λ e. omega arith
    by_order (inr above) = λ e. omega arith

    by_case : ((k ≡ s) ⊎ (k ≢ s)) → k * t + c ≢ s * t
    by_case (inl same) = subst (λ n. k * t + c ≢ n * t) same (λ e. omega arith)
    by_case (inr other) = by_order (rows_apart t k s other)

-- a byte elsewhere stays
pub stays : (file new : List ℕ) (at x i : ℕ) → new ≡ set file at x → i ≢ at → get_or new i 0 ≡ get_or file i 0
stays file new at x i e other = ap (λ (xs : List ℕ). get_or xs i 0) e ∙ get_or-set_other file at i x 0 other

-- the symbols below the next one are raised
pub raised-below : (first file new : List ℕ) (t s : ℕ) (change : ℕ → ℕ) → 0 < t → s * t < length file
    → get_or file (s * t) 0 ≡ get_or first (s * t) 0
    → ((k : ℕ) → k < s → get_or file (k * t) 0 ≡ gf_add (get_or first (k * t) 0) (change k))
    → new ≡ set file (s * t) (gf_add (get_or file (s * t) 0) (change s))
    → (k : ℕ) → k < s + 1 → get_or new (k * t) 0 ≡ gf_add (get_or first (k * t) 0) (change k)
raised-below first file new t s change some inside same below e k h = by_case (cases_eq k s)
  where
    here : get_or new (s * t) 0 ≡ gf_add (get_or first (s * t) 0) (change s)
    here =
        ap (λ (xs : List ℕ). get_or xs (s * t) 0) e
        ∙ get_or-set_same file (s * t) (gf_add (get_or file (s * t) 0) (change s)) 0 inside
        ∙ ap (λ (b : ℕ). gf_add b (change s)) same

    by_case : ((k ≡ s) ⊎ (k ≢ s)) → get_or new (k * t) 0 ≡ gf_add (get_or first (k * t) 0) (change k)
    by_case (inl at_s) = subst (λ n. get_or new (n * t) 0 ≡ gf_add (get_or first (n * t) 0) (change n)) (sym at_s) here
    by_case (inr other) =
        stays file new (s * t) (gf_add (get_or file (s * t) 0) (change s)) (k * t) e (starts-apart t k s some other)
        ∙ below k (omega arith)
