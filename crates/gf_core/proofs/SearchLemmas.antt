-- What a search over the lists of n bytes decides: some list passes the test, or each fails it.
use Rattle.std.proofs.Common.{ℕ, zero, suc, ◌≡◌, ◌<◌, ◌⊎◌, inl, inr, Bool, true, false, List, [], ◌∷◌, length, ap, refl, subst, arith}
use Rattle.std.proofs.lemmas.Bool.{false≢true, both_ways, cases_eq, cases_Bool, or_cases, or_left, or_right, false_from_ne_true}
use Rattle.std.proofs.lemmas.List.Elements.{All-nil, All-cons, All-head, All-tail}
use Rattle.gf_core.specs.Bytes.{AreBytes, some_below, some_bytes}

some_below-found : (n : ℕ) (test : ℕ → Bool) → some_below n test ≡ true → (k : ℕ) × (k < n) × (test k ≡ true)
unfolding some_below
some_below-found zero test h = absurd (false≢true h)
some_below-found (suc n) test h =
    elim (or_cases (test n) (some_below n test) h) [
      | inl e ↦ (n, omega arith, e)
      | inr e ↦ let w = some_below-found n test e in (w.0, omega (arith, w.1), w.2)
    ]

found-some_below : (n : ℕ) (test : ℕ → Bool) (k : ℕ) → k < n → test k ≡ true → some_below n test ≡ true
unfolding some_below
found-some_below zero test k within h = absurd (omega arith)
found-some_below (suc n) test k within h =
    elim (cases_eq k n) [
      | inl e ↦ or_left (test n) (some_below n test) (subst (λ j. test j ≡ true) e h)
      | inr e ↦ or_right (test n) (some_below n test) (found-some_below n test k (omega arith) h)
    ]

-- a list of n bytes that passes the test
pub record Found (n : ℕ) (test : List ℕ → Bool) : Type 0 where
  pub list : List ℕ
  pub bytes : AreBytes list
  pub size : length list ≡ n
  pub passes : test list ≡ true

-- where the search says that there is such a list, there is one
pub some_bytes-found : (n : ℕ) (test : List ℕ → Bool) → some_bytes n test ≡ true → Found n test
unfolding some_bytes
some_bytes-found zero test h = record { list = []; bytes = All-nil (λ byte. byte < 256); size = refl; passes = h }
some_bytes-found (suc n) test h =
    let first = some_below-found 256 (λ byte. some_bytes n (λ bytes. test (byte ∷ bytes))) h in
    let rest = some_bytes-found n (λ bytes. test (first.0 ∷ bytes)) first.2 in
    record {
      list = first.0 ∷ rest.list;
      bytes = All-cons (λ byte. byte < 256) first.0 rest.list first.1 rest.bytes;
      size = ap suc rest.size;
      passes = rest.passes;
    }

-- where there is such a list, the search says so
pub found-some_bytes : (n : ℕ) (test : List ℕ → Bool) (list : List ℕ) → AreBytes list → length list ≡ n → test list ≡ true → some_bytes n test ≡ true
unfolding some_bytes
found-some_bytes zero test [] bytes size h = h
found-some_bytes zero test (x ∷ xs) bytes size h = absurd (omega arith)
found-some_bytes (suc n) test [] bytes size h = absurd (omega arith)
found-some_bytes (suc n) test (x ∷ xs) bytes size h =
    found-some_below 256 (λ byte. some_bytes n (λ bytes. test (byte ∷ bytes))) x (All-head (λ byte. byte < 256) x xs bytes)
    (found-some_bytes n (λ bytes. test (x ∷ bytes)) xs (All-tail (λ byte. byte < 256) x xs bytes) (omega arith) h)

-- some list of n bytes passes the test, or each fails it
pub cases_bytes : (n : ℕ) (test : List ℕ → Bool) → Found n test ⊎ ((list : List ℕ) → AreBytes list → length list ≡ n → test list ≡ false)
cases_bytes n test =
    elim (cases_Bool (some_bytes n test)) [
      | inl e ↦ inl (some_bytes-found n test e)
      | inr e ↦ inr (λ list bytes size. false_from_ne_true (test list) (λ passes. both_ways (some_bytes n test) e (found-some_bytes n test list bytes size passes)))
    ]
