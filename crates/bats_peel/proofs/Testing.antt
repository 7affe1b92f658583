-- Tests that needn't be made again: a batch that failed fails while as many of its contributors are outside.
use Rattle.std.proofs.Common.{ℕ, zero, suc, ◌≡◌, ◌<◌, ◌≤◌, ◌∙◌, inl, inr, not, Bool, true, false, List, [], ◌∷◌, length, replicate, get_or, sym, ap, refl, subst, arith, Some, None, slice_get, count_by}
use Rattle.std.specs.Prelude.{slice_set}
use Rattle.std.proofs.lemmas.Bool.{cases_eq, both_ways}
use Rattle.std.proofs.lemmas.List.{length-set, length-replicate, get_or-replicate, get_or-set_same, get_or-set_other}
use Rattle.std.proofs.lemmas.List.Sums.{sum_by-cons, sum_by-le-sum_by, get_or-le-sum_by}
use Rattle.std.proofs.lemmas.Option.{slice_get_within}
use Rattle.bats_model.specs.Batch.{degree_of, contributor_of}
use Rattle.bats_model.specs.Peeling.{is_in}
use Rattle.bats_peel.specs.declared.local.Local.{Local}
use Rattle.bats_peel.specs.steps.Fixing.{FixesAs}
use Rattle.bats_peel.specs.steps.Search.{IsPart, unknown_contributors, AreTested}
use Rattle.bats_peel.proofs.Counting.{hit}
use Rattle.bats_peel.proofs.Marking.{part-itself, part-then}
use Rattle.bats_peel.proofs.Walking.{same_local}

-- ---- sets with as many outside

-- 1 for a symbol outside
abbrev miss_in : List Bool → ℕ → ℕ
miss_in set s = hit (not (is_in set s))

not_less : (b c : Bool) → (b ≡ true → c ≡ true) → hit (not c) ≤ hit (not b)
not_less true true h = omega arith
not_less true false h = absurd (both_ways false refl (h refl))
not_less false true h = omega arith
not_less false false h = omega arith

same_bit : (b c : Bool) → hit (not c) ≡ hit (not b) → c ≡ b
same_bit true true h = refl
same_bit true false h = absurd (omega arith)
same_bit false true h = absurd (omega arith)
same_bit false false h = refl

fewer_unknown : (set larger : List Bool) (symbols : List ℕ) → IsPart set larger
    → count_by (λ s. not (is_in larger s)) symbols ≤ count_by (λ s. not (is_in set s)) symbols
fewer_unknown set larger symbols part =
    sum_by-le-sum_by (miss_in larger) (miss_in set) symbols (λ s. not_less (is_in set s) (is_in larger s) (part.keeps s))

-- a larger set with as many of some symbols outside has the same of them
agree : (set larger : List Bool) (symbols : List ℕ) → IsPart set larger
    → count_by (λ s. not (is_in larger s)) symbols ≡ count_by (λ s. not (is_in set s)) symbols
    → (k : ℕ) → k < length symbols → is_in larger (get_or symbols k 0) ≡ is_in set (get_or symbols k 0)
agree set larger [] part same k within = absurd (omega arith)
agree set larger (s ∷ symbols) part same zero within =
    same_bit (is_in set s) (is_in larger s) (omega (
      arith,
      same,
      sum_by-cons (miss_in larger) s symbols,
      sum_by-cons (miss_in set) s symbols,
      fewer_unknown set larger symbols part,
      not_less (is_in set s) (is_in larger s) (part.keeps s),
    ))
agree set larger (s ∷ symbols) part same (suc k) within =
    agree set larger symbols part (omega (
      arith,
      same,
      sum_by-cons (miss_in larger) s symbols,
      sum_by-cons (miss_in set) s symbols,
      fewer_unknown set larger symbols part,
      not_less (is_in set s) (is_in larger s) (part.keeps s),
    )) k (omega arith)

-- what fails at the set fails there
fails-same : (local : Local) (set larger : List Bool)
    → ((k : ℕ) → k < degree_of local.batch → is_in larger (contributor_of local.batch k) ≡ is_in set (contributor_of local.batch k))
    → FixesAs local set None → FixesAs local larger None
fails-same local set larger same (inl none) = inl (λ k out. none k (out.0, sym (same k out.0) ∙ out.1))
fails-same local set larger same (inr not_fixes) = inr (λ fixes. not_fixes (λ values hidden. fixes values (record {
  bytes = hidden.bytes;
  zero_inside = λ k within h. hidden.zero_inside k within (sym (same k within) ∙ h);
  zero_rows = hidden.zero_rows;
})))

-- ---- what tests have shown

-- where no contributor is outside there is nothing to fix
none_outside : (local : Local) (set : List Bool) → unknown_contributors local set ≡ 0 → FixesAs local set None
none_outside local set none = inl (λ k out.
    let one : hit (not (is_in set (contributor_of local.batch k))) ≡ 1 = ap (λ (b : Bool). hit (not b)) out.1 in
    let most = get_or-le-sum_by (miss_in set) local.batch.contributors k 0 out.0 in
    absurd (omega (arith, none, one, most)))

pub tested-begin : (locals : List Local) (set : List Bool) → AreTested locals set (replicate (length locals) 0)
tested-begin locals set = record {
  size = length-replicate (length locals) 0;
  fails = λ place local larger at part same.
      none_outside local larger (same ∙ get_or-replicate (length locals) place 0 0 (slice_get_within locals place local at));
}

pub tested-grown : (locals : List Local) (set larger : List Bool) (tested : List ℕ) → IsPart set larger → AreTested locals set tested
    → AreTested locals larger tested
tested-grown locals set larger tested part are = record {
  size = are.size;
  fails = λ place local other at more same. are.fails place local other at (part-then set larger other part more) same;
}

pub tested-now : (locals : List Local) (set : List Bool) (tested : List ℕ) (place : ℕ) (local : Local) → AreTested locals set tested
    → slice_get locals place ≡ Some local → unknown_contributors local set ≡ get_or tested place 0 → FixesAs local set None
tested-now locals set tested place local are at same = are.fails place local set at (part-itself set) same

-- one more test, that failed
pub tested-failed : (locals : List Local) (set : List Bool) (tested : List ℕ) (place count : ℕ) (local : Local) → AreTested locals set tested
    → slice_get locals place ≡ Some local → count ≡ unknown_contributors local set → FixesAs local set None
    → AreTested locals set (slice_set tested place count)
tested-failed locals set tested place count local are at is fails = record {
  size = length-set tested place count ∙ are.size;
  fails = λ i other larger there part same. elim (cases_eq i place) [
    | inl e ↦
        let one : local ≡ other = same_local locals place i local other (sym e) at there in
        let within : place < length tested = omega (arith, are.size, slice_get_within locals place local at) in
        let now : unknown_contributors local larger ≡ unknown_contributors local set =
        ap (λ (l : Local). unknown_contributors l larger) one ∙ same ∙ ap (λ (n : ℕ). get_or (slice_set tested place count) n 0) e
        ∙ get_or-set_same tested place count 0 within ∙ is in
        subst (λ (l : Local). FixesAs l larger None) one
        (fails-same local set larger (agree set larger local.batch.contributors part now) fails)
    | inr apart ↦ are.fails i other larger there part (same ∙ get_or-set_other tested place i count 0 apart)
  ];
}
