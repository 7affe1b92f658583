-- Progress of the search: tries, rounds and growth, one after another.
use Rattle.std.proofs.Common.{ℕ, ◌≡◌, ◌≤◌, ◌+◌, ◌∙◌, inl, inr, Bool, List, [], ◌∷◌, ◌++◌, length, sym, ap, refl, subst, arith, Some, None, slice_get}
use Rattle.std.proofs.lemmas.Bool.{cases_lt}
use Rattle.std.proofs.lemmas.List.{append-nil, append_assoc, length-append, nil_from_length}
use Rattle.bats_peel.specs.declared.local.Local.{Local}
use Rattle.bats_peel.specs.declared.order.Progress.{Progress}
use Rattle.bats_peel.specs.declared.order.Step.{Step}
use Rattle.bats_peel.specs.steps.Fixing.{FixesAs}
use Rattle.bats_peel.specs.steps.Search.{marked, IsTakenAt, Walks, FailsAt, Goes, Tries, Grows}
use Rattle.bats_peel.proofs.SymbolSets.{outside_count}
use Rattle.bats_peel.proofs.Walking.{AreLocal, walks-size, walks-append, walks-fewer, same_local}

-- ---- progress

pub goes-none : (locals : List Local) (now : Progress) → Goes locals now.known.items now.steps.items now
goes-none locals now = record { more = []; all = sym (append-nil now.steps.items); walks = refl }

pub goes-then : (locals : List Local) (set : List Bool) (steps : List Step) (middle now : Progress) → Goes locals set steps middle
    → Goes locals middle.known.items middle.steps.items now → Goes locals set steps now
goes-then locals set steps middle now first second = record {
  more = first.more ++ second.more;
  all = second.all ∙ ap (λ (l : List Step). l ++ second.more) first.all ∙ append_assoc steps first.more second.more;
  walks = walks-append locals set first.more middle.known.items second.more now.known.items first.walks second.walks;
}

pub goes-size : (locals : List Local) (set : List Bool) (steps : List Step) (now : Progress) → Goes locals set steps now
    → length now.known.items ≡ length set
goes-size locals set steps now goes = walks-size locals set goes.more now.known.items goes.walks

pub goes-longer : (locals : List Local) (set : List Bool) (steps : List Step) (now : Progress) → (goes : Goes locals set steps now)
    → length now.steps.items ≡ length steps + length goes.more
goes-longer locals set steps now goes = ap (λ (l : List Step). length l) goes.all ∙ length-append steps goes.more

-- as many more symbols are known as there are more steps, at least
pub goes-fewer : (locals : List Local) (n : ℕ) (set : List Bool) (steps : List Step) (now : Progress) → AreLocal n locals
    → length set ≡ n → Goes locals set steps now
    → outside_count n now.known.items + length now.steps.items ≤ outside_count n set + length steps
goes-fewer locals n set steps now are size goes =
    omega (
      arith,
      goes-longer locals set steps now goes,
      walks-fewer locals n set goes.more now.known.items are size goes.walks,
    )

-- with no step more what is known is the same
pub goes-idle : (locals : List Local) (set : List Bool) (steps : List Step) (now : Progress) → Goes locals set steps now
    → length now.steps.items ≡ length steps → set ≡ now.known.items
goes-idle locals set steps now goes same =
    let none : goes.more ≡ [] = nil_from_length goes.more (omega (arith, same, goes-longer locals set steps now goes)) in
    subst (λ (l : List Step). Walks locals set l now.known.items) none goes.walks

-- ---- tries

pub tries-none : (locals : List Local) (place : ℕ) (now : Progress) → Tries locals place place now now
tries-none locals place now = record {
  goes = goes-none locals now;
  fails = λ same i low high. absurd (omega (arith, low, high));
}

pub tries-then : (locals : List Local) (low middle high : ℕ) (before between now : Progress) → Tries locals low middle before between
    → Tries locals middle high between now → Tries locals low high before now
tries-then locals low middle high before between now first second = record {
  goes = goes-then locals before.known.items before.steps.items between now first.goes second.goes;
  fails = λ same i from to.
      let one = goes-longer locals before.known.items before.steps.items between first.goes in
      let two = goes-longer locals between.known.items between.steps.items now second.goes in
      let idle : length between.steps.items ≡ length before.steps.items = omega (arith, same, one, two) in
      elim (cases_lt i middle) [
        | inl early ↦ first.fails idle i from early
        | inr late ↦
            subst (λ (set : List Bool). FailsAt locals set i)
            (sym (goes-idle locals before.known.items before.steps.items between first.goes idle))
            (second.fails (omega (arith, same, one, two)) i late to)
      ];
}

-- a local that fails
pub tries-failed : (locals : List Local) (place : ℕ) (local : Local) (before now : Progress) → slice_get locals place ≡ Some local
    → before.known.items ≡ now.known.items → now.steps.items ≡ before.steps.items → FixesAs local before.known.items None
    → Tries locals place (place + 1) before now
tries-failed locals place local before now at known steps fails = record {
  goes = record { more = []; all = steps ∙ sym (append-nil before.steps.items); walks = known };
  fails = λ same i low high other stands.
      let here : place ≡ i = omega (arith, low, high) in
      let one : local ≡ other = same_local locals place i local other here at stands in
      subst (λ (l : Local). FixesAs l before.known.items None) one fails;
}

-- one that is taken
pub tries-taken : (locals : List Local) (place : ℕ) (local : Local) (before now : Progress) (step : Step) → step.place ≡ place
    → slice_get locals place ≡ Some local → FixesAs local before.known.items (Some step.fixing)
    → now.steps.items ≡ before.steps.items ++ step ∷ []
    → now.known.items ≡ marked before.known.items local.batch.contributors
    → Tries locals place (place + 1) before now
tries-taken locals place local before now step own at how all known =
    let taken : IsTakenAt locals before.known.items step local =
    record {
      stands = ap (λ (n : ℕ). slice_get locals n) own ∙ at;
      some = how.0;
      fixes = how.1.0;
      fixing = how.1.1;
    } in
    record {
      goes = record { more = step ∷ []; all = all; walks = (local, (taken, sym known)) };
      fails = λ same.
          let longer : length now.steps.items ≡ length before.steps.items + 1 =
          ap (λ (l : List Step). length l) all ∙ length-append before.steps.items (step ∷ []) in
          absurd (omega (arith, same, longer));
    }

-- ---- rounds

-- after a round without a step there is none
pub grows-end : (locals : List Local) (set : List Bool) (steps : List Step) (before now : Progress) → Goes locals set steps before
    → Tries locals 0 (length locals) before now → length now.steps.items ≡ length before.steps.items → Grows locals set steps now
grows-end locals set steps before now goes tries same = record {
  goes = goes-then locals set steps before now goes tries.goes;
  still = λ place within.
      subst (λ (known : List Bool). FailsAt locals known place)
      (goes-idle locals before.known.items before.steps.items now tries.goes same)
      (tries.fails same place (omega arith) within);
}
