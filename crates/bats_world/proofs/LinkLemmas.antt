-- A table of links, written link by link.
use Rattle.std.proofs.Common.{ℕ, ◌≡◌, ◌<◌, ◌≤◌, ◌+◌, ◌*◌, ◌==◌, ◌&&◌, ◌||◌, ◌∙◌, sym, ap, refl, subst, List, [], length, get_or, set, take, replicate, Bool, true, false, inl, inr, arith, All}
use Rattle.std.proofs.lemmas.Bool.{cases_eq, eq-eqb, ne_eqb}
use Rattle.std.proofs.lemmas.List.{get_or-set_same, get_or-set_other, length-set, length-replicate, get_or-replicate}
use Rattle.std.proofs.lemmas.List.Folds.{list_any_none, list_any_more}
use Rattle.bats_world.specs.World.{has_link, IsLink}
use Rattle.bats_world.specs.Standing.{IsTableOf}
use Rattle.bats_world.specs.steps.Places.{AreNodes}

pub IsTableOf-none : (table : List Bool) → table ≡ replicate 324 false → IsTableOf [] table
IsTableOf-none table is = record {
  size = ap (λ (t : List Bool). length t) is ∙ length-replicate 324 false;
  tells = λ from to low high. ap (λ (t : List Bool). get_or t (from * 18 + to) false) is
      ∙ get_or-replicate 324 (from * 18 + to) false false (omega (arith, low, high));
}

or-true : (b : Bool) → (b || true) ≡ true
or-true true = refl
or-true false = refl

or-false : (b : Bool) → (b || false) ≡ b
or-false true = refl
or-false false = refl

pub and-true : (a b : Bool) → a ≡ true → b ≡ true → (a && b) ≡ true
and-true true b ha hb = hb
and-true false b ha hb = cc

pub and-left : (a b : Bool) → a ≡ false → (a && b) ≡ false
and-left true b h = cc
and-left false b h = refl

pub and-right : (a b : Bool) → b ≡ false → (a && b) ≡ false
and-right true b h = h
and-right false b h = refl

-- one link more
module _ (links : List (ℕ × ℕ)) (i : ℕ) (d : ℕ × ℕ) (within : i < length links) where
  abbrev link : ℕ × ℕ
  link = get_or links i d

  more : (from to : ℕ) → has_link (take (i + 1) links) from to
      ≡ (has_link (take i links) from to || (link.0 == from && link.1 == to))
  more from to = list_any_more (λ (one : ℕ × ℕ). one.0 == from && one.1 == to) links i d within

  pub IsTableOf-more : (old new : List Bool) → AreNodes link → new ≡ set old (link.0 * 18 + link.1) true
      → IsTableOf (take i links) old → IsTableOf (take (i + 1) links) new
  IsTableOf-more old new nodes is table = record {
    size = ap (λ (t : List Bool). length t) is ∙ length-set old (link.0 * 18 + link.1) true ∙ table.size;
    tells = λ from to low high. elim (cases_eq (from * 18 + to) (link.0 * 18 + link.1)) [
      | inl e ↦
          let one : link.0 ≡ from = omega (arith, e, low, high, nodes.0, nodes.1) in
          let other : link.1 ≡ to = omega (arith, e, low, high, nodes.0, nodes.1) in
          let here : get_or new (from * 18 + to) false ≡ true =
          ap (λ (t : List Bool). get_or t (from * 18 + to) false) is
          ∙ (ap (λ (n : ℕ). get_or (set old (link.0 * 18 + link.1) true) n false) e
          ∙ get_or-set_same old (link.0 * 18 + link.1) true false (omega (arith, nodes.0, nodes.1, table.size))) in
          here ∙ sym (more from to
          ∙ (ap (λ (b : Bool). has_link (take i links) from to || b)
          (and-true (link.0 == from) (link.1 == to) (eq-eqb link.0 from one) (eq-eqb link.1 to other))
          ∙ or-true (has_link (take i links) from to)))
      | inr differ ↦
          let there : get_or new (from * 18 + to) false ≡ has_link (take i links) from to =
          ap (λ (t : List Bool). get_or t (from * 18 + to) false) is
          ∙ (get_or-set_other old (link.0 * 18 + link.1) (from * 18 + to) true false differ ∙ table.tells from to low high) in
          let not_this : (link.0 == from && link.1 == to) ≡ false = elim (cases_eq link.0 from) [
            | inl one ↦ and-right (link.0 == from) (link.1 == to) (ne_eqb link.1 to (λ other. differ (omega (arith, one, other))))
            | inr apart ↦ and-left (link.0 == from) (link.1 == to) (ne_eqb link.0 from apart)
          ] in
          there ∙ sym (more from to
          ∙ (ap (λ (b : Bool). has_link (take i links) from to || b) not_this
          ∙ or-false (has_link (take i links) from to)))
    ];
  }

-- links of a network with few relays
pub AreNodes-links : (relays : ℕ) (links : List (ℕ × ℕ)) → relays ≤ 16 → All (IsLink relays) links → All AreNodes links
AreNodes-links relays links few are k d within =
    let is = are k d within in
    (omega (arith, is.from, few), omega (arith, is.high, few))

-- no link leads to the source
pub no-return : (relays : ℕ) (links : List (ℕ × ℕ)) (table : List Bool) → All (IsLink relays) links → IsTableOf links table
    → (from : ℕ) → from < 18 → get_or table (from * 18) false ≡ false
no-return relays links table are is from low =
    subst (λ (n : ℕ). get_or table n false ≡ has_link links from 0) (omega arith) (is.tells from 0 low (omega arith))
    ∙ list_any_none (λ (one : ℕ × ℕ). one.0 == from && one.1 == 0) links
    (λ k d within. and-right ((get_or links k d).0 == from) ((get_or links k d).1 == 0)
    (ne_eqb (get_or links k d).1 0 (λ e. omega (arith, e, (are k d within).low))))
