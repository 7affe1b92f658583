-- Tests of each element of a list that is made of another.
use Rattle.std.proofs.Common.{◌≡◌, Bool, true, false, ◌&&◌, ◌||◌, List, [], ◌∷◌, ◌++◌, map, refl, ap, ◌∙◌}
use Rattle.std.proofs.lemmas.Bool.{and_parts}
use Rattle.std.specs.List.{list_any, list_all}

pub list_any-map : {X Y : Type 0} (test : Y → Bool) (f : X → Y) (xs : List X) → list_any (λ x. test (f x)) xs ≡ list_any test (map f xs)
list_any-map test f [] = refl
list_any-map test f (x ∷ xs) = ap (λ b. test (f x) || b) (list_any-map test f xs)

pub list_all-map : {X Y : Type 0} (test : Y → Bool) (f : X → Y) (xs : List X) → list_all (λ x. test (f x)) xs ≡ list_all test (map f xs)
list_all-map test f [] = refl
list_all-map test f (x ∷ xs) = ap (λ b. test (f x) && b) (list_all-map test f xs)

and_assoc : (a b d : Bool) → (a && (b && d)) ≡ (a && b && d)
and_assoc true b d = refl
and_assoc false b d = refl

pub list_all-append : {X : Type 0} (test : X → Bool) (xs ys : List X) → list_all test (xs ++ ys) ≡ (list_all test xs && list_all test ys)
list_all-append test [] ys = refl
list_all-append test (x ∷ xs) ys = ap (λ b. test x && b) (list_all-append test xs ys) ∙ and_assoc (test x) (list_all test xs) (list_all test ys)

-- two tests that agree on the elements of which a third holds
pub list_all-same : {X : Type 0} (p q only : X → Bool) (xs : List X) → ((x : X) → only x ≡ true → p x ≡ q x) → list_all only xs ≡ true → list_all p xs ≡ list_all q xs
list_all-same p q only [] same h = refl
list_all-same p q only (x ∷ xs) same h =
    let parts = and_parts (only x) (list_all only xs) h in
    ap (λ b. b && list_all p xs) (same x parts.0) ∙ ap (λ b. q x && b) (list_all-same p q only xs same parts.1)
