-- The numbers of the held batches: packets have one list of them.
use Rattle.std.proofs.Common.{ℕ, zero, suc, ◌≡◌, ◌<◌, ◌+◌, ◌∙◌, inl, inr, ltb, eqb, Bool, true, List, [], ◌∷◌, length, sym, subst, arith, zero-add}
use Rattle.std.specs.Prelude.{filter}
use Rattle.std.specs.List.{Contains, range_with_len}
use Rattle.std.specs.List.Sorted.{IsStrictlyIncreasing}
use Rattle.std.proofs.lemmas.Bool.{cases_Bool, cond-true, cond-false, ltb-true, lt-ltb, eqb-true}
use Rattle.std.proofs.lemmas.List.Elements.{filter_passes}
use Rattle.std.proofs.lemmas.List.FromFn.{length-range_with_len, get_or-range_with_len}
use Rattle.std.proofs.lemmas.List.Kept.{IsStrictlyIncreasing-filter}
use Rattle.bats_model.specs.Kept.{new_after, kept_of, AreHeld}
use Rattle.bats_model.specs.declared.packet.Packet.{Packet}

-- ---- there is such a list

-- a number that is above those of all batches
abbrev above_all : List Packet → ℕ
above_all [] = 0
above_all (packet ∷ packets) = suc packet.batch + above_all packets

below_all : (list : List Packet) (number : ℕ) → 0 < length (filter (λ packet. eqb packet.batch number) list) → number < above_all list
below_all [] number some = absurd (omega arith)
below_all (packet ∷ list) number some = elim (cases_Bool (eqb packet.batch number)) [
  | inl e ↦ let same : packet.batch ≡ number = eqb-true packet.batch number e in omega arith
  | inr e ↦
      let rest = filter (λ packet. eqb packet.batch number) list in
      let short = cond-false (eqb packet.batch number) (packet ∷ rest) rest e in
      let low = below_all list number (subst (λ (l : List Packet). 0 < length l) short some) in
      omega arith
]

-- what passes stays
pub kept_by : (test : ℕ → Bool) (xs : List ℕ) (x : ℕ) → Contains xs x → test x ≡ true → Contains (filter test xs) x
kept_by test [] x at passes = let within = at.1 in absurd (omega arith)
kept_by test (y ∷ ys) x (zero, within, same) passes =
    let e : y ≡ x = same in
    subst (λ l. Contains l x) (sym (cond-true (test y) (y ∷ filter test ys) (filter test ys) (subst (λ z. test z ≡ true) (sym e) passes)))
    (0, omega arith, e)
kept_by test (y ∷ ys) x (suc k, within, same) passes =
    let rest = kept_by test ys x (k, omega arith, same) passes in
    elim (cases_Bool (test y)) [
      | inl e ↦ subst (λ l. Contains l x) (sym (cond-true (test y) (y ∷ filter test ys) (filter test ys) e))
          (let low = rest.1 in (suc rest.0, omega arith, rest.2))
      | inr e ↦ subst (λ l. Contains l x) (sym (cond-false (test y) (y ∷ filter test ys) (filter test ys) e)) rest
    ]

pub in_range : (n x : ℕ) → x < n → Contains (range_with_len 0 n) x
in_range n x below = (x, rw (length-range_with_len 0 n) below, get_or-range_with_len 0 n x x below ∙ zero-add x)

range-rising : (n : ℕ) → IsStrictlyIncreasing (range_with_len 0 n)
range-rising n k within =
    let size = length-range_with_len 0 n in
    let here = get_or-range_with_len 0 n k 0 (omega arith) in
    let next = get_or-range_with_len 0 n (k + 1) 0 (omega arith) in
    omega arith

abbrev is_held : List Packet → ℕ → Bool
is_held packets number = ltb 0 (length (kept_of number packets))

pub record HasHeldNumbers (packets : List Packet) : Type 0 where
  pub numbers : List ℕ
  pub held : AreHeld packets numbers

held_where : (packets : List Packet) (numbers : List ℕ) (number : ℕ) → Contains (filter (is_held packets) numbers) number
    → 0 < length (kept_of number packets)
held_where packets numbers number at =
    ltb-true 0 (length (kept_of number packets))
    (subst (λ n. is_held packets n ≡ true) at.2 (filter_passes (is_held packets) numbers at.0 number at.1))

pub held_exists : (packets : List Packet) → HasHeldNumbers packets
held_exists packets =
    let range = range_with_len 0 (above_all (new_after [] packets)) in
    record {
      numbers = filter (is_held packets) range;
      held = record {
        rising = IsStrictlyIncreasing-filter (is_held packets) range (range-rising (above_all (new_after [] packets)));
        held = λ number. (
          held_where packets range number,
          λ some. kept_by (is_held packets) range number
              (in_range (above_all (new_after [] packets)) number (below_all (new_after [] packets) number some))
              (lt-ltb 0 (length (kept_of number packets)) some),
        );
      };
    }
