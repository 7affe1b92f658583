-- Kept packets with their factors in place of their payloads, and the factors of combinations of them.
use Rattle.std.proofs.Common.{ℕ, zero, suc, ◌≡◌, ◌≢◌, ◌<◌, ◌≤◌, ◌+◌, ◌-◌, ◌∙◌, ◌==◌, cond, List, [], ◌∷◌, ◌++◌, length, get_or, set, map, replicate, sym, ap, subst, refl, arith, inl, inr, length-append}
use Rattle.std.specs.Prelude.{All}
use Rattle.std.proofs.lemmas.Bool.{cases_eq, cond-true, cond-false, eq-eqb, ne_eqb}
use Rattle.std.proofs.lemmas.List.{length-set, length-replicate, ext_get_or, get_or-set_other, get_or-replicate, get_or-append-add, set-append_right}
use Rattle.std.proofs.lemmas.Grind.{get_or-set_at}
use Rattle.std.proofs.lemmas.List.Elements.{All-head, All-tail}
use Rattle.std.proofs.lemmas.List.FromFn.{get_or-map-range_with_len}
use Rattle.gf_core.specs.Bytes.{AreBytes}
use Rattle.gf_core.specs.Field.{gf_add, gf_mul}
use Rattle.gf_core.specs.Combinations.{combination}
use Rattle.gf_core.proofs.AddLemmas.{zero-gf_add, gf_add-zero}
use Rattle.gf_core.proofs.ProductLemmas.{gf_mul-zero, gf_mul-one}
use Rattle.gf_core.proofs.RowLemmas.{get_or-add_scaled_row}
use Rattle.gf_core.proofs.CombinationLemmas.{length-combination}
use Rattle.bats_model.specs.Coded.{unit_vector}
use Rattle.bats_model.specs.declared.packet.Packet.{Packet}
use Rattle.bats_model.specs.Kept.{packet_row}
use Rattle.bats_model.proofs.UnitVectors.{length-unit_vector, unit_vector-lt}
use Rattle.bats_batch.specs.Basis.{IsSized}
use Rattle.bats_batch.specs.steps.Marked.{marked, marked_from}

-- ---- numbers

behind : (m number : ℕ) → m + number - m ≡ number
behind m number = omega arith

no-more : (number : ℕ) → number + 0 ≡ number
no-more number = omega arith

from-none : (i : ℕ) → 0 + i ≡ i
from-none i = omega arith

one-more : (number i : ℕ) → number + suc i ≡ suc number + i
one-more number i = omega arith

-- ---- entries of a unit vector

unit-entry : (m k i : ℕ) → i < m → get_or (unit_vector m k) i 0 ≡ cond (i == k) 1 0
unfolding unit_vector
unit-entry m k i h = get_or-map-range_with_len (λ i. cond (i == k) 1 0) 0 m i i 0 h (omega arith)

pub unit-one : (m k : ℕ) → k < m → get_or (unit_vector m k) k 0 ≡ 1
unit-one m k h = unit-entry m k k h ∙ cond-true (k == k) 1 0 (eq-eqb k k refl)

pub unit-zero : (m k i : ℕ) → i < m → i ≢ k → get_or (unit_vector m k) i 0 ≡ 0
unit-zero m k i h other = unit-entry m k i h ∙ cond-false (i == k) 1 0 (ne_eqb i k other)

-- zeros with 1 at a place, if there is one
unit-set : (m k : ℕ) → set (replicate m 0) k 1 ≡ unit_vector m k
unit-set m k = ext_get_or 0 (set (replicate m 0) k 1) (unit_vector m k) (long ∙ sym (length-unit_vector m k)) entry
  where
    long : length {A = ℕ} (set (replicate m 0) k 1) ≡ m
    long = length-set (replicate m 0) k 1 ∙ length-replicate m 0

    entry : (i : ℕ) → i < length {A = ℕ} (set (replicate m 0) k 1) → get_or (set (replicate m 0) k 1) i 0 ≡ get_or (unit_vector m k) i 0
    entry i h =
        let inside : i < m = subst (λ (n : ℕ). i < n) long h in
        elim (cases_eq i k) [
          | inl here ↦
              get_or-set_at (replicate m 0) k i 1 0 here (omega (arith, here, inside, length-replicate {A = ℕ} m 0))
              ∙ sym (ap (λ (n : ℕ). get_or (unit_vector m k) n 0) here ∙ unit-one m k (omega (arith, here, inside)))
          | inr other ↦
              get_or-set_other (replicate m 0) k i 1 0 other ∙ get_or-replicate m i 0 0 inside ∙ sym (unit-zero m k i inside other)
        ]

-- coefficients and zeros, of which one is made 1
pub packet_row-marked : (m number : ℕ) (packet : Packet) (row : List ℕ) → length packet.coefs ≡ m → row ≡ packet.coefs ++ replicate m 0
    → set row (m + number) 1 ≡ packet_row (marked m number packet)
packet_row-marked m number packet row size is =
    ap (λ (r : List ℕ). set r (m + number) 1) is
    ∙ set-append_right packet.coefs (replicate m 0) m (m + number) 1 size (omega arith)
    ∙ ap (λ (n : ℕ). packet.coefs ++ set (replicate m 0) n 1) (behind m number)
    ∙ ap (λ (factors : List ℕ). packet.coefs ++ factors) (unit-set m number)

-- a factor of a marked packet
pub factor-of : (m number i : ℕ) (packet : Packet) → length packet.coefs ≡ m
    → get_or (packet_row (marked m number packet)) (m + i) 0 ≡ get_or (unit_vector m number) i 0
factor-of m number i packet size =
    ap (λ (n : ℕ). get_or (packet.coefs ++ unit_vector m number) (n + i) 0) (sym size)
    ∙ get_or-append-add packet.coefs (unit_vector m number) i 0

-- ---- sizes

pub IsSized-marked : (m t number : ℕ) (packet : Packet) → IsSized m t packet → IsSized m m (marked m number packet)
IsSized-marked m t number packet size = record {
  coefs = size.coefs;
  payload = length-unit_vector m number;
  coef_bytes = size.coef_bytes;
  payload_bytes = unit_vector-lt m number;
}

pub length-marked_row : (m number : ℕ) (packet : Packet) → length packet.coefs ≡ m → length (packet_row (marked m number packet)) ≡ m + m
length-marked_row m number packet size = omega (arith, length-append packet.coefs (unit_vector m number), size, length-unit_vector m number)

pub length-marked : (m number : ℕ) (packets : List Packet) → length (marked_from m number packets) ≡ length packets
length-marked m number [] = refl
length-marked m number (packet ∷ packets) = ap suc (length-marked m (suc number) packets)

-- the coefficients are as they were
pub coefs-marked : (m number : ℕ) (packets : List Packet) → map (λ p. p.coefs) (marked_from m number packets) ≡ map (λ p. p.coefs) packets
coefs-marked m number [] = refl
coefs-marked m number (packet ∷ packets) = ap (λ (rest : List (List ℕ)). packet.coefs ∷ rest) (coefs-marked m (suc number) packets)

-- one packet more at the end
marked-push : (m number : ℕ) (packets : List Packet) (packet : Packet)
    → marked_from m number (packets ++ packet ∷ []) ≡ marked_from m number packets ++ marked m (number + length packets) packet ∷ []
marked-push m number [] packet = ap (λ (n : ℕ). marked m n packet ∷ []) (sym (no-more number))
marked-push m number (first ∷ packets) packet =
    ap (λ (rest : List Packet). marked m number first ∷ rest)
    (marked-push m (suc number) packets packet
    ∙ ap (λ (n : ℕ). marked_from m (suc number) packets ++ marked m n packet ∷ []) (sym (one-more number (length packets))))

-- numbered from 0 on
pub marked-push_all : (m : ℕ) (packets : List Packet) (packet : Packet)
    → marked_from m 0 (packets ++ packet ∷ []) ≡ marked_from m 0 packets ++ marked m (length packets) packet ∷ []
marked-push_all m packets packet =
    marked-push m 0 packets packet ∙ ap (λ (n : ℕ). marked_from m 0 packets ++ marked m n packet ∷ []) (from-none (length packets))

-- ---- the factors of a combination

next-factor : (width : ℕ) (c : ℕ) (cs row : List ℕ) (rows : List (List ℕ)) (place : ℕ) → place < width
    → get_or (combination width (c ∷ cs) (row ∷ rows)) place 0 ≡ gf_add (get_or (combination width cs rows) place 0) (gf_mul c (get_or row place 0))
unfolding combination
next-factor width c cs row rows place h =
    get_or-add_scaled_row (combination width cs rows) c row place (subst (λ (n : ℕ). place < n) (sym (length-combination width cs rows)) h)

no-factor : (width : ℕ) (cs : List ℕ) (place : ℕ) → place < width → get_or (combination width cs []) place 0 ≡ 0
unfolding combination
no-factor width [] place h = get_or-replicate width place 0 0 h
no-factor width (c ∷ cs) place h = get_or-replicate width place 0 0 h

-- packets numbered from a number on have no factor before it
factor-before : (m t number : ℕ) (cs : List ℕ) (packets : List Packet) (i : ℕ) → All (IsSized m t) packets → i < number → i < m
    → get_or (combination (m + m) cs (map packet_row (marked_from m number packets))) (m + i) 0 ≡ 0
unfolding combination
factor-before m t number cs [] i sizes before inside = no-factor (m + m) cs (m + i) (omega arith)
factor-before m t number [] (packet ∷ packets) i sizes before inside = get_or-replicate (m + m) (m + i) 0 0 (omega arith)
factor-before m t number (c ∷ cs) (packet ∷ packets) i sizes before inside =
    next-factor (m + m) c cs (packet_row (marked m number packet)) (map packet_row (marked_from m (suc number) packets)) (m + i) (omega arith)
    ∙ ap (λ (x : ℕ). gf_add x (gf_mul c (get_or (packet_row (marked m number packet)) (m + i) 0)))
    (factor-before m t (suc number) cs packets i (All-tail (IsSized m t) packet packets sizes) (omega arith) inside)
    ∙ ap (λ (x : ℕ). gf_add 0 (gf_mul c x))
    (factor-of m number i packet (All-head (IsSized m t) packet packets sizes).coefs ∙ unit-zero m number i inside (omega arith))
    ∙ zero-gf_add (gf_mul c 0) ∙ gf_mul-zero c

-- and those of the combination are the factors that it was made by
factor-at : (m t number : ℕ) (cs : List ℕ) (packets : List Packet) (i : ℕ) → All (IsSized m t) packets → AreBytes cs
    → length cs ≡ length packets → i < length packets → number + length packets ≤ m
    → get_or (combination (m + m) cs (map packet_row (marked_from m number packets))) (m + (number + i)) 0 ≡ get_or cs i 0
factor-at m t number cs [] i sizes bytes long inside few = absurd (omega arith)
factor-at m t number [] (packet ∷ packets) i sizes bytes long inside few = absurd (omega arith)
factor-at m t number (c ∷ cs) (packet ∷ packets) zero sizes bytes long inside few =
    ap (λ (n : ℕ). get_or (combination (m + m) (c ∷ cs) (map packet_row (marked_from m number (packet ∷ packets)))) (m + n) 0)
    (no-more number)
    ∙ next-factor (m + m) c cs (packet_row (marked m number packet)) (map packet_row (marked_from m (suc number) packets)) (m + number) (omega arith)
    ∙ ap (λ (x : ℕ). gf_add x (gf_mul c (get_or (packet_row (marked m number packet)) (m + number) 0)))
    (factor-before m t (suc number) cs packets number (All-tail (IsSized m t) packet packets sizes) (omega arith) (omega arith))
    ∙ zero-gf_add (gf_mul c (get_or (packet_row (marked m number packet)) (m + number) 0))
    ∙ ap (gf_mul c) (factor-of m number number packet (All-head (IsSized m t) packet packets sizes).coefs ∙ unit-one m number (omega arith))
    ∙ gf_mul-one c (All-head (λ byte. byte < 256) c cs bytes)
factor-at m t number (c ∷ cs) (packet ∷ packets) (suc i) sizes bytes long inside few =
    next-factor (m + m) c cs (packet_row (marked m number packet)) (map packet_row (marked_from m (suc number) packets)) (m + (number + suc i)) (omega arith)
    ∙ ap (λ (x : ℕ). gf_add (get_or rest (m + (number + suc i)) 0) (gf_mul c x))
    (factor-of m number (number + suc i) packet (All-head (IsSized m t) packet packets sizes).coefs
    ∙ unit-zero m number (number + suc i) (omega arith) (λ same. omega (arith, same)))
    ∙ ap (gf_add (get_or rest (m + (number + suc i)) 0)) (gf_mul-zero c)
    ∙ ap (λ (n : ℕ). gf_add (get_or rest (m + n) 0) 0) (one-more number i)
    ∙ ap (λ (x : ℕ). gf_add x 0)
    (factor-at m t (suc number) cs packets i (All-tail (IsSized m t) packet packets sizes) (All-tail (λ byte. byte < 256) c cs bytes) (omega arith) (omega arith) (omega arith))
    ∙ gf_add-zero (get_or cs i 0)
  where
    rest : List ℕ
    rest = combination (m + m) cs (map packet_row (marked_from m (suc number) packets))

pub factor-of_combination : (m t : ℕ) (cs : List ℕ) (packets : List Packet) (i : ℕ) → All (IsSized m t) packets → AreBytes cs
    → length cs ≡ length packets → i < length packets → length packets ≤ m
    → get_or (combination (m + m) cs (map packet_row (marked_from m 0 packets))) (m + i) 0 ≡ get_or cs i 0
factor-of_combination m t cs packets i sizes bytes long inside few =
    ap (λ (n : ℕ). get_or (combination (m + m) cs (map packet_row (marked_from m 0 packets))) (m + n) 0) (sym (from-none i))
    ∙ factor-at m t 0 cs packets i sizes bytes long inside (omega (arith, few))
