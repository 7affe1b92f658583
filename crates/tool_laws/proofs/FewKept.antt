-- No more packets of a list are kept than there are packets that they are chosen from.
use Rattle.std.proofs.Common.{ℕ, zero, suc, ◌≡◌, ◌+◌, ◌<◌, ◌≤◌, ◌==◌, ◌∙◌, sym, ap, refl, subst, inl, inr, Bool, true, false, cond, List, [], ◌∷◌, ◌++◌, length, arith}
use Rattle.std.specs.Prelude.{filter, slice_index_or}
use Rattle.std.specs.List.{All, Contains}
use Rattle.std.proofs.lemmas.Bool.{cases_Bool, eq-eqb, false_from_ne_true}
use Rattle.std.proofs.lemmas.List.{append-nil, length-append, map-append}
use Rattle.std.proofs.lemmas.List.Elements.{All-nil, All-head, All-tail, All-push, All-filter, filter-append}
use Rattle.gf_core.proofs.LinearRows.{AreRows}
use Rattle.gf_core.proofs.CombinationLemmas.{IsInSpan-push, IsInSpan-last}
use Rattle.bats_model.specs.Kept.{IsCombination, coefs_of, vectors_of, packets_in, is_new, new_after, kept_count}
use Rattle.bats_model.specs.declared.packet.Packet.{Packet}
use Rattle.bats_model.proofs.NewPackets.{is_new-Decides, if_new}
use Rattle.bats_model.proofs.KeptSpans.{HasVector, AreRows-coefs}

-- ---- a packet and its vector after some packets

one_more : (batch : ℕ) (packets : List Packet) (packet : Packet)
    → vectors_of batch (packets ++ packet ∷ []) ≡ vectors_of batch packets ++ coefs_of (packets_in batch (packet ∷ []))
one_more batch packets packet =
    ap coefs_of (filter-append (λ (p : Packet). p.batch == batch) packets (packet ∷ []))
    ∙ map-append (λ (p : Packet). p.coefs) (packets_in batch packets) (packets_in batch (packet ∷ []))

here : (batch : ℕ) (packet : Packet) → (packet.batch == batch) ≡ true → coefs_of (packets_in batch (packet ∷ [])) ≡ packet.coefs ∷ []
here batch packet e = rw e refl

elsewhere : (batch : ℕ) (packet : Packet) → (packet.batch == batch) ≡ false → coefs_of (packets_in batch (packet ∷ [])) ≡ []
elsewhere batch packet e = rw e refl

has_rows : (m batch : ℕ) (packets : List Packet) → All (HasVector m) packets → AreRows m (vectors_of batch packets)
has_rows m batch packets all =
    AreRows-coefs m (packets_in batch packets) (All-filter (λ (p : Packet). p.batch == batch) (HasVector m) packets all)

-- a combination of the earlier vectors stays one after a packet more
stays : (m : ℕ) (packets : List Packet) (packet other : Packet) → All (HasVector m) packets → HasVector m packet → HasVector m other
    → IsCombination (vectors_of other.batch packets) other.coefs → IsCombination (vectors_of other.batch (packets ++ packet ∷ [])) other.coefs
stays m packets packet other all own that is =
    let vectors : List (List ℕ) = vectors_of other.batch packets in
    elim (cases_Bool (packet.batch == other.batch)) [
      | inl e ↦
          let longer : vectors_of other.batch (packets ++ packet ∷ []) ≡ vectors ++ packet.coefs ∷ [] =
          one_more other.batch packets packet ∙ ap (λ (xs : List (List ℕ)). vectors ++ xs) (here other.batch packet e) in
          let rows : AreRows (length other.coefs) vectors = subst (λ (n : ℕ). AreRows n vectors) (sym that.size) (has_rows m other.batch packets all) in
          subst (λ (xs : List (List ℕ)). IsCombination xs other.coefs) (sym longer)
          (IsInSpan-push (length other.coefs) vectors packet.coefs other.coefs rows (own.size ∙ sym that.size) is)
      | inr e ↦
          let equal : vectors_of other.batch (packets ++ packet ∷ []) ≡ vectors =
          one_more other.batch packets packet ∙ ap (λ (xs : List (List ℕ)). vectors ++ xs) (elsewhere other.batch packet e) ∙ append-nil vectors in
          subst (λ (xs : List (List ℕ)). IsCombination xs other.coefs) (sym equal) is
    ]

-- the packet's own vector is one after it
its_own : (m : ℕ) (packets : List Packet) (packet : Packet) → All (HasVector m) packets → HasVector m packet
    → IsCombination (vectors_of packet.batch (packets ++ packet ∷ [])) packet.coefs
its_own m packets packet all own =
    let vectors : List (List ℕ) = vectors_of packet.batch packets in
    let longer : vectors_of packet.batch (packets ++ packet ∷ []) ≡ vectors ++ packet.coefs ∷ [] =
    one_more packet.batch packets packet ∙ ap (λ (xs : List (List ℕ)). vectors ++ xs) (here packet.batch packet (eq-eqb packet.batch packet.batch refl)) in
    let rows : AreRows (length packet.coefs) vectors = subst (λ (n : ℕ). AreRows n vectors) (sym own.size) (has_rows m packet.batch packets all) in
    subst (λ (xs : List (List ℕ)). IsCombination xs packet.coefs) (sym longer)
    (IsInSpan-last (length packet.coefs) vectors packet.coefs rows refl)

-- so what is new after a packet more was new before, and a packet isn't new after itself
new_before : (m : ℕ) (packets : List Packet) (packet other : Packet) → All (HasVector m) packets → HasVector m packet → HasVector m other
    → is_new (packets ++ packet ∷ []) other ≡ true → is_new packets other ≡ true
new_before m packets packet other all own that e =
    (is_new-Decides packets other).1
    (λ is. (is_new-Decides (packets ++ packet ∷ []) other).0 e (stays m packets packet other all own that is))

not_again : (m : ℕ) (packets : List Packet) (packet : Packet) → All (HasVector m) packets → HasVector m packet
    → is_new (packets ++ packet ∷ []) packet ≡ false
not_again m packets packet all own =
    false_from_ne_true (is_new (packets ++ packet ∷ []) packet) (λ e. (is_new-Decides (packets ++ packet ∷ []) packet).0 e (its_own m packets packet all own))

-- ---- how many of some packets are new

-- those of the packets that are new after the earlier ones
abbrev open_after : List Packet → List Packet → List Packet
open_after earlier all = filter (is_new earlier) all

fewer : (b c : Bool) (packet : Packet) (us vs : List Packet) → (b ≡ true → c ≡ true) → length us ≤ length vs
    → length (cond b (packet ∷ us) us) ≤ length (cond c (packet ∷ vs) vs)
fewer true true packet us vs h l = omega arith
fewer true false packet us vs h l = absurd (let e : false ≡ true = h refl in cc)
fewer false true packet us vs h l = omega arith
fewer false false packet us vs h l = l

one_fewer : (b c : Bool) (packet : Packet) (us vs : List Packet) → b ≡ false → c ≡ true → length us ≤ length vs
    → length (cond b (packet ∷ us) us) + 1 ≤ length (cond c (packet ∷ vs) vs)
one_fewer true c packet us vs e f l = absurd cc
one_fewer false true packet us vs e f l = omega arith
one_fewer false false packet us vs e f l = absurd cc

fewer_still : (b c : Bool) (packet : Packet) (us vs : List Packet) → (b ≡ true → c ≡ true) → length us + 1 ≤ length vs
    → length (cond b (packet ∷ us) us) + 1 ≤ length (cond c (packet ∷ vs) vs)
fewer_still true true packet us vs h l = omega arith
fewer_still true false packet us vs h l = absurd (let e : false ≡ true = h refl in cc)
fewer_still false true packet us vs h l = omega arith
fewer_still false false packet us vs h l = l

fewer_open : (m : ℕ) (earlier : List Packet) (packet : Packet) (all : List Packet) → All (HasVector m) earlier → HasVector m packet → All (HasVector m) all
    → length (open_after (earlier ++ packet ∷ []) all) ≤ length (open_after earlier all)
fewer_open m earlier packet [] before own each = omega arith
fewer_open m earlier packet (q ∷ qs) before own each =
    fewer (is_new (earlier ++ packet ∷ []) q) (is_new earlier q) q (open_after (earlier ++ packet ∷ []) qs) (open_after earlier qs)
    (new_before m earlier packet q before own (All-head (HasVector m) q qs each))
    (fewer_open m earlier packet qs before own (All-tail (HasVector m) q qs each))

-- a packet among them that is new before itself and not after
one_open_less : (m : ℕ) (earlier : List Packet) (packet : Packet) (all : List Packet) → All (HasVector m) earlier → HasVector m packet → All (HasVector m) all
    → is_new earlier packet ≡ true → (k : ℕ) → k < length all → slice_index_or all k packet ≡ packet
    → length (open_after (earlier ++ packet ∷ []) all) + 1 ≤ length (open_after earlier all)
one_open_less m earlier packet [] before own each fresh k within e = absurd (omega arith)
one_open_less m earlier packet (q ∷ qs) before own each fresh zero within e =
    let gone : is_new (earlier ++ packet ∷ []) q ≡ false =
    ap (λ (p : Packet). is_new (earlier ++ packet ∷ []) p) e ∙ not_again m earlier packet before own in
    let there : is_new earlier q ≡ true = ap (λ (p : Packet). is_new earlier p) e ∙ fresh in
    one_fewer (is_new (earlier ++ packet ∷ []) q) (is_new earlier q) q (open_after (earlier ++ packet ∷ []) qs) (open_after earlier qs) gone there
    (fewer_open m earlier packet qs before own (All-tail (HasVector m) q qs each))
one_open_less m earlier packet (q ∷ qs) before own each fresh (suc k) within e =
    fewer_still (is_new (earlier ++ packet ∷ []) q) (is_new earlier q) q (open_after (earlier ++ packet ∷ []) qs) (open_after earlier qs)
    (new_before m earlier packet q before own (All-head (HasVector m) q qs each))
    (one_open_less m earlier packet qs before own (All-tail (HasVector m) q qs each) fresh k (omega arith) e)

-- ---- the law

kept_from : (m : ℕ) (earlier packets all : List Packet) → All (HasVector m) earlier → All (HasVector m) packets → All (HasVector m) all
    → All (Contains all) packets → length (new_after earlier packets) ≤ length (open_after earlier all)
unfolding new_after
kept_from m earlier [] all before each chosen among = omega arith
kept_from m earlier (packet ∷ packets) all before each chosen among =
    let own : HasVector m packet = All-head (HasVector m) packet packets each in
    let there : Contains all packet = All-head (Contains all) packet packets among in
    let rest : length (new_after (earlier ++ packet ∷ []) packets) ≤ length (open_after (earlier ++ packet ∷ []) all) =
    kept_from m (earlier ++ packet ∷ []) packets all (All-push (HasVector m) earlier packet before own)
    (All-tail (HasVector m) packet packets each) chosen (All-tail (Contains all) packet packets among) in
    let sum : length (if_new earlier packet ++ new_after (earlier ++ packet ∷ []) packets)
    ≡ length (if_new earlier packet) + length (new_after (earlier ++ packet ∷ []) packets) =
    length-append (if_new earlier packet) (new_after (earlier ++ packet ∷ []) packets) in
    elim (cases_Bool (is_new earlier packet)) [
      | inl fresh ↦
          let one : length (if_new earlier packet) ≡ 1 = ap (λ (b : Bool). length (cond b (packet ∷ []) [])) fresh in
          let less = one_open_less m earlier packet all before own chosen fresh there.0 there.1 there.2 in
          omega (arith, rest, sum, one, less)
      | inr old ↦
          let none : length (if_new earlier packet) ≡ 0 = ap (λ (b : Bool). length (cond b (packet ∷ []) [])) old in
          let less = fewer_open m earlier packet all before own chosen in
          omega (arith, rest, sum, none, less)
    ]

open_le : (earlier all : List Packet) → length (open_after earlier all) ≤ length all
open_le earlier [] = omega arith
open_le earlier (q ∷ qs) =
    let rest = open_le earlier qs in
    elim (cases_Bool (is_new earlier q)) [
      | inl e ↦
          let one : length (open_after earlier (q ∷ qs)) ≡ suc (length (open_after earlier qs)) =
          ap (λ (b : Bool). length (cond b (q ∷ open_after earlier qs) (open_after earlier qs))) e in
          omega (arith, rest, one)
      | inr e ↦
          let none : length (open_after earlier (q ∷ qs)) ≡ length (open_after earlier qs) =
          ap (λ (b : Bool). length (cond b (q ∷ open_after earlier qs) (open_after earlier qs))) e in
          omega (arith, rest, none)
    ]

-- packets that are all among some are kept no more often than those are many
pub few_among : (m : ℕ) (packets all : List Packet) → All (HasVector m) packets → All (HasVector m) all → All (Contains all) packets
    → kept_count packets ≤ length all
few_among m packets all each chosen among =
    omega (arith, kept_from m [] packets all (All-nil (HasVector m)) each chosen among, open_le [] all)
