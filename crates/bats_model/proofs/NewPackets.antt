-- Which packets of a list are new: the test decides it, and one packet more is the last of the new ones, or not new.
use Rattle.std.proofs.Common.{ℕ, ◌≡◌, ◌+◌, ◌∙◌, ◌==◌, sym, ap, refl, Bool, true, false, cond, not, List, [], ◌∷◌, ◌++◌, length, map, arith, append_assoc, length-append}
use Rattle.std.specs.Prelude.{filter}
use Rattle.std.specs.Bool.{Decides}
use Rattle.std.specs.Str.{bytes_eq}
use Rattle.std.proofs.lemmas.Bool.Decides.{Decides-not}
use Rattle.std.proofs.lemmas.List.{append-nil, length_push}
use Rattle.std.proofs.lemmas.List.Elements.{filter-append}
use Rattle.std.proofs.lemmas.Slice.Eq.{bytes_eq-Decides}
use Rattle.gf_core.specs.Combinations.{combination, IsInSpan}
use Rattle.gf_core.proofs.SearchLemmas.{Found, some_bytes-found, found-some_bytes}
use Rattle.bats_model.specs.Kept.{IsCombination, is_combination, vectors_of, is_new, new_after, kept_of, kept_count}
use Rattle.bats_model.specs.declared.packet.Packet.{Packet}

-- the test says whether the vector is a combination
pub is_combination-Decides : (vectors : List (List ℕ)) (vector : List ℕ) → Decides (is_combination vectors vector) (IsCombination vectors vector)
is_combination-Decides vectors vector =
    let sums : List ℕ → List ℕ = λ factors. combination (length vector) factors vectors in
    let test : List ℕ → Bool = λ factors. bytes_eq (sums factors) vector in (
      λ e.
          let found : Found (length vectors) test = some_bytes-found (length vectors) test e in
          record {
            factors = found.list;
            bytes = found.bytes;
            size = found.size;
            sums = (bytes_eq-Decides (sums found.list) vector).0 found.passes;
          },
      λ is. found-some_bytes (length vectors) test is.factors is.bytes is.size ((bytes_eq-Decides (sums is.factors) vector).1 is.sums),
    )

-- a packet is new where its vector is no combination of the earlier ones of its batch
pub is_new-Decides : (earlier : List Packet) (packet : Packet)
    → Decides (is_new earlier packet) (¬ IsCombination (vectors_of packet.batch earlier) packet.coefs)
is_new-Decides earlier packet =
    Decides-not (is_combination (vectors_of packet.batch earlier) packet.coefs)
    (is_combination-Decides (vectors_of packet.batch earlier) packet.coefs)

-- the packet alone, where it is new
abbrev pub if_new : List Packet → Packet → List Packet
if_new earlier packet = cond (is_new earlier packet) (packet ∷ []) []

new_after-push : (earlier packets : List Packet) (packet : Packet)
    → new_after earlier (packets ++ packet ∷ []) ≡ new_after earlier packets ++ if_new (earlier ++ packets) packet
unfolding new_after
new_after-push earlier [] packet =
    append-nil (if_new earlier packet) ∙ ap (λ (ps : List Packet). if_new ps packet) (sym (append-nil earlier))
new_after-push earlier (p ∷ ps) packet =
    ap (λ (rest : List Packet). if_new earlier p ++ rest) (new_after-push (earlier ++ p ∷ []) ps packet)
    ∙ sym (append_assoc (if_new earlier p) (new_after (earlier ++ p ∷ []) ps) (if_new ((earlier ++ p ∷ []) ++ ps) packet))
    ∙ ap (λ (qs : List Packet). (if_new earlier p ++ new_after (earlier ++ p ∷ []) ps) ++ if_new qs packet) (append_assoc earlier (p ∷ []) ps)

-- the new ones after one packet more
pub new-push : (packets : List Packet) (packet : Packet)
    → new_after [] (packets ++ packet ∷ []) ≡ new_after [] packets ++ if_new packets packet
new-push packets packet = new_after-push [] packets packet

-- and the kept ones of a batch
pub kept_of-push : (batch : ℕ) (packets : List Packet) (packet : Packet)
    → kept_of batch (packets ++ packet ∷ []) ≡ kept_of batch packets ++ filter (λ p. p.batch == batch) (if_new packets packet)
kept_of-push batch packets packet =
    ap (filter (λ p. p.batch == batch)) (new-push packets packet)
    ∙ filter-append (λ p. p.batch == batch) (new_after [] packets) (if_new packets packet)

one_where : (b : Bool) (packet : Packet) → length (cond b (packet ∷ []) []) ≡ cond b 1 0
one_where true packet = refl
one_where false packet = refl

-- and how many
pub kept_count-push : (packets : List Packet) (packet : Packet)
    → kept_count (packets ++ packet ∷ []) ≡ kept_count packets + cond (is_new packets packet) 1 0
kept_count-push packets packet =
    ap (λ (ps : List Packet). length ps) (new-push packets packet)
    ∙ length-append (new_after [] packets) (if_new packets packet)
    ∙ ap (λ (n : ℕ). kept_count packets + n) (one_where (is_new packets packet) packet)
