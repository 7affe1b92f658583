-- Whether packets have a contradiction after one packet more.
use Rattle.std.proofs.Common.{ℕ, zero, suc, ◌≡◌, ◌<◌, ◌≤◌, ◌↔◌, ◌⊎◌, ◌∙◌, sym, ap, subst, refl, List, [], ◌∷◌, ◌++◌, length, arith, inl, inr}
use Rattle.std.specs.Prelude.{slice_get, Some}
use Rattle.std.proofs.lemmas.Bool.{cases_lt}
use Rattle.std.proofs.lemmas.List.{length_push, take_at, take-append-le}
use Rattle.std.proofs.lemmas.Option.{slice_get_within, same_Some}
use Rattle.bats_model.specs.Kept.{kept_of, Contradicts, HasContradiction}
use Rattle.bats_model.specs.declared.packet.Packet.{Packet}
use Rattle.bats_batch.specs.Held.{HeldData, kept_at, StandsFor}

slice_get-front : (packets more : List Packet) (i : ℕ) → i < length packets → slice_get (packets ++ more) i ≡ slice_get packets i
slice_get-front [] more i within = absurd (omega (arith, within))
slice_get-front (p ∷ packets) more zero within = refl
slice_get-front (p ∷ packets) more (suc i) within = slice_get-front packets more i (omega (arith, within))

slice_get-last : (packets : List Packet) (packet : Packet) → slice_get (packets ++ packet ∷ []) (length packets) ≡ Some packet
slice_get-last [] packet = refl
slice_get-last (p ∷ packets) packet = slice_get-last packets packet

pub no_contradiction : ¬ HasContradiction []
no_contradiction h = absurd (omega (arith, slice_get_within [] h.at h.packet h.stands))

module _ (packets : List Packet) (packet : Packet) where
  abbrev all : List Packet
  all = packets ++ packet ∷ []

  -- a contradiction stays one
  grows : HasContradiction packets → HasContradiction all
  grows h =
      let within : h.at < length packets = slice_get_within packets h.at h.packet h.stands in
      record {
        at = h.at;
        packet = h.packet;
        stands = slice_get-front packets (packet ∷ []) h.at within ∙ h.stands;
        contradicts = subst (λ (ps : List Packet). Contradicts (kept_of h.packet.batch ps) h.packet)
            (sym (take-append-le h.at packets (packet ∷ []) (omega (arith, within)))) h.contradicts;
      }

  -- and the last packet may be one
  ends : Contradicts (kept_of packet.batch packets) packet → HasContradiction all
  ends contradicts = record {
    at = length packets;
    packet = packet;
    stands = slice_get-last packets packet;
    contradicts = subst (λ (ps : List Packet). Contradicts (kept_of packet.batch ps) packet)
        (sym (take_at packets (packet ∷ []) (length packets) refl)) contradicts;
  }

  earlier : (h : HasContradiction all) → h.at < length packets → HasContradiction packets
  earlier h within = record {
    at = h.at;
    packet = h.packet;
    stands = sym (slice_get-front packets (packet ∷ []) h.at within) ∙ h.stands;
    contradicts = subst (λ (ps : List Packet). Contradicts (kept_of h.packet.batch ps) h.packet)
        (take-append-le h.at packets (packet ∷ []) (omega (arith, within))) h.contradicts;
  }

  last : (h : HasContradiction all) → length packets ≤ h.at → Contradicts (kept_of packet.batch packets) packet
  last h behind =
      let at_end : length packets ≡ h.at =
      omega (arith, behind, slice_get_within all h.at h.packet h.stands, length_push packets packet) in
      let here : slice_get all h.at ≡ Some packet = ap (slice_get all) (sym at_end) ∙ slice_get-last packets packet in
      let same : h.packet ≡ packet = same_Some h.packet packet (sym h.stands ∙ here) in
      subst (λ (p : Packet). Contradicts (kept_of p.batch packets) p) same
      (subst (λ (ps : List Packet). Contradicts (kept_of h.packet.batch ps) h.packet)
      (take_at packets (packet ∷ []) h.at at_end) h.contradicts)

  pub contradictions-grow : (held : HeldData) → StandsFor packets held
      → HasContradiction all ↔ (HasContradiction packets ⊎ Contradicts (kept_at held.batches packet.batch) packet)
  contradictions-grow held stands =
      let Contradicted : List Packet → Type 0 = λ kept. Contradicts kept packet in
      let own : kept_at held.batches packet.batch ≡ kept_of packet.batch packets = stands.kept packet.batch in (
        λ h. elim (cases_lt h.at (length packets)) [
          | inl within ↦ inl (earlier h within)
          | inr behind ↦ inr (subst Contradicted (sym own) (last h behind))
        ],
        λ either. elim either [
          | inl h ↦ grows h
          | inr h ↦ ends (subst Contradicted own h)
        ],
      )
