-- Sums of kept payloads, one more at a time.
use Rattle.std.proofs.Common.{ℕ, ◌≡◌, ◌<◌, ◌≤◌, ◌+◌, ◌∙◌, List, [], ◌∷◌, ◌++◌, length, get_or, take, replicate, sym, ap, subst, refl, arith}
use Rattle.std.specs.Prelude.{All}
use Rattle.std.proofs.lemmas.List.{length-map, length-take-le, get_or-map, get_or-take, take_all, take_more}
use Rattle.std.proofs.lemmas.List.Elements.{All-map, All-take, All-weaker}
use Rattle.gf_core.specs.Bytes.{AreBytes}
use Rattle.gf_core.specs.Rows.{add_scaled_row}
use Rattle.gf_core.specs.Combinations.{combination}
use Rattle.gf_core.specs.Triangular.{AreRows}
use Rattle.gf_core.proofs.CombinationLemmas.{combination-push}
use Rattle.bats_model.specs.declared.packet.Packet.{Packet}
use Rattle.bats_model.specs.Relay.{payloads_of}
use Rattle.bats_batch.specs.declared.entry.Entry.{Entry}
use Rattle.bats_batch.specs.Basis.{IsSized}
use Rattle.bats_batch.specs.steps.Entries.{offered_packets}
use Rattle.bats_batch.proofs.KeptRows.{combination-agree}

pub AreRows-payloads : (m t : ℕ) (packets : List Packet) → All (IsSized m t) packets → AreRows t (payloads_of packets)
AreRows-payloads m t packets sized = record {
  widths = All-map (λ row. length row ≡ t) (λ (p : Packet). p.payload) packets
      (All-weaker (IsSized m t) (λ p. length p.payload ≡ t) (λ p is. is.payload) packets sized);
  bytes = All-map AreBytes (λ (p : Packet). p.payload) packets
      (All-weaker (IsSized m t) (λ p. AreBytes p.payload) (λ p is. is.payload_bytes) packets sized);
}

pub payload-at : (entries : List Entry) (i : ℕ) (entry : Entry) → i < length entries
    → get_or (payloads_of (offered_packets entries)) i [] ≡ (get_or entries i entry).packet.payload
payload-at entries i entry h =
    get_or-map (λ (p : Packet). p.payload) (offered_packets entries) i entry.packet [] (subst (λ n. i < n) (sym (length-map entries (λ e. e.packet))) h)
    ∙ ap (λ (p : Packet). p.payload) (get_or-map (λ (e : Entry). e.packet) entries i entry entry.packet h)

pub length-payloads : (entries : List Entry) → length (payloads_of (offered_packets entries)) ≡ length entries
length-payloads entries = length-map (offered_packets entries) (λ p. p.payload) ∙ length-map entries (λ e. e.packet)

pub combination-none : (width : ℕ) (rows : List (List ℕ)) → combination width [] rows ≡ replicate width 0
unfolding combination
combination-none width rows = refl

-- one more row
pub combination-more : (width : ℕ) (cs : List ℕ) (rows : List (List ℕ)) (i : ℕ) → AreRows width rows → length rows ≤ length cs → i < length rows
    → combination width (take (i + 1) cs) (take (i + 1) rows) ≡ add_scaled_row (combination width (take i cs) (take i rows)) (get_or cs i 0) (get_or rows i [])
combination-more width cs rows i are few h =
    ap (λ (fs : List ℕ). combination width fs (take (i + 1) rows)) (take_more cs i 0 (omega arith))
    ∙ ap (combination width (take i cs ++ get_or cs i 0 ∷ [])) (take_more rows i [] h)
    ∙ combination-push width (take i cs) (get_or cs i 0) (take i rows) (get_or rows i [])
    (length-take-le i cs (omega arith) ∙ sym (length-take-le i rows (omega arith)))
    (record {
      widths = All-take (λ row. length row ≡ width) i rows are.widths;
      bytes = All-take AreBytes i rows are.bytes;
    })
    (are.widths i [] h)

-- all rows
pub combination-all : (width : ℕ) (cs : List ℕ) (rows : List (List ℕ)) (i : ℕ) → length rows ≤ length cs → i ≡ length rows
    → combination width (take i cs) (take i rows) ≡ combination width cs rows
combination-all width cs rows i few end =
    ap (combination width (take i cs)) (take_all i rows (omega (arith, end)))
    ∙ combination-agree width (take i cs) cs rows (omega (arith, end, length-take-le i cs (omega (arith, end)))) few
    (λ k h. get_or-take i cs k 0 (omega (arith, end, h)))
