-- Kept packets as rows: their sizes, and their combinations.
use Rattle.std.proofs.Common.{ℕ, suc, ◌≡◌, ◌<◌, ◌≤◌, ◌+◌, ◌∙◌, List, [], ◌∷◌, ◌++◌, length, get_or, take, map, ap, sym, refl, arith, length-append}
use Rattle.std.specs.Prelude.{All}
use Rattle.std.proofs.lemmas.List.{take_at, map-append, length-map, replicate-append-replicate}
use Rattle.std.proofs.lemmas.List.Elements.{All-head, All-tail, All-map, All-weaker, All-append}
use Rattle.gf_core.specs.Bytes.{AreBytes}
use Rattle.gf_core.specs.Field.{gf_add, gf_mul}
use Rattle.gf_core.specs.Rows.{row_sum, scaled_row, add_scaled_row}
use Rattle.gf_core.specs.Combinations.{combination}
use Rattle.gf_core.specs.Triangular.{AreRows}
use Rattle.gf_core.proofs.CombinationLemmas.{length-combination}
use Rattle.bats_model.specs.declared.packet.Packet.{Packet}
use Rattle.bats_model.specs.Kept.{coefs_of, packet_row}
use Rattle.bats_model.specs.Session.{SessionData}
use Rattle.bats_model.specs.PacketFile.{HasShape}
use Rattle.bats_model.specs.Relay.{payloads_of}
use Rattle.bats_batch.specs.Basis.{IsSized}

pub IsSized-shape : (session : SessionData) (packet : Packet) → HasShape session packet → IsSized session.m session.t packet
IsSized-shape session packet shape = record {
  coefs = shape.coefs;
  payload = shape.payload;
  coef_bytes = shape.coef_bytes;
  payload_bytes = shape.payload_bytes;
}

pub length-packet_row : (m t : ℕ) (packet : Packet) → IsSized m t packet → length (packet_row packet) ≡ m + t
length-packet_row m t packet size = omega (arith, length-append packet.coefs packet.payload, size.coefs, size.payload)

pub packet_row-lt : (m t : ℕ) (packet : Packet) → IsSized m t packet → AreBytes (packet_row packet)
packet_row-lt m t packet size = All-append (λ byte. byte < 256) packet.coefs packet.payload size.coef_bytes size.payload_bytes

-- the first m bytes are the coefficients
pub take-packet_row : (m t : ℕ) (packet : Packet) → IsSized m t packet → take m (packet_row packet) ≡ packet.coefs
take-packet_row m t packet size = take_at packet.coefs packet.payload m size.coefs

pub AreRows-packets : (m t : ℕ) (kept : List Packet) → All (IsSized m t) kept → AreRows (m + t) (map packet_row kept)
AreRows-packets m t kept sizes = record {
  widths = All-map (λ row. length row ≡ m + t) packet_row kept (All-weaker (IsSized m t) (λ p. length (packet_row p) ≡ m + t) (length-packet_row m t) kept sizes);
  bytes = All-map AreBytes packet_row kept (All-weaker (IsSized m t) (λ p. AreBytes (packet_row p)) (packet_row-lt m t) kept sizes);
}

pub take-packet_rows : (m t : ℕ) (kept : List Packet) → All (IsSized m t) kept → map (take m) (map packet_row kept) ≡ map (λ p. p.coefs) kept
take-packet_rows m t [] sizes = λ i. []
take-packet_rows m t (p ∷ kept) sizes =
    ap (λ row. row ∷ map (take m) (map packet_row kept)) (take-packet_row m t p (All-head (IsSized m t) p kept sizes))
    ∙ ap (λ rows. p.coefs ∷ rows) (take-packet_rows m t kept (All-tail (IsSized m t) p kept sizes))

-- ---- combinations

row_sum-append : (a b x y : List ℕ) → length a ≡ length x → row_sum (a ++ b) (x ++ y) ≡ row_sum a x ++ row_sum b y
unfolding row_sum
row_sum-append [] b [] y e = refl
row_sum-append [] b (x ∷ xs) y e = absurd (omega arith)
row_sum-append (v ∷ vs) b [] y e = absurd (omega arith)
row_sum-append (v ∷ vs) b (x ∷ xs) y e = ap (λ (zs : List ℕ). gf_add v x ∷ zs) (row_sum-append vs b xs y (omega arith))

add_scaled_row-append : (a b : List ℕ) (c : ℕ) (x y : List ℕ) → length a ≡ length x
    → add_scaled_row (a ++ b) c (x ++ y) ≡ add_scaled_row a c x ++ add_scaled_row b c y
unfolding scaled_row
add_scaled_row-append a b c x y e =
    ap (row_sum (a ++ b)) (map-append (gf_mul c) x y)
    ∙ row_sum-append a b (map (gf_mul c) x) (map (gf_mul c) y) (e ∙ sym (length-map x (gf_mul c)))

-- a combination of whole packets is that of their vectors, and behind it that of their payloads
pub combination-packets : (m t : ℕ) (factors : List ℕ) (packets : List Packet) → All (IsSized m t) packets
    → combination (m + t) factors (map packet_row packets)
    ≡ combination m factors (coefs_of packets) ++ combination t factors (payloads_of packets)
unfolding combination
combination-packets m t [] packets sized = sym (replicate-append-replicate m t 0)
combination-packets m t (c ∷ cs) [] sized = sym (replicate-append-replicate m t 0)
combination-packets m t (c ∷ cs) (p ∷ ps) sized =
    ap (λ (row : List ℕ). add_scaled_row row c (packet_row p)) (combination-packets m t cs ps (All-tail (IsSized m t) p ps sized))
    ∙ add_scaled_row-append (combination m cs (coefs_of ps)) (combination t cs (payloads_of ps)) c p.coefs p.payload
    (length-combination m cs (coefs_of ps) ∙ sym (All-head (IsSized m t) p ps sized).coefs)

-- factors that agree as far as there are rows
pub combination-agree : (width : ℕ) (cs ds : List ℕ) (rows : List (List ℕ)) → length rows ≤ length cs → length rows ≤ length ds
    → ((i : ℕ) → i < length rows → get_or cs i 0 ≡ get_or ds i 0) → combination width cs rows ≡ combination width ds rows
unfolding combination
combination-agree width [] [] rows p q same = refl
combination-agree width [] (d ∷ ds) [] p q same = refl
combination-agree width [] (d ∷ ds) (row ∷ rows) p q same = absurd (omega arith)
combination-agree width (c ∷ cs) [] [] p q same = refl
combination-agree width (c ∷ cs) [] (row ∷ rows) p q same = absurd (omega arith)
combination-agree width (c ∷ cs) (d ∷ ds) [] p q same = refl
combination-agree width (c ∷ cs) (d ∷ ds) (row ∷ rows) p q same =
    ap (λ (f : ℕ). add_scaled_row (combination width cs rows) f row) (same 0 (omega arith))
    ∙ ap (λ (sum : List ℕ). add_scaled_row sum d row)
    (combination-agree width cs ds rows (omega arith) (omega arith) (λ i h. same (suc i) (omega arith)))
