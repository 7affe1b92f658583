-- Files and payload rows column by column: a file agrees with packets where the bytes of its symbols in each column
-- satisfy them, and a plan on the payload rows is the plan on each column.
use Rattle.std.proofs.Common.{ℕ, ◌≡◌, ◌<◌, ◌+◌, ◌*◌, ◌∙◌, sym, ap, refl, subst, List, [], ◌∷◌, All, length, map, get_or}
use Rattle.std.proofs.lemmas.List.{length-map, get_or-map}
use Rattle.std.proofs.lemmas.List.Elements.{All-head, All-tail, All-map}
use Rattle.gf_core.specs.Bytes.{AreBytes}
use Rattle.gf_core.specs.Rows.{column_of}
use Rattle.gf_core.proofs.RowLemmas.{byte_at, length-column_of, get_or-column_of}
use Rattle.gf_rows.specs.declared.operation.Op.{Op}
use Rattle.gf_rows.specs.Matrix.{Grid, matrix_entry}
use Rattle.gf_rows.specs.Plan.{plan_on_column}
use Rattle.bats_stripes.specs.Columns.{IsReplayed}
use Rattle.bats_model.specs.Session.{SessionData}
use Rattle.bats_model.specs.Symbol.{symbol_byte}
use Rattle.bats_model.specs.Values.{packet_value, Satisfies}
use Rattle.bats_model.specs.Agreement.{IsFile, Agrees, AgreesWithAll}
use Rattle.bats_model.specs.PacketFile.{HasShape}
use Rattle.bats_model.specs.Relay.{payloads_of}
use Rattle.bats_model.specs.declared.packet.Packet.{Packet}
use Rattle.bats_model.proofs.SymbolValues.{AreSameValues, packet_value-congruence}
use Rattle.bats_decode.specs.steps.Replayed.{payload_grid}

-- the bytes of the payloads in a column
abbrev pub payload_column : List Packet → ℕ → List ℕ
payload_column packets c = column_of (payloads_of packets) c

-- the bytes of a file's symbols in a column
abbrev pub bytes_at : SessionData → List ℕ → ℕ → ℕ → ℕ
bytes_at session file c s = symbol_byte session file s c

pub length-payload_column : (packets : List Packet) (c : ℕ) → length (payload_column packets c) ≡ length packets
length-payload_column packets c =
    length-column_of (payloads_of packets) c ∙ length-map packets (λ (packet : Packet). packet.payload)

pub get_or-payload_column : (packets : List Packet) (c i : ℕ) (d : Packet) → i < length packets
    → get_or (payload_column packets c) i 0 ≡ get_or (get_or packets i d).payload c 0
get_or-payload_column packets c i d within =
    get_or-column_of (payloads_of packets) c i
    ∙ ap (λ (row : List ℕ). get_or row c 0) (get_or-map (λ (packet : Packet). packet.payload) packets i d [] within)

pub payload_column-bytes : (session : SessionData) (packets : List Packet) (c : ℕ) → All (HasShape session) packets
    → AreBytes (payload_column packets c)
unfolding column_of
payload_column-bytes session packets c shapes =
    let rows : All AreBytes (payloads_of packets) =
    All-map AreBytes (λ (packet : Packet). packet.payload) packets (λ i d within. (shapes i d within).payload_bytes) in
    All-map (λ byte. byte < 256) (λ (row : List ℕ). get_or row c 0) (payloads_of packets)
    (λ i row within. byte_at (get_or (payloads_of packets) i row) c (rows i row within))

-- ---- values of the symbols in a column

packet_values-same : (session : SessionData) (packets : List Packet) (x y : ℕ → ℕ) → AreSameValues session x y
    → map (λ packet. packet_value session packet x) packets ≡ map (λ packet. packet_value session packet y) packets
packet_values-same session [] x y same = refl
packet_values-same session (packet ∷ packets) x y same =
    ap (λ (byte : ℕ). byte ∷ map (λ packet. packet_value session packet x) packets) (packet_value-congruence session packet x y same)
    ∙ ap (λ (bytes : List ℕ). packet_value session packet y ∷ bytes) (packet_values-same session packets x y same)

-- what satisfies packets is told by the values of the session's symbols
pub Satisfies-same : (session : SessionData) (packets : List Packet) (column : List ℕ) (x y : ℕ → ℕ) → AreSameValues session x y
    → Satisfies session packets column x → Satisfies session packets column y
Satisfies-same session packets column x y same h = record {
  bytes = λ s within. subst (λ (byte : ℕ). byte < 256) (same s within) (h.bytes s within);
  values = sym (packet_values-same session packets x y same) ∙ h.values;
}

agreeing_values : (session : SessionData) (file : List ℕ) (c : ℕ) → c < session.t → (packets : List Packet)
    → All (Agrees session file) packets
    → map (λ packet. packet_value session packet (bytes_at session file c)) packets ≡ payload_column packets c
unfolding column_of
agreeing_values session file c within [] each = refl
agreeing_values session file c within (packet ∷ packets) each =
    let value : Packet → ℕ = λ p. packet_value session p (bytes_at session file c) in
    ap (λ (byte : ℕ). byte ∷ map value packets) (sym ((All-head (Agrees session file) packet packets each).columns c within))
    ∙ ap (λ (bytes : List ℕ). get_or packet.payload c 0 ∷ bytes)
    (agreeing_values session file c within packets (All-tail (Agrees session file) packet packets each))

-- the bytes of a file that agrees satisfy the packets in each column
pub columns_of_agreeing : (session : SessionData) (packets : List Packet) (file : List ℕ) → AgreesWithAll session packets file
    → (c : ℕ) → c < session.t → Satisfies session packets (payload_column packets c) (bytes_at session file c)
columns_of_agreeing session packets file agrees c within = record {
  bytes = λ s _. byte_at file (s * session.t + c) agrees.is_file.bytes;
  values = agreeing_values session file c within packets agrees.each;
}

-- a file whose bytes satisfy the packets in each column agrees
pub agreeing_of_columns : (session : SessionData) (packets : List Packet) (file : List ℕ) → IsFile session file
    → ((c : ℕ) → c < session.t → Satisfies session packets (payload_column packets c) (bytes_at session file c))
    → AgreesWithAll session packets file
agreeing_of_columns session packets file is columns = record {
  is_file = is;
  each = λ i d within. record {
    is_file = is;
    columns = λ c l.
        sym (get_or-payload_column packets c i d within)
        ∙ (ap (λ (bytes : List ℕ). get_or bytes i 0) (sym (columns c l).values)
        ∙ get_or-map (λ (packet : Packet). packet_value session packet (bytes_at session file c)) packets i d 0 within);
  };
}

-- ---- the payload rows after a plan

-- an entry of the payload rows after the plan is one of its column after the plan
pub entry_of_replayed : (t : ℕ) (packets : List Packet) (plan : List Op) (payload : Grid) → IsReplayed plan (payload_grid t packets) payload
    → (c : ℕ) → c < t → (r : ℕ) → matrix_entry payload r c ≡ get_or (plan_on_column plan (payload_column packets c)) r 0
entry_of_replayed t packets plan payload replayed c within r =
    sym (get_or-column_of payload.rows c r) ∙ ap (λ (column : List ℕ). get_or column r 0) (replayed.columns c within)
