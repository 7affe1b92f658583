-- Where and why an input is refused: by the longest packet file at its front. No reader is in the definition.
use Rattle.std.specs.Prelude.{ℕ, ◌≡◌, ◌≤◌, ◌%◌, ◌==◌, ◌&&◌, ◌⊎◌, not, nat_lt, nat_le, if◌then◌else◌, List, [], ◌∷◌, ◌++◌, length, take, drop, slice_index, Option, Some, None, option_map, codes}
use Rattle.std.specs.Int.{w16, w64, from_be_bytes}
use Rattle.std.specs.Str.{bytes_eq}
use Rattle.bats_model.specs.Session.{SessionData, symbol_count, max_batch_size, max_symbol_size, max_symbols}
use Rattle.bats_model.specs.Records.{version, header_tag, packet_tag}
use Rattle.bats_model.specs.PacketFile.{IsPacketFile, most_records}
use Rattle.bats_model.specs.declared.item.Item.{Item}
use Rattle.bats_model.specs.declared.read_end.HeaderField.{HeaderField}
use Rattle.bats_model.specs.declared.read_end.HeaderField.TheVariants as fields
use Rattle.bats_model.specs.declared.read_end.ReadEnd.{ReadEnd}
use Rattle.bats_model.specs.declared.read_end.ReadEnd.TheVariants as ends

-- ---- the first record

-- bytes of a header record
abbrev pub header_size : ℕ
header_size = 32

-- T in a header's bytes
abbrev pub symbol_size_in : List ℕ → ℕ
symbol_size_in bytes = from_be_bytes w16 (take 2 (drop 6 bytes))

-- the file's length in a header's bytes
abbrev pub length_in : List ℕ → ℕ
length_in bytes = from_be_bytes w64 (take 8 (drop 8 bytes))

-- the first field of a header's 32 bytes that breaks its rule, if one does: letters, version, M, mode, T, length
unfoldable pub first_broken : List ℕ → Option HeaderField
first_broken bytes =
    if not (bytes_eq (take 3 bytes) (codes "BTS")) then Some fields.Magic
    else if not (slice_index bytes 3 == version) then Some fields.Version
    else if not (nat_le 1 (slice_index bytes 4) && nat_le (slice_index bytes 4) max_batch_size) then Some fields.BatchSize
    -- bits 0 to 6 are the number of the table
    else if not (nat_le (slice_index bytes 5 % 128) 1) then Some fields.Mode
    else if not (nat_le 1 (symbol_size_in bytes) && nat_le (symbol_size_in bytes) max_symbol_size) then Some fields.SymbolSize
    else if not (nat_le (symbol_count (length_in bytes) (symbol_size_in bytes)) max_symbols) then Some fields.Length
    else None

-- why an input is refused that has no packet file at its front: no header where it is empty or its first byte is no
-- header's, else a cut header where it has fewer than 32 bytes, else the first broken field
unfoldable pub header_refusal : List ℕ → Option ReadEnd
header_refusal [] = Some ends.NoHeader
header_refusal (tag ∷ bytes) =
    if not (tag == header_tag) then Some ends.NoHeader
    else if nat_lt (length (tag ∷ bytes)) header_size then Some (ends.Truncated 0)
    else option_map (λ field. ends.BadHeader field) (first_broken (take header_size (tag ∷ bytes)))

-- ---- the records after it

-- Why what follows the longest packet file is refused, from its offset and how many records are before it. Nothing isn't
-- refused. Else the first cause is told: too many records; a byte that begins no record; a whole header, of another
-- session; a record that is cut.
unfoldable pub first_refusal : ℕ → ℕ → List ℕ → Option ReadEnd
first_refusal offset records [] = None
first_refusal offset records (tag ∷ bytes) =
    if records == most_records then Some ends.TooManyRecords
    else if not (tag == header_tag) && not (tag == packet_tag) then Some (ends.BadTag offset tag)
    else if (tag == header_tag) && nat_le header_size (length (tag ∷ bytes)) then Some (ends.OtherSession offset)
    else Some (ends.Truncated offset)

-- ---- the whole input

-- the input begins with a packet file of the session and the items
pub record HasFront (input : List ℕ) (session : SessionData) (list : List Item) (front rest : List ℕ) : Type 0 where
  pub file : IsPacketFile session list front
  pub split : input ≡ front ++ rest

-- the input begins so, and with no longer bytes that stand for any session and items
pub record HasLongestFront (input : List ℕ) (session : SessionData) (list : List Item) (front rest : List ℕ) : Type 0 where
  pub is_front : HasFront input session list front rest
  pub longest : (other : SessionData) (others : List Item) (begin after : List ℕ)
      → HasFront input other others begin after → length begin ≤ length front

-- no packet file is at the front, and the first record is refused so
pub record RefusesHeader (input : List ℕ) (end : ReadEnd) : Type 0 where
  pub none : (session : SessionData) (list : List Item) (front rest : List ℕ) → ¬ HasFront input session list front rest
  pub refusal : header_refusal input ≡ Some end

-- these are the items of the longest packet file at the front, and the record after them is refused so
pub record RefusesRecord (input : List ℕ) (session : SessionData) (list : List Item) (end : ReadEnd) : Type 0 where
  pub front : List ℕ
  pub rest : List ℕ
  pub longest : HasLongestFront input session list front rest
  pub refusal : first_refusal (length front) (length list) rest ≡ Some end

-- the input is refused for this cause, at its place
abbrev pub IsRefused : List ℕ → ReadEnd → Type 0
IsRefused input end =
    RefusesHeader input end ⊎ ((session : SessionData) × (list : List Item) × RefusesRecord input session list end)
