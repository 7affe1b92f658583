-- The certificate file: the bytes of a certificate, and the fields that bytes are judged by. Numbers stand high byte first.
use Rattle.std.specs.Prelude.{ℕ, zero, suc, ◌+◌, ◌%◌, ◌==◌, ◌&&◌, nat_le, nat_lt, is_none, if◌then◌else◌, Bool, true, List, [], ◌∷◌, ◌++◌, length, take, drop, slice_index, flat_map, Option, Some, None}
use Rattle.std.specs.Int.{w16, w32, to_be_bytes, from_be_bytes}
use Rattle.bats_model.specs.Session.{SessionData, symbols_of}
use Rattle.bats_model.specs.Records.{header_record, packet_record, packet_tag}
use Rattle.bats_model.specs.Refusal.{header_size, symbol_size_in, length_in, first_broken}
use Rattle.bats_model.specs.declared.packet.Packet.{Packet}
use Rattle.bats_cert.specs.Shown.{most_listed}
use Rattle.bats_cert.specs.declared.certificate.Body.{Body}
use Rattle.bats_cert.specs.declared.certificate.Body.TheVariants.{One, Two, Zero}
use Rattle.bats_cert.specs.declared.certificate.Certificate.{Certificate}

-- ---- the bytes of a certificate

-- the byte after the header, a `C`
abbrev pub certificate_tag : ℕ
certificate_tag = 67

-- the byte that says which form the body has
abbrev pub kind_of : Body → ℕ
kind_of (One file rows) = 0
kind_of (Two at_symbol first second rows) = 1
kind_of (Zero column factors) = 2

-- what stands before the packets: the header, the tag, the kind and the number of packets
unfoldable pub begin_bytes : SessionData → ℕ → ℕ → List ℕ
begin_bytes session kind count = header_record session ++ certificate_tag ∷ kind ∷ [] ++ to_be_bytes w32 count

-- the records of packets, one after another
abbrev pub packets_bytes : List Packet → List ℕ
packets_bytes packets = flat_map (λ packet. packet_record packet.batch packet.coefs packet.payload) packets

-- rows, one after another
abbrev pub rows_bytes : List (List ℕ) → List ℕ
rows_bytes rows = flat_map (λ row. row) rows

-- what stands behind the packets
abbrev pub body_bytes : Body → List ℕ
body_bytes (One file rows) = file ++ rows_bytes rows.rows
body_bytes (Two at_symbol first second rows) = to_be_bytes w32 at_symbol ++ first ++ second ++ rows_bytes rows.rows
body_bytes (Zero column factors) = to_be_bytes w16 column ++ factors

-- the bytes of a certificate
unfoldable pub certificate_bytes : Certificate → List ℕ
certificate_bytes cert =
    begin_bytes cert.session (kind_of cert.body) (length cert.packets) ++ packets_bytes cert.packets ++ body_bytes cert.body

-- ---- fields

-- What is to stand from an offset on: of the bytes there it tells the place of the first field that is cut or breaks its rule, or of
-- the first byte behind the last field, and nothing where all are as they should be.
abbrev pub Layout : Type 0
Layout = ℕ → List ℕ → Option ℕ

-- nothing more
abbrev pub nothing : Layout
nothing at [] = None
nothing at (byte ∷ rest) = Some at

-- a field of so many bytes, which keep this rule, and behind it what they say
unfoldable pub field : ℕ → (List ℕ → Bool) → (List ℕ → Layout) → Layout
field size rule next at bytes =
    if nat_le size (length bytes) && rule (take size bytes)
    then next (take size bytes) (at + size) (drop size bytes)
    else Some at

-- so many fields of one size and one rule, and then the next
unfoldable pub fields : ℕ → ℕ → (List ℕ → Bool) → Layout → Layout
fields zero size rule next = next
fields (suc count) size rule next = field size rule (λ bytes. fields count size rule next)

-- the rule of a field in which every byte is right
abbrev pub any : List ℕ → Bool
any bytes = true

-- ---- the fields of a certificate

-- the session of a header's bytes
abbrev pub session_in : List ℕ → SessionData
session_in header = record {
  m = slice_index header 4;
  t = symbol_size_in header;
  file_length = length_in header;
  table = slice_index header 5 % 128;
  systematic = nat_le 128 (slice_index header 5);
  seed = drop 16 header;
}

-- a header whose fields keep their rules
abbrev pub header_field : (SessionData → Layout) → Layout
header_field next = field header_size (λ bytes. is_none (first_broken bytes)) (λ bytes. next (session_in bytes))

-- the tag
abbrev pub tag_field : Layout → Layout
tag_field next = field 1 (λ bytes. slice_index bytes 0 == certificate_tag) (λ bytes. next)

-- the kind, which is 0 for one file, 1 for two and 2 for none
abbrev pub kind_field : (ℕ → Layout) → Layout
kind_field next = field 1 (λ bytes. nat_le (slice_index bytes 0) 2) (λ bytes. next (slice_index bytes 0))

-- the number of packets
abbrev pub count_field : (ℕ → Layout) → Layout
count_field next = field 4 (λ bytes. nat_le (from_be_bytes w32 bytes) most_listed) (λ bytes. next (from_be_bytes w32 bytes))

-- a packet's record, which begins with the packet's tag
abbrev pub packet_field : SessionData → Layout → Layout
packet_field session next = field (5 + session.m + session.t) (λ bytes. slice_index bytes 0 == packet_tag) (λ bytes. next)

-- so many packets' records
abbrev pub packet_fields : SessionData → ℕ → Layout → Layout
packet_fields session count next = fields count (5 + session.m + session.t) (λ bytes. slice_index bytes 0 == packet_tag) next

-- a file
abbrev pub file_field : SessionData → Layout → Layout
file_field session next = field session.file_length any (λ bytes. next)

-- the rows of so many symbols, each with a factor for each of so many packets, and nothing behind them
abbrev pub row_fields : ℕ → ℕ → Layout
row_fields symbols count = fields symbols count any nothing

-- the symbol in which two files differ
abbrev pub symbol_field : SessionData → (ℕ → Layout) → Layout
symbol_field session next = field 4 (λ bytes. nat_lt (from_be_bytes w32 bytes) (symbols_of session)) (λ bytes. next (from_be_bytes w32 bytes))

-- the column in which no file agrees
abbrev pub column_field : SessionData → Layout → Layout
column_field session next = field 2 (λ bytes. nat_lt (from_be_bytes w16 bytes) session.t) (λ bytes. next)

-- behind the packets, where there is one file
abbrev pub one_fields : SessionData → ℕ → Layout
one_fields session count = file_field session (row_fields (symbols_of session) count)

-- where there are two: a symbol, the files, and the rows of the symbols below it
abbrev pub two_fields : SessionData → ℕ → Layout
two_fields session count = symbol_field session (λ s. file_field session (file_field session (row_fields s count)))

-- where there is none: a column, and the factors together
abbrev pub zero_fields : SessionData → ℕ → Layout
zero_fields session count = column_field session (field count any (λ factors. nothing))

-- behind so many packets, where the kind is this
abbrev pub body_fields : SessionData → ℕ → ℕ → Layout
body_fields session kind count =
    if kind == 0 then one_fields session count else if kind == 1 then two_fields session count else zero_fields session count

-- what stands before the packets, and then what it says
abbrev pub begin_fields : (SessionData → ℕ → ℕ → Layout) → Layout
begin_fields next = header_field (λ session. tag_field (kind_field (λ kind. count_field (next session kind))))

-- the fields of a certificate
unfoldable pub certificate_fields : Layout
certificate_fields = begin_fields (λ session kind count. packet_fields session count (body_fields session kind count))

-- in bytes that are no certificate's, the place of the first field that is cut or breaks its rule, or of the first byte behind
-- the last field
abbrev pub first_wrong : List ℕ → Option ℕ
first_wrong input = certificate_fields 0 input

-- bytes of a certificate at most: the header, tag, kind and number, 8,193 packets, a symbol, two files of 8 MiB, and the rows of
-- 4,095 symbols
abbrev pub longest_certificate : ℕ
longest_certificate = 67409998
