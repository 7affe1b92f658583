-- The records of a packet file. Numbers stand high byte first.
use Rattle.std.specs.Prelude.{ℕ, ◌+◌, List, [], ◌∷◌, ◌++◌, if◌then◌else◌, codes}
use Rattle.std.specs.Int.{w16, w32, w64, to_be_bytes}
use Rattle.bats_model.specs.Session.{SessionData}

-- the version of the header
abbrev pub version : ℕ
version = 1

-- the first byte of a header record, a `B`
abbrev pub header_tag : ℕ
header_tag = 66

-- the first byte of a packet record, a `P`
abbrev pub packet_tag : ℕ
packet_tag = 80

-- the mode byte: bit 7 for a systematic session, and the number of the degree table in bits 0 to 3
abbrev pub mode_of : SessionData → ℕ
mode_of session = (if session.systematic then 128 else 0) + session.table

-- the header record: 32 bytes, which are `BTS`, version, M, mode, T, the file's length, and the seed
unfoldable pub header_record : SessionData → List ℕ
header_record session =
    codes "BTS" ++ version ∷ session.m ∷ mode_of session ∷ [] ++ to_be_bytes w16 session.t
    ++ to_be_bytes w64 session.file_length ++ session.seed

-- the record of a packet: a `P`, the number of its batch, its coefficient vector and its payload
unfoldable pub packet_record : ℕ → List ℕ → List ℕ → List ℕ
packet_record batch coefs payload = codes "P" ++ to_be_bytes w32 batch ++ coefs ++ payload
