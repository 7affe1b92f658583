-- Agreement of a file with received packets: which files a list of packets leaves possible.
use Rattle.std.specs.Prelude.{ℕ, ◌≡◌, ◌<◌, List, All, length, slice_index}
use Rattle.bats_model.specs.Bytes.{AreBytes}
use Rattle.bats_model.specs.Session.{SessionData}
use Rattle.bats_model.specs.Symbol.{symbol_byte}
use Rattle.bats_model.specs.Values.{combined_value}
use Rattle.bats_model.specs.declared.packet.Packet.{Packet}

-- a file of the session: bytes, as many as the session declares
pub record IsFile (session : SessionData) (file : List ℕ) : Type 0 where
  pub size : length file ≡ session.file_length
  pub bytes : AreBytes file

-- byte c of the combination of a batch's coded packets: the sum of the coefficients times their bytes
abbrev pub combined_byte : SessionData → List ℕ → ℕ → List ℕ → ℕ → ℕ
combined_byte session file number coefs c = combined_value session number coefs (λ s. symbol_byte session file s c)

-- the packet's payload is, in each column, the combination that its coefficient vector says. Bytes past the file's
-- end count as zeros, so a packet that contradicts them agrees with no file.
pub record Agrees (session : SessionData) (file : List ℕ) (packet : Packet) : Type 0 where
  pub is_file : IsFile session file
  pub columns : (c : ℕ) → c < session.t
      → slice_index packet.payload c ≡ combined_byte session file packet.batch packet.coefs c

-- a file of the session that agrees with each packet of a list; with the empty list each file agrees
pub record AgreesWithAll (session : SessionData) (packets : List Packet) (file : List ℕ) : Type 0 where
  pub is_file : IsFile session file
  pub each : All (Agrees session file) packets

-- two files have the same bytes in symbol s
abbrev pub IsSameSymbol : SessionData → List ℕ → List ℕ → ℕ → Type 0
IsSameSymbol session first second s =
    (c : ℕ) → c < session.t → symbol_byte session first s c ≡ symbol_byte session second s c
