-- What a certificate shows of its packets, by sums alone.
use Rattle.std.specs.Prelude.{ℕ, ◌≡◌, ◌≢◌, ◌<◌, ◌≤◌, ◌+◌, ◌*◌, List, All, length, slice_index}
use Rattle.gf_core.specs.Bytes.{AreBytes}
use Rattle.gf_rows.specs.Matrix.{Grid, IsMatrix, matrix_row}
use Rattle.bats_model.specs.Session.{SessionData, symbols_of}
use Rattle.bats_model.specs.Coded.{unit_vector}
use Rattle.bats_model.specs.Agreement.{IsFile, AgreesWithAll, IsSameSymbol}
use Rattle.bats_model.specs.PacketFile.{HasShape}
use Rattle.bats_model.specs.declared.packet.Packet.{Packet}
use Rattle.bats_model.specs.declared.answer.Answer.{Answer}
use Rattle.bats_model.specs.declared.answer.Answer.TheVariants.{File, Inconsistent, NeedMore}
use Rattle.bats_cert.specs.Sums.{symbol_sums, payload_sums}
use Rattle.bats_cert.specs.declared.certificate.Body.{Body}
use Rattle.bats_cert.specs.declared.certificate.Body.TheVariants.{One, Two, Zero}
use Rattle.bats_cert.specs.declared.certificate.Certificate.{Certificate}

-- ---- what is shown

-- the factors of row s give symbol s: the sum of the packets says 1 of it and 0 of every other symbol
abbrev pub GivesSymbol : SessionData → List Packet → Grid → ℕ → Type 0
GivesSymbol session packets rows s = symbol_sums session packets (matrix_row rows s) ≡ unit_vector (symbols_of session) s

-- the first rows, so many, give the symbols of their numbers
pub record GiveSymbols (session : SessionData) (packets : List Packet) (count : ℕ) (rows : Grid) : Type 0 where
  pub each : (s : ℕ) → s < count → GivesSymbol session packets rows s

-- the sum of the packets by these factors says 0 of each symbol that has a byte of the file in the column. The last symbol
-- may have none there: its byte is 0 in each file.
pub record GivesNothing (session : SessionData) (packets : List Packet) (column : ℕ) (factors : List ℕ) : Type 0 where
  pub each : (s : ℕ) → s < symbols_of session → s * session.t + column < session.file_length
      → slice_index (symbol_sums session packets factors) s ≡ 0

-- the file agrees, and each symbol is a sum of the packets
pub record ShowsOne (session : SessionData) (packets : List Packet) (file : List ℕ) (rows : Grid) : Type 0 where
  pub agrees : AgreesWithAll session packets file
  pub rows_give : GiveSymbols session packets (symbols_of session) rows

-- both files agree and differ in symbol s, and each symbol below it is a sum of the packets
pub record ShowsTwo (session : SessionData) (packets : List Packet) (s : ℕ) (first second : List ℕ) (rows : Grid) : Type 0 where
  pub within : s < symbols_of session
  pub first_agrees : AgreesWithAll session packets first
  pub second_agrees : AgreesWithAll session packets second
  pub differ : ¬ IsSameSymbol session first second s
  pub rows_give : GiveSymbols session packets s rows

-- a sum of the packets takes from no symbol in the column, and its byte there isn't 0
pub record ShowsNone (session : SessionData) (packets : List Packet) (column : ℕ) (factors : List ℕ) : Type 0 where
  pub within : column < session.t
  pub nothing : GivesNothing session packets column factors
  pub byte : slice_index (payload_sums session packets factors) column ≢ 0

-- the body shows what it says of the packets
abbrev pub Shows : SessionData → List Packet → Body → Type 0
Shows session packets (One file rows) = ShowsOne session packets file rows
Shows session packets (Two at_symbol first second rows) = ShowsTwo session packets at_symbol first second rows
Shows session packets (Zero column factors) = ShowsNone session packets column factors

-- the answer that a body says
abbrev pub answer_of : Body → Answer
answer_of (One file rows) = File file
answer_of (Two at_symbol first second rows) = NeedMore at_symbol first second
answer_of (Zero column factors) = Inconsistent

-- ---- numbers and lengths

-- packets that a certificate lists, at most
abbrev pub most_listed : ℕ
most_listed = 8193

-- so many rows, with a factor for each packet
pub record AreFactors (packets : List Packet) (count : ℕ) (rows : Grid) : Type 0 where
  pub matrix : IsMatrix rows
  pub width : rows.cols ≡ length packets
  pub number : length rows.rows ≡ count

-- the body's numbers are in range, and its files, rows and factors have their lengths
abbrev pub IsFitBody : SessionData → List Packet → Body → Type 0
IsFitBody session packets (One file rows) = IsFile session file × AreFactors packets (symbols_of session) rows
IsFitBody session packets (Two at_symbol first second rows) =
    (at_symbol < symbols_of session) × IsFile session first × IsFile session second × AreFactors packets at_symbol rows
IsFitBody session packets (Zero column factors) =
    (column < session.t) × (length factors ≡ length packets) × AreBytes factors

-- the certificate's numbers and lengths fit
pub record IsFit (cert : Certificate) : Type 0 where
  pub few : length cert.packets ≤ most_listed
  pub shapes : All (HasShape cert.session) cert.packets
  pub body : IsFitBody cert.session cert.packets cert.body

-- its numbers and lengths fit, and it shows what it says
pub record IsCertificate (cert : Certificate) : Type 0 where
  pub fit : IsFit cert
  pub shows : Shows cert.session cert.packets cert.body
