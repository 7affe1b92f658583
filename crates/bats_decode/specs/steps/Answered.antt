-- What an answer has to do with the elimination and the payload rows after its plan.
use Rattle.std.specs.Prelude.{ℕ, suc, ◌≡◌, ◌≢◌, ◌<◌, ◌≤◌, ◌+◌, ◌*◌, ◌⊎◌, ◌==◌, if◌then◌else◌, List, All, length}
use Rattle.gf_core.specs.Field.{gf_add}
use Rattle.gf_rows.specs.Matrix.{Grid, matrix_entry}
use Rattle.bats_model.specs.Session.{SessionData, symbols_of}
use Rattle.bats_model.specs.Symbol.{symbol_byte}
use Rattle.bats_model.specs.Agreement.{IsFile}
use Rattle.bats_model.specs.declared.answer.Answer.{Answer}
use Rattle.bats_model.specs.declared.answer.Answer.TheVariants.{File, Inconsistent, NeedMore}
use Rattle.bats_decode.specs.declared.elimination.Origin.{Origin}
use Rattle.bats_decode.specs.declared.elimination.Origin.TheVariants.{Row, Free}
use Rattle.bats_decode.specs.declared.elimination.Elimination.{Elimination}
use Rattle.bats_decode.specs.steps.Eliminated.{origin_of, free_entry}

-- the zero rows are 0 in each payload column
abbrev pub ZeroRowsHold : Elimination → Grid → Type 0
ZeroRowsHold e payload = All (λ r. (c : ℕ) → c < payload.cols → matrix_entry payload r c ≡ 0) e.zero_rows

-- where the last symbol has a row, that is 0 from the file's end on
abbrev pub PaddingHolds : SessionData → Elimination → Grid → Type 0
PaddingHolds session e payload = (s r c : ℕ) → suc s ≡ symbols_of session → origin_of e s ≡ Row r
    → session.file_length ≤ s * session.t + c → c < session.t → matrix_entry payload r c ≡ 0

-- byte c of a symbol with all free symbols 0: that of its row, or 0
abbrev pub byte_from : Grid → ℕ → Origin → ℕ
byte_from payload c (Row r) = matrix_entry payload r c
byte_from payload c (Free i) = 0

-- the file whose free symbols are 0
pub record IsFound (session : SessionData) (e : Elimination) (payload : Grid) (file : List ℕ) : Type 0 where
  pub is_file : IsFile session file
  pub bytes : (s c : ℕ) → s < symbols_of session → c < session.t → s * session.t + c < session.file_length
      → symbol_byte session file s c ≡ byte_from payload c (origin_of e s)

-- by how much a symbol at an origin changes with free symbol f
abbrev pub change_at : Elimination → ℕ → Origin → ℕ
change_at e f (Row r) = free_entry e r f
change_at e f (Free i) = if i == f then 1 else 0

-- symbol s changes with free symbol f, and no symbol below s changes with any
pub record OpensFirst (session : SessionData) (e : Elimination) (s f : ℕ) : Type 0 where
  pub symbol : s < symbols_of session
  pub free : f < length e.free
  pub changes : change_at e f (origin_of e s) ≢ 0
  pub below : (k i : ℕ) → k < s → i < length e.free → change_at e i (origin_of e k) ≡ 0

-- the second file is the first with free symbol f raised by 1 in column 0
pub record IsRaised (session : SessionData) (e : Elimination) (f : ℕ) (first second : List ℕ) : Type 0 where
  pub is_file : IsFile session second
  pub front : (s : ℕ) → s < symbols_of session
      → symbol_byte session second s 0 ≡ gf_add (symbol_byte session first s 0) (change_at e f (origin_of e s))
  pub rest : (s c : ℕ) → s < symbols_of session → 0 < c → c < session.t
      → symbol_byte session second s c ≡ symbol_byte session first s c

-- two files that differ first in symbol s
pub record AreFound (session : SessionData) (e : Elimination) (payload : Grid) (s : ℕ) (first second : List ℕ) : Type 0 where
  pub free : ℕ
  pub opens : OpensFirst session e s free
  pub found : IsFound session e payload first
  pub raised : IsRaised session e free first second

-- no symbol changes with a free one
abbrev pub NoneIsOpen : SessionData → Elimination → Type 0
NoneIsOpen session e = (s i : ℕ) → s < symbols_of session → i < length e.free → change_at e i (origin_of e s) ≡ 0

abbrev pub IsAnswerOf : SessionData → Elimination → Grid → Answer → Type 0
IsAnswerOf session e payload (File file) =
    ZeroRowsHold e payload × PaddingHolds session e payload × IsFound session e payload file × NoneIsOpen session e
IsAnswerOf session e payload Inconsistent = (¬ ZeroRowsHold e payload) ⊎ (¬ PaddingHolds session e payload)
IsAnswerOf session e payload (NeedMore s first second) =
    ZeroRowsHold e payload × PaddingHolds session e payload × AreFound session e payload s first second
