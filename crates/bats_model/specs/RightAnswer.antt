-- The right answer to a list of received packets. All files are asked, and none is listed.
use Rattle.std.specs.Prelude.{ℕ, ◌≡◌, ◌<◌, List}
use Rattle.bats_model.specs.Session.{SessionData}
use Rattle.bats_model.specs.Agreement.{AgreesWithAll, IsSameSymbol}
use Rattle.bats_model.specs.declared.packet.Packet.{Packet}
use Rattle.bats_model.specs.declared.answer.Answer.{Answer}
use Rattle.bats_model.specs.declared.answer.Answer.TheVariants.{File, Inconsistent, NeedMore}

-- the file agrees with all packets, and no other file does
pub record IsOnlyFile (session : SessionData) (packets : List Packet) (file : List ℕ) : Type 0 where
  pub agrees : AgreesWithAll session packets file
  pub only : (other : List ℕ) → AgreesWithAll session packets other → other ≡ file

-- no file agrees with all packets
pub record NoFileAgrees (session : SessionData) (packets : List Packet) : Type 0 where
  pub none : (file : List ℕ) → ¬ AgreesWithAll session packets file

-- two files agree with all packets and differ in symbol s, and all files that agree are the same in each symbol
-- below it
pub record IsFirstOpen (session : SessionData) (packets : List Packet) (s : ℕ) (first second : List ℕ) : Type 0 where
  pub first_agrees : AgreesWithAll session packets first
  pub second_agrees : AgreesWithAll session packets second
  pub differ : ¬ IsSameSymbol session first second s
  pub same_below : (one other : List ℕ) → AgreesWithAll session packets one → AgreesWithAll session packets other
      → (k : ℕ) → k < s → IsSameSymbol session one other k

-- the answer is right for these packets: the only file that agrees, or that none does, or two that do and the first symbol
-- in which files that agree differ
abbrev pub IsRightAnswer : SessionData → List Packet → Answer → Type 0
IsRightAnswer session packets (File file) = IsOnlyFile session packets file
IsRightAnswer session packets Inconsistent = NoFileAgrees session packets
IsRightAnswer session packets (NeedMore at_symbol first second) = IsFirstOpen session packets at_symbol first second

-- what all right answers to the same packets have in common: the kind, and then the file or the first open symbol
abbrev pub AreAlike : Answer → Answer → Type 0
AreAlike (File file) (File other) = file ≡ other
AreAlike Inconsistent Inconsistent = Unit {0}
AreAlike (NeedMore at_symbol _ _) (NeedMore at_other _ _) = at_symbol ≡ at_other
AreAlike _ _ = ⊥

-- some answer is right for these packets, and each other right one is like it
pub record HasOneKindOfAnswer (session : SessionData) (packets : List Packet) : Type 0 where
  pub answer : Answer
  pub right : IsRightAnswer session packets answer
  pub others : (other : Answer) → IsRightAnswer session packets other → AreAlike answer other
