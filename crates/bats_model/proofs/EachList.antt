-- Each list of packets has a right answer.
use Rattle.std.proofs.Common.{ℕ, zero, suc, ◌≡◌, ◌<◌, ◌⊎◌, ◌∙◌, ◌&&◌, not, sym, ap, refl, Bool, true, false, List, length, get_or, inl, inr, arith, subst}
use Rattle.std.proofs.lemmas.Bool.{false≢true, both_ways, and_parts, and_from, cases_eq, not-true, cases_Bool}
use Rattle.std.specs.Bool.{Decides}
use Rattle.gf_core.specs.Bytes.{AreBytes, some_bytes}
use Rattle.gf_core.proofs.SearchLemmas.{Found, cases_bytes}
use Rattle.bats_model.specs.Session.{SessionData, IsSession, symbols_of}
use Rattle.bats_model.specs.Agreement.{IsFile, AgreesWithAll, IsSameSymbol}
use Rattle.bats_model.specs.RightAnswer.{IsOnlyFile, NoFileAgrees, IsFirstOpen, IsRightAnswer, HasOneKindOfAnswer}
use Rattle.bats_model.specs.declared.packet.Packet.{Packet}
use Rattle.bats_model.specs.declared.answer.Answer.{Answer}
use Rattle.bats_model.specs.declared.answer.Answer.TheVariants.{File, Inconsistent, NeedMore}
use Rattle.bats_model.proofs.Files.{same-files, is_same_symbol, is_same_symbol-Decides, is_agreeing_with_all, is_agreeing_with_all-Decides}
use Rattle.bats_model.proofs.RightAnswers.{AreAlike-right}

-- whether a file agrees and differs from this one in symbol s
abbrev is_other : SessionData → List Packet → List ℕ → ℕ → List ℕ → Bool
is_other session packets file s other =
    is_agreeing_with_all session packets other && not (is_same_symbol session file other s)

-- some file agrees and differs from this one in symbol s
record HasOther (session : SessionData) (packets : List Packet) (file : List ℕ) (s : ℕ) : Type 0 where
  other : List ℕ
  agrees : AgreesWithAll session packets other
  differ : ¬ IsSameSymbol session file other s

-- each file that agrees has the bytes of this one in symbol s
abbrev IsFixed : SessionData → List Packet → List ℕ → ℕ → Type 0
IsFixed session packets file s =
    (other : List ℕ) → AgreesWithAll session packets other → IsSameSymbol session file other s

cases_symbol : (session : SessionData) (packets : List Packet) (file : List ℕ) (s : ℕ)
    → HasOther session packets file s ⊎ IsFixed session packets file s
cases_symbol session packets file s = elim (cases_bytes session.file_length (is_other session packets file s)) [
  | inl found ↦
      let other : List ℕ = found.list in
      let is : IsFile session other = record { size = found.size; bytes = found.bytes } in
      let parts = and_parts (is_agreeing_with_all session packets other) (not (is_same_symbol session file other s)) found.passes in
      inl (record {
        other = other;
        agrees = (is_agreeing_with_all-Decides session packets other is).0 parts.0;
        differ = λ same. both_ways (is_same_symbol session file other s) (not-true (is_same_symbol session file other s) parts.1)
            ((is_same_symbol-Decides session file other s).1 same);
      })
  | inr none ↦ inr (λ other agrees.
      elim (cases_Bool (is_same_symbol session file other s)) [
        | inl same ↦ (is_same_symbol-Decides session file other s).0 same
        | inr differ ↦
            let passes : is_other session packets file s other ≡ true =
            and_from (is_agreeing_with_all session packets other) (not (is_same_symbol session file other s))
            ((is_agreeing_with_all-Decides session packets other agrees.is_file).1 agrees) (ap not differ) in
            absurd (both_ways (is_other session packets file s other) (none other agrees.is_file.bytes agrees.is_file.size) passes)
      ])
]

-- the first symbol that the packets leave open
record HasFirstOther (session : SessionData) (packets : List Packet) (file : List ℕ) : Type 0 where
  symbol : ℕ
  open_there : HasOther session packets file symbol
  fixed_below : (k : ℕ) → k < symbol → IsFixed session packets file k

cases_symbols : (session : SessionData) (packets : List Packet) (file : List ℕ) (n : ℕ)
    → HasFirstOther session packets file ⊎ ((s : ℕ) → s < n → IsFixed session packets file s)
cases_symbols session packets file zero = inr (λ s below. absurd (omega arith))
cases_symbols session packets file (suc n) = elim (cases_symbols session packets file n) [
  | inl first ↦ inl first
  | inr fixed ↦ elim (cases_symbol session packets file n) [
    | inl other ↦ inl (record { symbol = n; open_there = other; fixed_below = fixed })
    | inr here ↦ inr (λ s below. elim (cases_eq s n) [
      | inl e ↦ subst (IsFixed session packets file) (sym e) here
      | inr apart ↦ fixed s (omega arith)
    ])
  ]
]

first-open : (session : SessionData) (packets : List Packet) (file : List ℕ) → AgreesWithAll session packets file
    → (first : HasFirstOther session packets file) → IsFirstOpen session packets first.symbol file first.open_there.other
first-open session packets file agrees first = record {
  first_agrees = agrees;
  second_agrees = first.open_there.agrees;
  differ = first.open_there.differ;
  same_below = λ one other h k s below c within.
      sym (first.fixed_below s below one h c within) ∙ first.fixed_below s below other k c within;
}

only-file : (session : SessionData) (packets : List Packet) (file : List ℕ) → 0 < session.t → AgreesWithAll session packets file
    → ((s : ℕ) → s < symbols_of session → IsFixed session packets file s) → IsOnlyFile session packets file
only-file session packets file some agrees fixed = record {
  agrees = agrees;
  only = λ other h. sym (same-files session file other some agrees.is_file.size h.is_file.size (λ s below. fixed s below other h));
}

no-file : (session : SessionData) (packets : List Packet)
    → ((file : List ℕ) → AreBytes file → length file ≡ session.file_length → is_agreeing_with_all session packets file ≡ false)
    → NoFileAgrees session packets
no-file session packets none = record {
  none = λ file h. both_ways (is_agreeing_with_all session packets file) (none file h.is_file.bytes h.is_file.size)
      ((is_agreeing_with_all-Decides session packets file h.is_file).1 h);
}

one : (session : SessionData) (packets : List Packet) (answer : Answer) → IsRightAnswer session packets answer → HasOneKindOfAnswer session packets
one session packets answer right = record {
  answer = answer;
  right = right;
  others = λ other is. AreAlike-right session packets answer other right is;
}

pub answer-exists : (session : SessionData) (packets : List Packet) → IsSession session → HasOneKindOfAnswer session packets
answer-exists session packets limits = elim (cases_bytes session.file_length (is_agreeing_with_all session packets)) [
  | inl found ↦
      let file : List ℕ = found.list in
      let is : IsFile session file = record { size = found.size; bytes = found.bytes } in
      let agrees : AgreesWithAll session packets file = (is_agreeing_with_all-Decides session packets file is).0 found.passes in
      elim (cases_symbols session packets file (symbols_of session)) [
        | inl first ↦ one session packets (NeedMore first.symbol file first.open_there.other) (first-open session packets file agrees first)
        | inr fixed ↦ one session packets (File file) (only-file session packets file (omega (arith, limits.t_low)) agrees fixed)
      ]
  | inr none ↦ one session packets Inconsistent (no-file session packets none)
]
