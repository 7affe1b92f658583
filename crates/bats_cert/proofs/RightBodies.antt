-- What a certificate shows is a right answer.
use Rattle.std.proofs.Common.{ℕ, ◌≡◌, ◌<◌, ◌+◌, ◌*◌, ◌∙◌, sym, ap, List, get_or, inl, inr, arith}
use Rattle.std.proofs.lemmas.Bool.{cases_lt}
use Rattle.std.proofs.lemmas.List.{get_or_past}
use Rattle.gf_core.specs.Field.{gf_mul}
use Rattle.gf_core.proofs.SumLemmas.{gf_sum-one, gf_sum-zeros}
use Rattle.gf_core.proofs.ProductLemmas.{zero-gf_mul, gf_mul-zero, one-gf_mul}
use Rattle.gf_rows.specs.Matrix.{Grid, matrix_row}
use Rattle.bats_model.specs.Session.{SessionData, IsSession, symbols_of}
use Rattle.bats_model.specs.Symbol.{symbol_byte}
use Rattle.bats_model.specs.Coded.{unit_vector}
use Rattle.bats_model.specs.Agreement.{AgreesWithAll, IsSameSymbol}
use Rattle.bats_model.specs.RightAnswer.{IsRightAnswer, IsOnlyFile, IsFirstOpen, NoFileAgrees}
use Rattle.bats_model.specs.declared.packet.Packet.{Packet}
use Rattle.bats_model.proofs.Files.{same-files}
use Rattle.bats_model.proofs.UnitVectors.{IsUnitAt, one-at, zero-elsewhere, length-unit_vector}
use Rattle.bats_cert.specs.Sums.{symbol_sums, payload_sums}
use Rattle.bats_cert.specs.Shown.{GivesSymbol, ShowsOne, ShowsTwo, ShowsNone, Shows, answer_of}
use Rattle.bats_cert.specs.declared.certificate.Body.{Body}
use Rattle.bats_cert.specs.declared.certificate.Body.TheVariants.{One, Two, Zero}
use Rattle.bats_cert.specs.steps.Saying.{row_in_file}
use Rattle.bats_cert.proofs.SymbolSums.{agreeing-byte}

IsUnitAt-unit_vector : (n s : ℕ) → s < n → IsUnitAt (unit_vector n s) s
IsUnitAt-unit_vector n s within = record {
  within = omega (arith, within, length-unit_vector n s);
  entries = ap (λ (k : ℕ). unit_vector k s) (sym (length-unit_vector n s));
}

-- the sum of a unit vector times the file's bytes is the byte of its symbol
unit-sum : (session : SessionData) (file : List ℕ) (c s : ℕ) → s < symbols_of session
    → row_in_file session file c (unit_vector (symbols_of session) s) ≡ symbol_byte session file s c
unit-sum session file c s within =
    let n : ℕ = symbols_of session in
    let unit = IsUnitAt-unit_vector n s within in
    gf_sum-one n (λ u. gf_mul (get_or (unit_vector n s) u 0) (symbol_byte session file u c)) s within
    (λ u l other. ap (λ (y : ℕ). gf_mul y (symbol_byte session file u c))
    (zero-elsewhere (unit_vector n s) s unit u (omega (arith, l, length-unit_vector n s)) other) ∙ zero-gf_mul (symbol_byte session file u c))
    ∙ ap (λ (y : ℕ). gf_mul y (symbol_byte session file s c)) (one-at (unit_vector n s) s unit) ∙ one-gf_mul (symbol_byte session file s c)

-- factors that give a symbol give its bytes of each file that agrees
given-byte : (session : SessionData) (packets : List Packet) (rows : Grid) (s c : ℕ) (file : List ℕ) → s < symbols_of session → c < session.t
    → GivesSymbol session packets rows s → AgreesWithAll session packets file
    → get_or (payload_sums session packets (matrix_row rows s)) c 0 ≡ symbol_byte session file s c
given-byte session packets rows s c file within column gives h =
    agreeing-byte session packets file (matrix_row rows s) c h column
    ∙ ap (row_in_file session file c) gives ∙ unit-sum session file c s within

-- so files that agree are the same there
given-same : (session : SessionData) (packets : List Packet) (rows : Grid) (s : ℕ) (one other : List ℕ) → s < symbols_of session
    → GivesSymbol session packets rows s → AgreesWithAll session packets one → AgreesWithAll session packets other → IsSameSymbol session one other s
given-same session packets rows s one other within gives h k c column =
    sym (given-byte session packets rows s c one within column gives h) ∙ given-byte session packets rows s c other within column gives k

only-file : (session : SessionData) (packets : List Packet) (file : List ℕ) (rows : Grid) → IsSession session → ShowsOne session packets file rows
    → IsOnlyFile session packets file
only-file session packets file rows is shows = record {
  agrees = shows.agrees;
  only = λ other h. same-files session other file (omega (arith, is.t_low)) h.is_file.size shows.agrees.is_file.size
      (λ s within. given-same session packets rows s other file within (shows.rows_give.each s within) h shows.agrees);
}

first-open : (session : SessionData) (packets : List Packet) (s : ℕ) (first second : List ℕ) (rows : Grid) → ShowsTwo session packets s first second rows
    → IsFirstOpen session packets s first second
first-open session packets s first second rows shows = record {
  first_agrees = shows.first_agrees;
  second_agrees = shows.second_agrees;
  differ = shows.differ;
  same_below = λ one other h k u below.
      given-same session packets rows u one other (omega (arith, below, shows.within)) (shows.rows_give.each u below) h k;
}

none-agrees : (session : SessionData) (packets : List Packet) (column : ℕ) (factors : List ℕ) → ShowsNone session packets column factors
    → NoFileAgrees session packets
none-agrees session packets column factors shows = record {
  none = λ file h.
      let sums : List ℕ = symbol_sums session packets factors in
      shows.byte (agreeing-byte session packets file factors column h shows.within
      ∙ gf_sum-zeros (symbols_of session) (λ s. gf_mul (get_or sums s 0) (symbol_byte session file s column))
      (λ s within. elim (cases_lt (s * session.t + column) session.file_length) [
        | inl inside ↦ ap (λ (y : ℕ). gf_mul y (symbol_byte session file s column)) (shows.nothing.each s within inside)
            ∙ zero-gf_mul (symbol_byte session file s column)
        | inr past ↦ ap (gf_mul (get_or sums s 0)) (get_or_past file (s * session.t + column) 0 (omega (arith, past, h.is_file.size)))
            ∙ gf_mul-zero (get_or sums s 0)
      ]));
}

pub right-body : (session : SessionData) (packets : List Packet) (body : Body) → IsSession session → Shows session packets body
    → IsRightAnswer session packets (answer_of body)
right-body session packets (One file rows) is shows = only-file session packets file rows is shows
right-body session packets (Two at_symbol first second rows) is shows = first-open session packets at_symbol first second rows shows
right-body session packets (Zero column factors) is shows = none-agrees session packets column factors shows
