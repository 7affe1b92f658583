-- The answer that the elimination and the payload rows after its plan give is right, and a plan that leaves no symbol
-- open solves the packets.
use Rattle.std.proofs.Common.{ℕ, zero, suc, min, ◌≡◌, ◌≢◌, ◌<◌, ◌≤◌, ◌+◌, ◌*◌, ◌/◌, ◌%◌, ◌∙◌, ◌==◌, if◌then◌else◌, cond, sym, ap, refl, subst, inl, inr, arith, lit<, List, [], All, length, get_or, eq-eqb, mul-le-mul_right, add-zero, suc-mul}
use Rattle.std.proofs.lemmas.Bool.{cases_eq, cases_lt, ne_eqb}
use Rattle.std.proofs.lemmas.Grind.{div_ceil_times}
use Rattle.std.proofs.lemmas.Nat.{div-add-mod'}
use Rattle.std.proofs.lemmas.List.{get_or_past}
use Rattle.std.proofs.lemmas.List.Elements.{All-from_get_or}
use Rattle.gf_core.specs.Field.{gf_add, gf_mul}
use Rattle.gf_core.proofs.AddLemmas.{gf_add-zero, zero-gf_add, gf_add_self, gf_add_cancel_left}
use Rattle.gf_core.proofs.SumLemmas.{gf_sum-zeros, gf_sum-one}
use Rattle.gf_core.proofs.ProductLemmas.{gf_mul-zero, zero-gf_mul, gf_mul-one}
use Rattle.gf_core.proofs.RowLemmas.{byte_at}
use Rattle.gf_rows.specs.Matrix.{Grid, IsMatrix, matrix_entry, matrix_row}
use Rattle.gf_rows.specs.Equations.{AreValues}
use Rattle.gf_rows.specs.Plan.{plan_on_column}
use Rattle.bats_stripes.specs.Columns.{IsReplayed}
use Rattle.bats_model.specs.Session.{SessionData, IsSession, IsPadded, symbols_of}
use Rattle.bats_model.specs.Symbol.{symbol_byte}
use Rattle.bats_model.specs.Values.{Satisfies}
use Rattle.bats_model.specs.Agreement.{AgreesWithAll}
use Rattle.bats_model.specs.RightAnswer.{IsRightAnswer, IsFirstOpen}
use Rattle.bats_model.specs.PacketFile.{HasShape}
use Rattle.bats_model.specs.declared.packet.Packet.{Packet}
use Rattle.bats_model.specs.declared.answer.Answer.{Answer}
use Rattle.bats_model.specs.declared.answer.Answer.TheVariants.{File, Inconsistent, NeedMore}
use Rattle.bats_model.proofs.Files.{same-files}
use Rattle.bats_decode.specs.SolvingPlan.{IsSolvingPlan, column_at}
use Rattle.bats_decode.specs.declared.elimination.Origin.{Origin}
use Rattle.bats_decode.specs.declared.elimination.Origin.TheVariants.{Row, Free}
use Rattle.bats_decode.specs.declared.elimination.Elimination.{Elimination}
use Rattle.bats_decode.specs.steps.Eliminated.{IsEliminated, IsOriginWithin, ComesFrom, AreZeroAfter, origin_of, free_entry, free_sum, value_at, values_from}
use Rattle.bats_decode.specs.steps.Replayed.{payload_grid}
use Rattle.bats_decode.specs.steps.Answered.{ZeroRowsHold, PaddingHolds, IsFound, IsRaised, AreFound, NoneIsOpen, IsAnswerOf, byte_from, change_at}
use Rattle.bats_decode.proofs.AgreeingColumns.{payload_column, bytes_at, length-payload_column, payload_column-bytes, Satisfies-same, columns_of_agreeing, agreeing_of_columns, entry_of_replayed}

-- ---- the values of free symbols

-- 1 at one number and 0 at the others
abbrev one_at : ℕ → ℕ → ℕ
one_at f i = if i == f then 1 else 0

one_at-same : (f i : ℕ) → i ≡ f → one_at f i ≡ 1
one_at-same f i e = ap (λ b. cond b 1 0) (eq-eqb i f e)

one_at-other : (f i : ℕ) → i ≢ f → one_at f i ≡ 0
one_at-other f i other = ap (λ b. cond b 1 0) (ne_eqb i f other)

one_at-lt : (f i : ℕ) → one_at f i < 256
one_at-lt f i = elim (cases_eq i f) [
  | inl e ↦ omega (arith, one_at-same f i e)
  | inr other ↦ omega (arith, one_at-other f i other)
]

-- a row with no entry for a free symbol
free_sum-unchanged : (e : Elimination) (r : ℕ) (v : ℕ → ℕ) → ((i : ℕ) → i < length e.free → free_entry e r i ≡ 0) → free_sum e r v ≡ 0
free_sum-unchanged e r v none =
    gf_sum-zeros (length e.free) (λ i. gf_mul (free_entry e r i) (v i)) (λ i b. ap (λ (x : ℕ). gf_mul x (v i)) (none i b) ∙ zero-gf_mul (v i))

free_sum-zeros : (e : Elimination) (r : ℕ) → free_sum e r (λ i. 0) ≡ 0
free_sum-zeros e r =
    gf_sum-zeros (length e.free) (λ i. gf_mul (free_entry e r i) 0) (λ i b. gf_mul-zero (free_entry e r i))

free_sum-one : (e : Elimination) (r f : ℕ) → f < length e.free → free_entry e r f < 256 → free_sum e r (one_at f) ≡ free_entry e r f
free_sum-one e r f within byte =
    gf_sum-one (length e.free) (λ i. gf_mul (free_entry e r i) (one_at f i)) f within
    (λ i b other. ap (gf_mul (free_entry e r i)) (one_at-other f i other) ∙ gf_mul-zero (free_entry e r i))
    ∙ (ap (gf_mul (free_entry e r f)) (one_at-same f f refl) ∙ gf_mul-one (free_entry e r f) byte)

-- ---- a symbol at an origin, in a column

-- the column of the payload rows after the plan is this
abbrev IsColumnOf : Grid → ℕ → List ℕ → Type 0
IsColumnOf payload c after = (r : ℕ) → matrix_entry payload r c ≡ get_or after r 0

abbrev IsUnchanged : Elimination → Origin → Type 0
IsUnchanged e p = (i : ℕ) → i < length e.free → change_at e i p ≡ 0

unchanged_value : (e : Elimination) (payload : Grid) (c rows : ℕ) (after : List ℕ) (v : ℕ → ℕ) (p : Origin)
    → IsOriginWithin rows (length e.free) p → IsUnchanged e p → IsColumnOf payload c after
    → value_at e after v p ≡ byte_from payload c p
unchanged_value e payload c rows after v (Row r) within none entries =
    ap (gf_add (get_or after r 0)) (free_sum-unchanged e r v none) ∙ (gf_add-zero (get_or after r 0) ∙ sym (entries r))
unchanged_value e payload c rows after v (Free i) within none entries =
    absurd (omega (arith, none i within, one_at-same i i refl))

zero_value : (e : Elimination) (payload : Grid) (c : ℕ) (after : List ℕ) (p : Origin) → IsColumnOf payload c after
    → value_at e after (λ i. 0) p ≡ byte_from payload c p
zero_value e payload c after (Row r) entries =
    ap (gf_add (get_or after r 0)) (free_sum-zeros e r) ∙ (gf_add-zero (get_or after r 0) ∙ sym (entries r))
zero_value e payload c after (Free i) entries = refl

raised_value : (e : Elimination) (payload : Grid) (c f : ℕ) (after : List ℕ) (p : Origin) → IsMatrix e.matrix
    → IsOriginWithin (length e.matrix.rows) (length e.free) p → f < length e.free → IsColumnOf payload c after
    → value_at e after (one_at f) p ≡ gf_add (byte_from payload c p) (change_at e f p)
raised_value e payload c f after (Row r) matrix within free entries =
    let byte : free_entry e r f < 256 = byte_at (matrix_row e.matrix r) (get_or e.free f 0) (matrix.bytes r [] within) in
    ap (gf_add (get_or after r 0)) (free_sum-one e r f free byte)
    ∙ ap (λ (x : ℕ). gf_add x (free_entry e r f)) (sym (entries r))
raised_value e payload c f after (Free i) matrix within free entries = sym (zero-gf_add (one_at f i))

-- ---- the last symbol

-- a byte past the file's end is one of the last symbol
pub last_symbol : (session : SessionData) (s c : ℕ) → 0 < session.t → s < symbols_of session → c < session.t
    → session.file_length ≤ s * session.t + c → suc s ≡ symbols_of session
last_symbol session s c some within l past =
    let t : ℕ = session.t in
    let few : symbols_of session * t < session.file_length + t = (div_ceil_times session.file_length t some).1 in
    elim (cases_lt (suc s) (symbols_of session)) [
      | inl more ↦
          let two : suc (suc s) * t ≤ symbols_of session * t = mul-le-mul_right t more in
          let next : suc (suc s) * t ≡ t + (t + s * t) = omega arith in
          absurd (omega (arith, two, next, few, past, l))
      | inr none ↦ omega arith
    ]

-- where the last symbol has bytes past the file's end, the session is padded
pub padded : (session : SessionData) (s c : ℕ) → suc s ≡ symbols_of session → c < session.t
    → session.file_length ≤ s * session.t + c → IsPadded session
padded session s c last l past whole =
    let t : ℕ = session.t in
    let parts : session.file_length / t * t + session.file_length % t ≡ session.file_length = div-add-mod' session.file_length t in
    let count : symbols_of session ≡ session.file_length / t =
    ap (λ (n : ℕ). session.file_length / t + min 1 n) whole ∙ add-zero (session.file_length / t) in
    let size : session.file_length / t * t ≡ suc s * t = ap (λ (n : ℕ). n * t) (sym count ∙ sym last) in
    let next : suc s * t ≡ s * t + t = suc-mul s t in
    omega (arith, parts, size, next, past, l, whole)

-- ---- packets, their elimination, and their payload rows after the plan

record AreSolved (session : SessionData) (packets : List Packet) (e : Elimination) (payload : Grid) : Type 0 where
  is_session : IsSession session
  shapes : All (HasShape session) packets
  eliminated : IsEliminated session packets e
  replayed : IsReplayed e.plan (payload_grid session.t packets) payload

-- a payload column after the plan
abbrev column_after : List Packet → Elimination → ℕ → List ℕ
column_after packets e c = plan_on_column e.plan (payload_column packets c)

entries_after : (session : SessionData) (packets : List Packet) (e : Elimination) (payload : Grid)
    → AreSolved session packets e payload → (c : ℕ) → c < session.t → IsColumnOf payload c (column_after packets e c)
entries_after session packets e payload h c within r =
    entry_of_replayed session.t packets e.plan payload h.replayed c within r

zero_after : (session : SessionData) (packets : List Packet) (e : Elimination) (payload : Grid)
    → AreSolved session packets e payload → ZeroRowsHold e payload → (c : ℕ) → c < session.t
    → AreZeroAfter e (column_after packets e c)
zero_after session packets e payload h hold c l = λ i d within.
    sym (entries_after session packets e payload h c l (get_or e.zero_rows i d))
    ∙ hold i d within c (subst (λ (n : ℕ). c < n) (sym h.replayed.cols) l)

-- the values of the symbols that byte values of the free ones make in a column satisfy the packets
values_satisfy : (session : SessionData) (packets : List Packet) (e : Elimination) (payload : Grid)
    → AreSolved session packets e payload → ZeroRowsHold e payload → (c : ℕ) → c < session.t → (v : ℕ → ℕ)
    → AreValues (length e.free) v
    → Satisfies session packets (payload_column packets c) (values_from e (column_after packets e c) v)
values_satisfy session packets e payload h hold c l v bytes =
    h.eliminated.makes (payload_column packets c) v (length-payload_column packets c)
    (payload_column-bytes session packets c h.shapes) bytes (zero_after session packets e payload h hold c l)

-- ---- files that agree

-- an agreeing file's zero rows are 0
agreeing_zero : (session : SessionData) (packets : List Packet) (e : Elimination) (payload : Grid)
    → AreSolved session packets e payload → (file : List ℕ) → AgreesWithAll session packets file → ZeroRowsHold e payload
agreeing_zero session packets e payload h file agrees = λ i d within c l.
    let inside : c < session.t = subst (λ (n : ℕ). c < n) h.replayed.cols l in
    entries_after session packets e payload h c inside (get_or e.zero_rows i d)
    ∙ h.eliminated.zero (payload_column packets c) (bytes_at session file c)
    (columns_of_agreeing session packets file agrees c inside) i d within

-- an agreeing file's byte in a symbol that changes with no free one
agreeing_byte : (session : SessionData) (packets : List Packet) (e : Elimination) (payload : Grid)
    → AreSolved session packets e payload → (file : List ℕ) → AgreesWithAll session packets file
    → (s c : ℕ) → s < symbols_of session → c < session.t → IsUnchanged e (origin_of e s)
    → symbol_byte session file s c ≡ byte_from payload c (origin_of e s)
agreeing_byte session packets e payload h file agrees s c within l none =
    let come : ComesFrom session e (column_after packets e c) (bytes_at session file c) =
    h.eliminated.comes (payload_column packets c) (bytes_at session file c)
    (columns_of_agreeing session packets file agrees c l) in
    come.each s within
    ∙ unchanged_value e payload c (length packets) (column_after packets e c) come.free (origin_of e s)
    (h.eliminated.shape.origins_within s within) none (entries_after session packets e payload h c l)

-- an agreeing file's last symbol is 0 past the file's end
agreeing_padding : (session : SessionData) (packets : List Packet) (e : Elimination) (payload : Grid)
    → AreSolved session packets e payload → (file : List ℕ) → AgreesWithAll session packets file
    → PaddingHolds session e payload
agreeing_padding session packets e payload h file agrees = λ s r c last origin past l.
    let within : s < symbols_of session = omega arith in
    let after : List ℕ = column_after packets e c in
    let come : ComesFrom session e after (bytes_at session file c) =
    h.eliminated.comes (payload_column packets c) (bytes_at session file c)
    (columns_of_agreeing session packets file agrees c l) in
    let none : free_sum e r come.free ≡ 0 = free_sum-unchanged e r come.free
    (λ i b. h.eliminated.last s r i (padded session s c last l past) last origin b) in
    let own : symbol_byte session file s c ≡ get_or after r 0 =
    come.each s within ∙ (ap (value_at e after come.free) origin
    ∙ (ap (gf_add (get_or after r 0)) none ∙ gf_add-zero (get_or after r 0))) in
    entries_after session packets e payload h c l r
    ∙ (sym own ∙ get_or_past file (s * session.t + c) 0 (omega (arith, past, agrees.is_file.size)))

-- ---- the found file

padding_at_origin : (session : SessionData) (e : Elimination) (payload : Grid) (s c : ℕ) (p : Origin)
    → PaddingHolds session e payload → suc s ≡ symbols_of session → session.file_length ≤ s * session.t + c → c < session.t
    → origin_of e s ≡ p → byte_from payload c p ≡ 0
padding_at_origin session e payload s c (Row r) holds last past l origin = holds s r c last origin past l
padding_at_origin session e payload s c (Free i) holds last past l origin = refl

-- all bytes of its symbols, also those past its end
found_byte : (session : SessionData) (e : Elimination) (payload : Grid) (file : List ℕ) → IsSession session
    → PaddingHolds session e payload → IsFound session e payload file
    → (s c : ℕ) → s < symbols_of session → c < session.t
    → symbol_byte session file s c ≡ byte_from payload c (origin_of e s)
found_byte session e payload file is holds found s c within l =
    elim (cases_lt (s * session.t + c) session.file_length) [
      | inl inside ↦ found.bytes s c within l inside
      | inr past ↦
          let last : suc s ≡ symbols_of session = last_symbol session s c (omega (arith, is.t_low)) within l past in
          get_or_past file (s * session.t + c) 0 (omega (arith, past, found.is_file.size))
          ∙ sym (padding_at_origin session e payload s c (origin_of e s) holds last past l refl)
    ]

-- its bytes satisfy the packets in a column
found_column : (session : SessionData) (packets : List Packet) (e : Elimination) (payload : Grid)
    → AreSolved session packets e payload → ZeroRowsHold e payload → PaddingHolds session e payload
    → (file : List ℕ) → IsFound session e payload file → (c : ℕ) → c < session.t
    → Satisfies session packets (payload_column packets c) (bytes_at session file c)
found_column session packets e payload h hold padding file found c l =
    let after : List ℕ = column_after packets e c in
    Satisfies-same session packets (payload_column packets c) (values_from e after (λ i. 0)) (bytes_at session file c)
    (λ s within.
    zero_value e payload c after (origin_of e s) (entries_after session packets e payload h c l)
    ∙ sym (found_byte session e payload file h.is_session padding found s c within l))
    (values_satisfy session packets e payload h hold c l (λ i. 0) (λ i b. lit< tt))

found_agrees : (session : SessionData) (packets : List Packet) (e : Elimination) (payload : Grid)
    → AreSolved session packets e payload → ZeroRowsHold e payload → PaddingHolds session e payload
    → (file : List ℕ) → IsFound session e payload file → AgreesWithAll session packets file
found_agrees session packets e payload h hold padding file found =
    agreeing_of_columns session packets file found.is_file
    (found_column session packets e payload h hold padding file found)

-- where no symbol is open it is the only one
found_only : (session : SessionData) (packets : List Packet) (e : Elimination) (payload : Grid)
    → AreSolved session packets e payload → PaddingHolds session e payload → (file : List ℕ) → IsFound session e payload file
    → NoneIsOpen session e → (other : List ℕ) → AgreesWithAll session packets other → other ≡ file
found_only session packets e payload h padding file found none other agrees =
    same-files session other file (omega (arith, h.is_session.t_low)) agrees.is_file.size found.is_file.size
    (λ s within c l.
    agreeing_byte session packets e payload h other agrees s c within l (λ i b. none s i within b)
    ∙ sym (found_byte session e payload file h.is_session padding found s c within l))

-- ---- the raised file

raised_column : (session : SessionData) (packets : List Packet) (e : Elimination) (payload : Grid)
    → AreSolved session packets e payload → ZeroRowsHold e payload → PaddingHolds session e payload
    → (f : ℕ) (first second : List ℕ) → f < length e.free → IsFound session e payload first → IsRaised session e f first second
    → (c : ℕ) → c < session.t → Satisfies session packets (payload_column packets c) (bytes_at session second c)
raised_column session packets e payload h hold padding f first second free found raised zero l =
    let after : List ℕ = column_after packets e 0 in
    let shape = h.eliminated.shape in
    Satisfies-same session packets (payload_column packets 0) (values_from e after (one_at f)) (bytes_at session second 0)
    (λ s within.
    raised_value e payload 0 f after (origin_of e s) shape.matrix
    (subst (λ (n : ℕ). IsOriginWithin n (length e.free) (origin_of e s)) (sym shape.row_count) (shape.origins_within s within))
    free (entries_after session packets e payload h 0 l)
    ∙ (ap (λ (x : ℕ). gf_add x (change_at e f (origin_of e s)))
    (sym (found_byte session e payload first h.is_session padding found s 0 within l))
    ∙ sym (raised.front s within)))
    (values_satisfy session packets e payload h hold 0 l (one_at f) (λ i b. one_at-lt f i))
raised_column session packets e payload h hold padding f first second free found raised (suc c) l =
    Satisfies-same session packets (payload_column packets (suc c)) (bytes_at session first (suc c)) (bytes_at session second (suc c))
    (λ s within. sym (raised.rest s (suc c) within (omega arith) l))
    (found_column session packets e payload h hold padding first found (suc c) l)

raised_agrees : (session : SessionData) (packets : List Packet) (e : Elimination) (payload : Grid)
    → AreSolved session packets e payload → ZeroRowsHold e payload → PaddingHolds session e payload
    → (f : ℕ) (first second : List ℕ) → f < length e.free → IsFound session e payload first → IsRaised session e f first second
    → AgreesWithAll session packets second
raised_agrees session packets e payload h hold padding f first second free found raised =
    agreeing_of_columns session packets second raised.is_file
    (raised_column session packets e payload h hold padding f first second free found raised)

-- a sum that is its first part
nothing_added : (a b : ℕ) → a ≡ gf_add a b → b ≡ 0
nothing_added a b e = sym (gf_add_cancel_left a b) ∙ (ap (gf_add a) (sym e) ∙ gf_add_self a)

first_open : (session : SessionData) (packets : List Packet) (e : Elimination) (payload : Grid)
    → AreSolved session packets e payload → ZeroRowsHold e payload → PaddingHolds session e payload
    → (s : ℕ) (first second : List ℕ) → AreFound session e payload s first second
    → IsFirstOpen session packets s first second
first_open session packets e payload h hold padding s first second found = record {
  first_agrees = found_agrees session packets e payload h hold padding first found.found;
  second_agrees =
      raised_agrees session packets e payload h hold padding found.free first second found.opens.free found.found found.raised;
  differ = λ same. found.opens.changes
      (nothing_added (symbol_byte session first s 0) (change_at e found.free (origin_of e s))
      (same 0 (omega (arith, h.is_session.t_low)) ∙ found.raised.front s found.opens.symbol));
  same_below = λ one other one_agrees other_agrees k below c l.
      let within : k < symbols_of session = omega (arith, below, found.opens.symbol) in
      let none : IsUnchanged e (origin_of e k) = λ i b. found.opens.below k i below b in
      agreeing_byte session packets e payload h one one_agrees k c within l none
      ∙ sym (agreeing_byte session packets e payload h other other_agrees k c within l none);
}

-- ---- the answer, and the plan

right_of_solved : (session : SessionData) (packets : List Packet) (e : Elimination) (payload : Grid)
    → AreSolved session packets e payload → (answer : Answer) → IsAnswerOf session e payload answer
    → IsRightAnswer session packets answer
right_of_solved session packets e payload h (File file) (hold, padding, found, none) = record {
  agrees = found_agrees session packets e payload h hold padding file found;
  only = found_only session packets e payload h padding file found none;
}
right_of_solved session packets e payload h Inconsistent (inl not_zero) =
    record { none = λ file agrees. not_zero (agreeing_zero session packets e payload h file agrees) }
right_of_solved session packets e payload h Inconsistent (inr not_padding) =
    record { none = λ file agrees. not_padding (agreeing_padding session packets e payload h file agrees) }
right_of_solved session packets e payload h (NeedMore s first second) (hold, padding, found) =
    first_open session packets e payload h hold padding s first second found

-- the answer is right
pub answers-right : (session : SessionData) (packets : List Packet) (e : Elimination) (payload : Grid) (answer : Answer)
    → IsSession session → All (HasShape session) packets → IsEliminated session packets e
    → IsReplayed e.plan (payload_grid session.t packets) payload → IsAnswerOf session e payload answer
    → IsRightAnswer session packets answer
answers-right session packets e payload answer is shapes eliminated replayed h =
    right_of_solved session packets e payload
    (record { is_session = is; shapes = shapes; eliminated = eliminated; replayed = replayed }) answer h

row_within : (e : Elimination) (rows r : ℕ) (p : Origin) → p ≡ Row r → IsOriginWithin rows (length e.free) p → r < rows
row_within e rows r p at within = subst (IsOriginWithin rows (length e.free)) at within

-- where no symbol is open the plan solves the packets, with the rows of the symbols
pub plan-solves : (session : SessionData) (packets : List Packet) (e : Elimination) → IsEliminated session packets e
    → NoneIsOpen session e → (rows : List ℕ) → length rows ≡ symbols_of session
    → ((s : ℕ) → s < symbols_of session → origin_of e s ≡ Row (get_or rows s 0))
    → IsSolvingPlan session packets e.plan rows
plan-solves session packets e eliminated none rows size at = record {
  fits = eliminated.shape.fits;
  size = size;
  within = All-from_get_or (λ r. r < length packets) rows 0 (λ s b.
      let within : s < symbols_of session = subst (λ (n : ℕ). s < n) size b in
      row_within e (length packets) (get_or rows s 0) (origin_of e s) (at s within) (eliminated.shape.origins_within s within));
  gives = λ x bytes s within.
      let column : List ℕ = column_at session packets x in
      let after : List ℕ = plan_on_column e.plan column in
      let r : ℕ = get_or rows s 0 in
      let come : ComesFrom session e after x = eliminated.comes column x (record { bytes = bytes; values = refl }) in
      let nothing : free_sum e r come.free ≡ 0 = free_sum-unchanged e r come.free
      (λ i b. ap (change_at e i) (sym (at s within)) ∙ none s i within b) in
      sym (come.each s within ∙ (ap (value_at e after come.free) (at s within)
      ∙ (ap (gf_add (get_or after r 0)) nothing ∙ gf_add-zero (get_or after r 0))));
}
