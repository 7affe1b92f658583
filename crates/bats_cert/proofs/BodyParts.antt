-- What stands behind the packets, part by part.
use Rattle.std.proofs.Common.{◌≡◌, ℕ, ◌+◌, ◌*◌, ◌<◌, ◌≤◌, List, [], ◌++◌, length, refl, sym, ap, subst, ◌∙◌, append-nil, length-append, arith}
use Rattle.std.specs.Int.{w16, w32, to_be_bytes}
use Rattle.std.proofs.lemmas.Nat.{mul-le}
use Rattle.std.proofs.lemmas.Grind.{div_ceil_times}
use Rattle.gf_rows.specs.Matrix.{Grid, IsMatrix}
use Rattle.bats_io.specs.Streams.{InputState}
use Rattle.bats_model.specs.Session.{SessionData, IsSession, symbols_of}
use Rattle.bats_model.specs.Agreement.{IsFile}
use Rattle.bats_model.specs.declared.packet.Packet.{Packet}
use Rattle.bats_cert.specs.Shown.{AreFactors, most_listed}
use Rattle.bats_cert.specs.CertificateFile.{Layout, nothing, field, fields, any, rows_bytes, file_field, row_fields, one_fields, two_fields, zero_fields}
use Rattle.bats_cert.specs.steps.Parts.{GoesOn, HasRead, HasReadAll, Stops, FieldStops}
use Rattle.bats_cert.specs.steps.Taken.{HasSize, HasRows, HasLastRows, HasBytes, HasBody, most_of_body}
use Rattle.bats_cert.specs.declared.certificate.Body.TheVariants.{One, Two, Zero}
use Rattle.bats_cert.specs.declared.beginning.Kind.TheVariants as kinds
use Rattle.bats_cert.specs.declared.cert_end.CertEnd.{CertEnd}
use Rattle.bats_cert.proofs.Layouts.{field-goes, GoesOn-after, rows-go, symbol-goes, column-goes}
use Rattle.bats_cert.proofs.Stopping.{HasRead-after, HasReadAll-after, Stops-after, Stops-wider}
use Rattle.bats_cert.proofs.Sequences.{length-rows_bytes}

-- bytes of a file at most
pub file_length-most : (session : SessionData) → IsSession session → session.file_length ≤ 8388608
file_length-most session is =
    let covered : session.file_length ≤ symbols_of session * session.t = (div_ceil_times session.file_length session.t (omega (arith, is.t_low))).0 in
    let most : symbols_of session * session.t ≤ 4096 * 2048 = mul-le (symbols_of session) session.t 4096 2048 is.symbols is.t_high in
    omega arith

-- factors of the rows of so many symbols at most
pub factors-most : (symbols count most : ℕ) → symbols ≤ most → count ≤ 8193 → symbols * count ≤ most * 8193
factors-most symbols count most h few = mul-le symbols count most 8193 h few

pub file-goes : (session : SessionData) (next : Layout) (file : List ℕ) → length file ≡ session.file_length → GoesOn (file_field session next) file next
file-goes session next file size = field-goes session.file_length any (λ bytes. next) file size refl

pub factors-go : (count : ℕ) (factors : List ℕ) → length factors ≡ count → GoesOn (field count any (λ factors. nothing)) factors nothing
factors-go count factors size = field-goes count any (λ factors. nothing) factors size refl

-- ---- rows, and nothing behind them

rows-end : (rows : Grid) → IsMatrix rows → GoesOn (row_fields (length rows.rows + 0) rows.cols) (rows_bytes rows.rows) nothing
unfolding fields
rows-end rows is = rows-go nothing rows.cols rows.rows 0 is.widths

-- all rows of a matrix
pub all_rows-go : (rows : Grid) (symbols count : ℕ) → HasSize rows symbols count → GoesOn (row_fields symbols count) (rows_bytes rows.rows) nothing
all_rows-go rows symbols count h =
    let all : length rows.rows + 0 ≡ symbols = omega (arith, h.number) in
    subst (λ (n : ℕ). GoesOn (row_fields symbols n) (rows_bytes rows.rows) nothing) h.width
    (subst (λ (n : ℕ). GoesOn (row_fields n rows.cols) (rows_bytes rows.rows) nothing) all (rows-end rows h.matrix))

length-all_rows : (rows : Grid) (symbols count : ℕ) → HasSize rows symbols count → length (rows_bytes rows.rows) ≡ symbols * count
length-all_rows rows symbols count h =
    length-rows_bytes rows.cols rows.rows h.matrix.widths ∙ ap (λ (n : ℕ). n * rows.cols) h.number ∙ ap (λ (n : ℕ). symbols * n) h.width

-- rows of a matrix of this size aren't read
pub Stops-rows : {before after : InputState} {at : ℕ} {end : CertEnd} (rows : Grid) (symbols count : ℕ) → length rows.rows ≡ symbols → rows.cols ≡ count
    → ((next : Layout) → Stops (fields (length rows.rows) rows.cols any next) before after at (length rows.rows * rows.cols) end)
    → Stops (row_fields symbols count) before after at (symbols * count + 1) end
Stops-rows {before} {after} {at} {end} rows symbols count number width stop =
    Stops-wider (symbols * count + 1) (omega arith)
    (subst (λ (n : ℕ). Stops (row_fields symbols n) before after at (symbols * n) end) width
    (subst (λ (n : ℕ). Stops (row_fields n rows.cols) before after at (n * rows.cols) end) number (stop nothing)))

-- something is behind the rows
pub Stops-behind_rows : {before between after : InputState} {end : CertEnd} (rows : Grid) (symbols count at place : ℕ) → HasSize rows symbols count
    → HasRead before between (rows_bytes rows.rows) → place ≡ at + symbols * count → Stops nothing between after place 1 end
    → Stops (row_fields symbols count) before after at (symbols * count + 1) end
Stops-behind_rows rows symbols count at place h p same s =
    let size = length-all_rows rows symbols count h in
    Stops-after (rows_bytes rows.rows) (symbols * count + 1) (all_rows-go rows symbols count h) p (omega (arith, size)) (omega (arith, size, same)) s

pub AreFactors-of : (packets : List Packet) (rows : Grid) (symbols count : ℕ) → HasSize rows symbols count → length packets ≡ count → AreFactors packets symbols rows
AreFactors-of packets rows symbols count h number = record { matrix = h.matrix; width = h.width ∙ sym number; number = h.number }

pub IsFile-of : {before after : InputState} (session : SessionData) (file : List ℕ) → HasBytes before after session.file_length file → IsFile session file
IsFile-of session file h = record { size = h.number; bytes = h.are_bytes }

-- the same, with the numbers told otherwise
pub HasBytes-sized : {before after : InputState} {size : ℕ} {bytes : List ℕ} (other : ℕ) → size ≡ other → HasBytes before after size bytes → HasBytes before after other bytes
HasBytes-sized other same h = record { number = h.number ∙ same; are_bytes = h.are_bytes; part = h.part }

pub FieldStops-sized : {before after : InputState} {at size : ℕ} {end : CertEnd} (other : ℕ) → size ≡ other → FieldStops before after at size end
    → FieldStops before after at other end
FieldStops-sized {before} {after} {at} {size} {end} other same f = subst (λ (n : ℕ). FieldStops before after at n end) same f

pub HasSize-sized : {n w : ℕ} (rows : Grid) (symbols count : ℕ) → n ≡ symbols → w ≡ count → HasSize rows n w → HasSize rows symbols count
HasSize-sized rows symbols count number width h = record { matrix = h.matrix; number = h.number ∙ number; width = h.width ∙ width }

pub HasLastRows-of : {before between after : InputState} {n w : ℕ} (rows : Grid) (symbols count : ℕ) → n ≡ symbols → w ≡ count → HasRows before between n w rows
    → HasReadAll between after [] → HasLastRows before after symbols count rows
HasLastRows-of {before} {between} {after} rows symbols count number width h end = record {
  size = HasSize-sized rows symbols count number width h.size;
  all = subst (λ (bytes : List ℕ). HasReadAll before after bytes) (append-nil (rows_bytes rows.rows)) (HasReadAll-after (rows_bytes rows.rows) [] h.part end);
}

-- ---- one file

pub HasBody-one : {before between after : InputState} {symbols : ℕ} (session : SessionData) (count : ℕ) (file : List ℕ) (rows : Grid)
    → HasBytes before between session.file_length file → symbols ≡ symbols_of session → HasLastRows between after symbols count rows
    → HasBody before after session kinds.One count (One file rows)
HasBody-one session count file rows p same q = record {
  same_kind = refl;
  fit = λ packets number. (IsFile-of session file p, AreFactors-of packets rows (symbols_of session) count (HasSize-sized rows (symbols_of session) count same refl q.size) number);
  all = HasReadAll-after file (rows_bytes rows.rows) p.part q.all;
}

pub Stops-one_rows : {before between after : InputState} {end : CertEnd} (session : SessionData) (count at place symbols : ℕ) (file : List ℕ) → IsSession session
    → count ≤ most_listed → HasBytes before between session.file_length file → place ≡ at + session.file_length → symbols ≡ symbols_of session
    → Stops (row_fields symbols count) between after place (symbols * count + 1) end → Stops (one_fields session count) before after at most_of_body end
Stops-one_rows {before} {between} {after} {end} session count at place symbols file is few h same number s =
    let long = file_length-most session is in
    let most = factors-most (symbols_of session) count 4096 is.symbols few in
    let rows = subst (λ (n : ℕ). Stops (row_fields n count) between after place (n * count + 1) end) number s in
    Stops-after file most_of_body (file-goes session (row_fields (symbols_of session) count) file h.number) h.part (omega (arith, h.number, long, most)) (omega (arith, h.number, same)) rows

-- ---- two files

pub HasBody-two : {before between middle later after : InputState} (session : SessionData) (count s : ℕ) (first second : List ℕ) (rows : Grid) → s < symbols_of session
    → HasRead before between (to_be_bytes w32 s) → HasBytes between middle session.file_length first → HasBytes middle later session.file_length second
    → HasLastRows later after s count rows → HasBody before after session kinds.Two count (Two s first second rows)
HasBody-two session count s first second rows h p q r t = record {
  same_kind = refl;
  fit = λ packets number. (h, IsFile-of session first q, IsFile-of session second r, AreFactors-of packets rows s count t.size number);
  all = HasReadAll-after (to_be_bytes w32 s ++ first ++ second) (rows_bytes rows.rows)
      (HasRead-after (to_be_bytes w32 s ++ first) second (HasRead-after (to_be_bytes w32 s) first p q.part) r.part) t.all;
}

pub to_first : (session : SessionData) (count s : ℕ) → IsSession session → s < symbols_of session
    → GoesOn (two_fields session count) (to_be_bytes w32 s) (file_field session (file_field session (row_fields s count)))
to_first session count s is h = symbol-goes session (λ u. file_field session (file_field session (row_fields u count))) s is h

pub to_second : (session : SessionData) (count s : ℕ) (first : List ℕ) → IsSession session → s < symbols_of session → length first ≡ session.file_length
    → GoesOn (two_fields session count) (to_be_bytes w32 s ++ first) (file_field session (row_fields s count))
to_second session count s first is h size =
    GoesOn-after (to_be_bytes w32 s) first (to_first session count s is h) (file-goes session (file_field session (row_fields s count)) first size)

pub to_rows : (session : SessionData) (count s : ℕ) (first second : List ℕ) → IsSession session → s < symbols_of session → length first ≡ session.file_length
    → length second ≡ session.file_length → GoesOn (two_fields session count) (to_be_bytes w32 s ++ first ++ second) (row_fields s count)
to_rows session count s first second is h size sizes =
    GoesOn-after (to_be_bytes w32 s ++ first) second (to_second session count s first is h size) (file-goes session (row_fields s count) second sizes)

pub Stops-first : {before between after : InputState} {end : CertEnd} (session : SessionData) (count s at place : ℕ) → IsSession session → s < symbols_of session
    → HasRead before between (to_be_bytes w32 s) → place ≡ at + 4 → FieldStops between after place session.file_length end
    → Stops (two_fields session count) before after at most_of_body end
Stops-first session count s at place is h p same f =
    let long = file_length-most session is in
    Stops-after (to_be_bytes w32 s) most_of_body (to_first session count s is h) p (omega (arith, long)) same
    (f.stops any (λ bytes. file_field session (row_fields s count)))

pub Stops-second : {before between middle after : InputState} {end : CertEnd} (session : SessionData) (count s at place : ℕ) (first : List ℕ) → IsSession session → s < symbols_of session
    → HasRead before between (to_be_bytes w32 s) → HasBytes between middle session.file_length first → place ≡ at + 4 + session.file_length
    → FieldStops middle after place session.file_length end → Stops (two_fields session count) before after at most_of_body end
Stops-second session count s at place first is h p q same f =
    let long = file_length-most session is in
    let size = length-append (to_be_bytes w32 s) first in
    Stops-after (to_be_bytes w32 s ++ first) most_of_body (to_second session count s first is h q.number) (HasRead-after (to_be_bytes w32 s) first p q.part)
    (omega (arith, long, size, q.number)) (omega (arith, size, q.number, same)) (f.stops any (λ bytes. row_fields s count))

pub Stops-two_rows : {before between middle later after : InputState} {end : CertEnd} (session : SessionData) (count s at place : ℕ) (first second : List ℕ) → IsSession session
    → count ≤ most_listed → s < symbols_of session
    → HasRead before between (to_be_bytes w32 s) → HasBytes between middle session.file_length first → HasBytes middle later session.file_length second
    → place ≡ at + 4 + 2 * session.file_length
    → Stops (row_fields s count) later after place (s * count + 1) end → Stops (two_fields session count) before after at most_of_body end
Stops-two_rows session count s at place first second is few h p q r same stop =
    let long = file_length-most session is in
    let most = factors-most s count 4095 (omega (arith, h, is.symbols)) few in
    let size = length-append (to_be_bytes w32 s) first in
    let sizes = length-append (to_be_bytes w32 s ++ first) second in
    Stops-after (to_be_bytes w32 s ++ first ++ second) most_of_body (to_rows session count s first second is h q.number r.number)
    (HasRead-after (to_be_bytes w32 s ++ first) second (HasRead-after (to_be_bytes w32 s) first p q.part) r.part)
    (omega (arith, long, size, sizes, q.number, r.number, most)) (omega (arith, size, sizes, q.number, r.number, same)) stop

-- ---- no file

pub HasBody-zero : {before between middle after : InputState} (session : SessionData) (count column : ℕ) (factors : List ℕ) → column < session.t
    → HasRead before between (to_be_bytes w16 column) → HasBytes between middle count factors → HasReadAll middle after []
    → HasBody before after session kinds.Zero count (Zero column factors)
HasBody-zero {before} {between} {middle} {after} session count column factors h p q end = record {
  same_kind = refl;
  fit = λ packets number. (h, q.number ∙ sym number, q.are_bytes);
  all = subst (λ (bytes : List ℕ). HasReadAll before after bytes) (append-nil (to_be_bytes w16 column ++ factors))
      (HasReadAll-after (to_be_bytes w16 column ++ factors) [] (HasRead-after (to_be_bytes w16 column) factors p q.part) end);
}

pub to_factors : (session : SessionData) (count column : ℕ) → IsSession session → column < session.t
    → GoesOn (zero_fields session count) (to_be_bytes w16 column) (field count any (λ factors. nothing))
to_factors session count column is h = column-goes session (field count any (λ factors. nothing)) column is h

pub to_zero_end : (session : SessionData) (count column : ℕ) (factors : List ℕ) → IsSession session → column < session.t → length factors ≡ count
    → GoesOn (zero_fields session count) (to_be_bytes w16 column ++ factors) nothing
to_zero_end session count column factors is h size =
    GoesOn-after (to_be_bytes w16 column) factors (to_factors session count column is h) (factors-go count factors size)

pub Stops-factors : {before between after : InputState} {end : CertEnd} (session : SessionData) (count column at place : ℕ) → IsSession session → count ≤ most_listed
    → column < session.t → HasRead before between (to_be_bytes w16 column) → place ≡ at + 2 → FieldStops between after place count end
    → Stops (zero_fields session count) before after at most_of_body end
Stops-factors session count column at place is few h p same f =
    Stops-after (to_be_bytes w16 column) most_of_body (to_factors session count column is h) p (omega (arith, few)) same (f.stops any (λ factors. nothing))

pub Stops-zero_end : {before between middle after : InputState} {end : CertEnd} (session : SessionData) (count column at place : ℕ) (factors : List ℕ) → IsSession session
    → count ≤ most_listed → column < session.t → HasRead before between (to_be_bytes w16 column) → HasBytes between middle count factors
    → place ≡ at + 2 + count → Stops nothing middle after place 1 end → Stops (zero_fields session count) before after at most_of_body end
Stops-zero_end session count column at place factors is few h p q same s =
    let size = length-append (to_be_bytes w16 column) factors in
    Stops-after (to_be_bytes w16 column ++ factors) most_of_body (to_zero_end session count column factors is h q.number)
    (HasRead-after (to_be_bytes w16 column) factors p q.part) (omega (arith, few, size, q.number)) (omega (arith, size, q.number, same)) s
