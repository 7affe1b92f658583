-- From the kept packets to all received ones: the right answer, and the rows of the symbols.
use Rattle.std.proofs.Common.{ℕ, zero, suc, ◌≡◌, ◌<◌, ◌≤◌, ◌+◌, ◌*◌, ◌∙◌, ◌↔◌, cond, sym, ap, subst, refl, Bool, true, false, List, All, [], ◌∷◌, ◌++◌, length, get_or, take, arith, eq-eqb, append-nil}
use Rattle.std.proofs.lemmas.Bool.{false≢true}
use Rattle.std.proofs.lemmas.List.{take_more, take_at, drop_at, length-map}
use Rattle.std.proofs.lemmas.List.Elements.{All-nil, All-cons, All-head, All-tail, All-append, All-take, All-drop, All-from_get_or, All-weaker}
use Rattle.std.proofs.lemmas.Grind.{flat_map-append}
use Rattle.gf_rows.specs.Matrix.{Grid}
use Rattle.gf_rows.specs.declared.operation.Op.{Op}
use Rattle.bats_stripes.specs.Columns.{IsReplayed}
use Rattle.bats_model.specs.Session.{SessionData, symbols_of}
use Rattle.bats_model.specs.Agreement.{Agrees, AgreesWithAll}
use Rattle.bats_model.specs.Peeling.{IsInactiveList, largest_degree}
use Rattle.bats_model.specs.RightAnswer.{IsRightAnswer, NoFileAgrees}
use Rattle.bats_model.specs.PacketFile.{HasShape}
use Rattle.bats_model.specs.Kept.{HasContradiction}
use Rattle.bats_model.specs.declared.packet.Packet.{Packet}
use Rattle.bats_model.specs.declared.answer.Answer.{Answer}
use Rattle.bats_model.specs.declared.answer.Answer.TheVariants.{File, Inconsistent, NeedMore}
use Rattle.bats_model.proofs.KeptSpans.{All-kept_of}
use Rattle.bats_batch.specs.Held.{HeldBatch, HeldData, batch_at, no_batch, row_count, kept_packets}
use Rattle.bats_batch.specs.Held.{StandsFor as HoldsFor}
use Rattle.bats_batch.proofs.HeldAgreement.{held-agreement}
use Rattle.bats_batch.proofs.HeldBatches.{kept_at-stands}
use Rattle.bats_peel.proofs.InactiveLists.{no_other_list}
use Rattle.bats_decode.specs.Decoder.{DecoderData, StandsFor}
use Rattle.bats_decode.specs.SolvingPlan.{PlanFollows}
use Rattle.bats_decode.specs.declared.elimination.Origin.{Origin}
use Rattle.bats_decode.specs.declared.elimination.Origin.TheVariants.{Row, Free}
use Rattle.bats_decode.specs.declared.elimination.Elimination.{Elimination}
use Rattle.bats_decode.specs.steps.Eliminated.{IsEliminated, IsOriginWithin, origin_of}
use Rattle.bats_decode.specs.steps.Replayed.{payload_grid}
use Rattle.bats_decode.specs.steps.Answered.{IsAnswerOf, NoneIsOpen, change_at}
use Rattle.bats_decode.specs.steps.SymbolRows.{row_at, symbol_rows, rows_with}
use Rattle.bats_decode.proofs.AnswersRight.{plan-solves}

-- ---- all kept packets

-- what holds of the kept packets of each batch holds of all, and the other way round
All-kept_packets : (P : Packet → Type 0) (batches : List HeldBatch) → All (λ batch. All P batch.kept) batches → All P (kept_packets batches)
unfolding kept_packets
All-kept_packets P [] each = All-nil P
All-kept_packets P (batch ∷ batches) each =
    let OfKept : HeldBatch → Type 0 = λ b. All P b.kept in
    All-append P batch.kept (kept_packets batches) (All-head OfKept batch batches each)
    (All-kept_packets P batches (All-tail OfKept batch batches each))

All-each_kept : (P : Packet → Type 0) (batches : List HeldBatch) → All P (kept_packets batches) → All (λ batch. All P batch.kept) batches
unfolding kept_packets
All-each_kept P [] all = All-nil (λ (b : HeldBatch). All P b.kept)
All-each_kept P (batch ∷ batches) all =
    let rest : List Packet = kept_packets batches in
    let size : ℕ = length batch.kept in
    All-cons (λ (b : HeldBatch). All P b.kept) batch batches
    (subst (All P) (take_at batch.kept rest size refl) (All-take P size (batch.kept ++ rest) all))
    (All-each_kept P batches (subst (All P) (drop_at batch.kept rest size refl) (All-drop P size (batch.kept ++ rest) all)))

-- kept packets are of the session's shape
pub shapes-kept : (packets : List Packet) (held : HeldData) → HoldsFor packets held → All (HasShape held.session) (kept_packets held.batches)
shapes-kept packets held stands =
    let Shaped : Packet → Type 0 = HasShape held.session in
    All-kept_packets Shaped held.batches
    (All-from_get_or (λ (batch : HeldBatch). All Shaped batch.kept) held.batches no_batch (λ k within.
    let number : ℕ = (batch_at held.batches k).number in
    subst (All Shaped) (sym (stands.kept number) ∙ kept_at-stands held.batches stands.rising number k (record { within = within; same = refl }))
    (All-kept_of Shaped number packets stands.shapes)))

-- where none of the packets contradicts, the same files agree with them and with the kept ones
pub same-files_agree : (packets : List Packet) (held : HeldData) (file : List ℕ) → HoldsFor packets held → ¬ HasContradiction packets
    → AgreesWithAll held.session packets file ↔ AgreesWithAll held.session (kept_packets held.batches) file
same-files_agree packets held file stands none =
    let law = held-agreement packets held file stands in
    let Agreeing : Packet → Type 0 = Agrees held.session file in
    let OfKept : HeldBatch → Type 0 = λ batch. AgreesWithAll held.session batch.kept file in
    let AllOfKept : HeldBatch → Type 0 = λ batch. All Agreeing batch.kept in (
      λ agrees.
          let each : All AllOfKept held.batches = All-weaker OfKept AllOfKept (λ batch of. of.each) held.batches (law.0 agrees).1 in
          record { is_file = agrees.is_file; each = All-kept_packets Agreeing held.batches each },
      λ agrees.
          let each : All OfKept held.batches =
          All-weaker AllOfKept OfKept (λ batch all. record { is_file = agrees.is_file; each = all }) held.batches
          (All-each_kept Agreeing held.batches agrees.each) in
          law.1 (agrees.is_file, each, none),
    )

-- the right answer depends on the files that agree alone
right-same : (session : SessionData) (packets others : List Packet) (answer : Answer)
    → ((file : List ℕ) → AgreesWithAll session packets file ↔ AgreesWithAll session others file)
    → IsRightAnswer session others answer → IsRightAnswer session packets answer
right-same session packets others (File file) same right = record {
  agrees = (same file).1 right.agrees;
  only = λ other agrees. right.only other ((same other).0 agrees);
}
right-same session packets others Inconsistent same right = record { none = λ file agrees. right.none file ((same file).0 agrees) }
right-same session packets others (NeedMore s first second) same right = record {
  first_agrees = (same first).1 right.first_agrees;
  second_agrees = (same second).1 right.second_agrees;
  differ = right.differ;
  same_below = λ one other a o. right.same_below one other ((same one).0 a) ((same other).0 o);
}

-- ---- the answer

pub right-contradicted : (packets : List Packet) (decoder : DecoderData) → decoder.contradicted ≡ true → StandsFor packets decoder
    → NoFileAgrees decoder.held.session packets
right-contradicted packets decoder told stands = record {
  none = λ file agrees. ((held-agreement packets decoder.held file stands.holds).0 agrees).2 (stands.contradicted.0 told);
}

pub right-of_kept : (packets : List Packet) (decoder : DecoderData) (answer : Answer) → decoder.contradicted ≡ false → StandsFor packets decoder
    → IsRightAnswer decoder.held.session (kept_packets decoder.held.batches) answer → IsRightAnswer decoder.held.session packets answer
right-of_kept packets decoder answer told stands right =
    let none : ¬ HasContradiction packets = λ has. false≢true (sym told ∙ stands.contradicted.1 has) in
    right-same decoder.held.session packets (kept_packets decoder.held.batches) answer
    (λ file. same-files_agree packets decoder.held file stands.holds none) right

-- the payload rows after the plan
pub replayed-payloads : (t : ℕ) (packets : List Packet) (plan : List Op) (before after : Grid) → before ≡ payload_grid t packets
    → IsReplayed plan before after → IsReplayed plan (payload_grid t packets) after
replayed-payloads t packets plan before after is replayed = subst (λ (m : Grid). IsReplayed plan m after) is replayed

pub length-replayed : (t : ℕ) (packets : List Packet) (plan : List Op) (after : Grid) → IsReplayed plan (payload_grid t packets) after
    → length after.rows ≡ length packets
length-replayed t packets plan after replayed = replayed.count ∙ length-map packets (λ (packet : Packet). packet.payload)

-- ---- the rows of the symbols

pub symbol_rows-none : (origins : List Origin) → symbol_rows (take 0 origins) ≡ []
unfolding symbol_rows
symbol_rows-none origins = refl

pub symbol_rows-more : (origins : List Origin) (i : ℕ) (d origin : Origin) (before after : List ℕ) → i < length origins
    → get_or origins i d ≡ origin → before ≡ symbol_rows (take i origins) → after ≡ before ++ row_at origin
    → after ≡ symbol_rows (take (i + 1) origins)
unfolding symbol_rows
symbol_rows-more origins i d origin before after within own so_far more =
    let next : take (i + 1) origins ≡ take i origins ++ origin ∷ [] =
    take_more origins i d within ∙ ap (λ (p : Origin). take i origins ++ p ∷ []) own in
    more ∙ ap (λ (rs : List ℕ). rs ++ row_at origin) so_far
    ∙ ap (λ (rs : List ℕ). symbol_rows (take i origins) ++ rs) (sym (append-nil (row_at origin)))
    ∙ sym (ap symbol_rows next ∙ flat_map-append row_at (take i origins) (origin ∷ []))

-- the origin is a row
abbrev IsRow : Origin → Type 0
IsRow (Row r) = Unit {0}
IsRow (Free i) = ⊥

-- these are the rows of the origins
abbrev AreRowsOf : List Origin → Origin → List ℕ → Type 0
AreRowsOf origins d rows = (s : ℕ) → s < length origins → get_or origins s d ≡ Row (get_or rows s 0)

AreRowsOf-more : (r : ℕ) (origins : List Origin) (d : Origin) (rows : List ℕ) → AreRowsOf origins d rows
    → AreRowsOf (Row r ∷ origins) d (r ∷ rows)
AreRowsOf-more r origins d rows are zero within = refl
AreRowsOf-more r origins d rows are (suc s) within = are s (omega (arith, within))

rows-of_origins : (origins : List Origin) (d : Origin) → ((s : ℕ) → s < length origins → IsRow (get_or origins s d))
    → (length (symbol_rows origins) ≡ length origins) × AreRowsOf origins d (symbol_rows origins)
unfolding symbol_rows
rows-of_origins [] d each = (refl, λ s within. absurd (omega (arith, within)))
rows-of_origins (Row r ∷ origins) d each =
    let rest = rows-of_origins origins d (λ s within. each (suc s) (omega (arith, within))) in
    (omega (arith, rest.0), AreRowsOf-more r origins d (symbol_rows origins) rest.1)
rows-of_origins (Free i ∷ origins) d each = absurd (each 0 (omega arith))

-- where no symbol changes with a free one, each has a row
row-none_open : (session : SessionData) (packets : List Packet) (e : Elimination) → IsEliminated session packets e → NoneIsOpen session e
    → (s : ℕ) → s < symbols_of session → (origin : Origin) → origin_of e s ≡ origin → IsRow origin
row-none_open session packets e eliminated none s within (Row r) at = tt
row-none_open session packets e eliminated none s within (Free i) at =
    let below : i < length e.free =
    subst (IsOriginWithin (length packets) (length e.free)) at (eliminated.shape.origins_within s within) in
    let nothing : change_at e i (Free i) ≡ 0 = subst (λ (p : Origin). change_at e i p ≡ 0) at (none s i within below) in
    let one : change_at e i (Free i) ≡ 1 = ap (λ (b : Bool). cond b 1 0) (eq-eqb i i refl) in
    omega (arith, nothing, one)

pub plan-follows : (session : SessionData) (packets : List Packet) (e : Elimination) (payload : Grid) (answer : Answer) (rows : List ℕ)
    → IsEliminated session packets e → IsAnswerOf session e payload answer → rows ≡ rows_with e.origins.items answer
    → PlanFollows session packets e.plan rows answer
plan-follows session packets e payload (File file) rows eliminated (hold, padding, found, none) is =
    let origins : List Origin = e.origins.items in
    let size : length origins ≡ symbols_of session = eliminated.shape.origins in
    let both = rows-of_origins origins (Row 0)
    (λ s within. row-none_open session packets e eliminated none s (subst (λ (n : ℕ). s < n) size within) (origin_of e s) refl) in
    plan-solves session packets e eliminated none rows (ap (λ (rs : List ℕ). length rs) is ∙ both.0 ∙ size)
    (λ s within. both.1 s (subst (λ (n : ℕ). s < n) (sym size) within) ∙ ap (λ (rs : List ℕ). Row (get_or rs s 0)) (sym is))
plan-follows session packets e payload Inconsistent rows eliminated right is = is
plan-follows session packets e payload (NeedMore s first second) rows eliminated right is = is

-- ---- the operations on payload rows

rise-within : (before after n most : ℕ) → after ≡ before + n → n ≤ most → after ≤ before + most
rise-within before after n most counted within = omega (arith, counted, within)

-- Once the plan was run, the counter is within the bound: the columns of the eliminated matrix are as many as the entries
-- of an inactive list, and there is one such list.
pub steps-bounded : (session : SessionData) (held : HeldData) (decoder : DecoderData) (plan : List Op) (cols before after : ℕ)
    → held.session ≡ session → held ≡ decoder.held
    → ((packets : List Packet) → HoldsFor packets held → (list : List ℕ) × (IsInactiveList session packets list × (cols ≡ length list)))
    → ((packets : List Packet) → HoldsFor packets held → length plan ≤ row_count held.batches * (largest_degree session packets + cols))
    → after ≡ before + length plan
    → (packets : List Packet) (list : List ℕ) → StandsFor packets decoder → IsInactiveList decoder.held.session packets list
    → after ≤ before + row_count decoder.held.batches * (largest_degree decoder.held.session packets + length list)
steps-bounded session held decoder plan cols before after same is inactive bound counted packets list stands inactive_list =
    let own : decoder.held.session ≡ session = ap (λ (h : HeldData). h.session) (sym is) ∙ same in
    let holds : HoldsFor packets held = subst (HoldsFor packets) (sym is) stands.holds in
    let found = inactive packets holds in
    let one : found.0 ≡ list =
    no_other_list session packets found.0 list found.1.0 (subst (λ (s : SessionData). IsInactiveList s packets list) own inactive_list) in
    let size : cols ≡ length list = found.1.1 ∙ ap (λ (l : List ℕ). length l) one in
    let Within : HeldData → SessionData → ℕ → Type 0 =
    λ h s n. length plan ≤ row_count h.batches * (largest_degree s packets + n) in
    let in_columns : Within held session cols = bound packets holds in
    let in_list : Within held session (length list) = subst (Within held session) size in_columns in
    let of_decoder : Within decoder.held session (length list) = subst (λ (h : HeldData). Within h session (length list)) is in_list in
    let within : Within decoder.held decoder.held.session (length list) =
    subst (λ (s : SessionData). Within decoder.held s (length list)) (sym own) of_decoder in
    rise-within before after (length plan)
    (row_count decoder.held.batches * (largest_degree decoder.held.session packets + length list)) counted within
