-- What a relay sends of what it holds, batch by batch.
use Rattle.std.proofs.Common.{ℕ, ◌≡◌, ◌≢◌, ◌<◌, ◌+◌, List, length, flat_map, Option, None, Some, Result, sym, ap, ◌∙◌, subst, arith}
use Rattle.std.specs.Prelude.{IfSome, sum_by}
use Rattle.std.specs.List.{range_with_len}
use Rattle.std.specs.Result.{IsErrAnd, result_err}
use Rattle.std.proofs.lemmas.List.Sums.{sum_by_push}
use Rattle.bats_io.specs.Streams.{OutputState}
use Rattle.bats_model.specs.Session.{SessionData}
use Rattle.bats_model.specs.Relay.{relay_output}
use Rattle.bats_model.specs.declared.packet.Packet.{Packet}
use Rattle.bats_batch.specs.Basis.{BasisData}
use Rattle.bats_batch.specs.Held.{HeldData, HeldBatch, HaveRisingNumbers, basis_with, batch_at, kept_at}
use Rattle.bats_relay.specs.Mixer.{MixerData, HasSentOne, sent_of}
use Rattle.tool_run.specs.declared.stop.Stop.{Stop}
use Rattle.tool_run.specs.Writes.{Writes}
use Rattle.tool_run.proofs.Writing.{Writes-same}
use Rattle.tool_run.proofs.Loops.{Writes-more, Writes-failed}
use Rattle.tool_run.proofs.Ranges.{range-append}
use Rattle.tool_stream.specs.Relay.{sent_record}
use Rattle.tool_stream.specs.steps.Sending.{HasSentOf, HasSentNoneFrom, output_record, batch_records, place_count, place_records, held_records, sent_before}

-- the record of an output that was made
pub output_record-made : (session session' : SessionData) (seed : List ℕ) (number output : ℕ) (kept : List Packet) (made : Option Packet) (packet : Packet)
    → session' ≡ session → made ≡ Some packet → IfSome made (λ p. p ≡ relay_output session' seed number output kept)
    → output_record session seed number kept output ≡ sent_record packet
unfolding output_record
output_record-made session session' seed number output kept made packet same is h =
    let made_so : packet ≡ relay_output session' seed number output kept =
    subst (λ (m : Option Packet). IfSome m (λ p. p ≡ relay_output session' seed number output kept)) is h in
    ap sent_record (sym (made_so ∙ ap (λ (s : SessionData). relay_output s seed number output kept) same))

-- the batches from the next place on, once the one at this place was sent
pub HasSentNoneFrom-next : (before after : MixerData) (place count : ℕ) → HaveRisingNumbers before.held.batches
    → place < length before.held.batches → HasSentNoneFrom before place
    → HasSentOf (batch_at before.held.batches place).number count before after → HasSentNoneFrom after (place + 1)
HasSentNoneFrom-next before after place count rising within none sent other from inside =
    let batches : List HeldBatch = before.held.batches in
    let inside' : other < length batches = subst (λ (held : HeldData). other < length held.batches) sent.held inside in
    let above : (batch_at batches place).number < (batch_at batches other).number = rising place other (omega arith) inside' in
    let apart : (batch_at batches other).number ≢ (batch_at batches place).number = λ e. omega (arith, above, e) in
    subst (λ (held : HeldData). sent_of after (batch_at held.batches other).number ≡ 0) (sym sent.held)
    (sent.others (batch_at batches other).number apart ∙ none other (omega arith) inside')

-- ---- the outputs of one batch

-- the next output of a batch is made of what was held at the start
output_record-same : (session : SessionData) (number output : ℕ) (start now : MixerData) → now.held ≡ start.held → now.seed ≡ start.seed
    → output_record session start.seed number (kept_at start.held.batches number) (0 + output)
    ≡ output_record session now.seed number (kept_at now.held.batches number) output
output_record-same session number output start now held seed =
    let first : 0 + output ≡ output = omega arith in
    ap (output_record session start.seed number (kept_at start.held.batches number)) first
    ∙ ap (λ (s : List ℕ). output_record session s number (kept_at start.held.batches number) output) (sym seed)
    ∙ ap (λ (h : HeldData). output_record session now.seed number (kept_at h.batches number) output) (sym held)

-- one more output was written
pub batch_records-more : {a b c : OutputState} (session : SessionData) (number : ℕ) (start now after : MixerData) → now.held ≡ start.held
    → now.seed ≡ start.seed → HasSentOne number now after
    → Writes a b (batch_records session start.seed number (kept_at start.held.batches number) (sent_of now number)) None
    → Writes b c (output_record session now.seed number (kept_at now.held.batches number) (sent_of now number)) None
    → Writes a c (batch_records session start.seed number (kept_at start.held.batches number) (sent_of after number)) None
batch_records-more session number start now after held seed sent w v =
    let piece = output_record session start.seed number (kept_at start.held.batches number) in
    Writes-same (ap (λ (n : ℕ). flat_map piece (range_with_len 0 n)) sent.own)
    (Writes-more piece 0 (sent_of now number) w (Writes-same (output_record-same session number (sent_of now number) start now held seed) v))

-- the next output could not be written
pub batch_records-failed : {T : Type 0} {a b c : OutputState} {e : Stop} (session : SessionData) (number count : ℕ) (start now : MixerData)
    (r : Result T Stop) → sent_of now number < count → IsErrAnd r (λ y. y ≡ e) → now.held ≡ start.held → now.seed ≡ start.seed
    → Writes a b (batch_records session start.seed number (kept_at start.held.batches number) (sent_of now number)) None
    → Writes b c (output_record session now.seed number (kept_at now.held.batches number) (sent_of now number)) (Some e)
    → Writes a c (batch_records session start.seed number (kept_at start.held.batches number) count) (result_err r)
batch_records-failed session number count start now r within is held seed w v =
    let piece = output_record session start.seed number (kept_at start.held.batches number) in
    Writes-failed piece 0 count (sent_of now number) r within is w
    (Writes-same (output_record-same session number (sent_of now number) start now held seed) v)

-- ---- the batch at a place

-- its records, as they are sent
pub place_records-is : (session : SessionData) (seed : List ℕ) (answers : ℕ → ℕ) (held held' : HeldData) (place number rank count : ℕ) (basis : BasisData)
    → held' ≡ held → number ≡ (batch_at held'.batches place).number → basis ≡ basis_with held'.session (batch_at held'.batches place).kept
    → kept_at held'.batches (batch_at held'.batches place).number ≡ basis.kept → rank ≡ length basis.kept → count ≡ answers rank
    → place_records session seed answers held.batches place ≡ batch_records session seed number (kept_at held.batches number) count
unfolding place_records
place_records-is session seed answers held held' place number rank count basis same number_is basis_is kept_is rank_is count_is =
    let batch : HeldBatch = batch_at held'.batches place in
    let kept : basis.kept ≡ batch.kept = ap (λ (b : BasisData). b.kept) basis_is in
    let here : kept_at held'.batches number ≡ batch.kept = ap (kept_at held'.batches) number_is ∙ kept_is ∙ kept in
    let many : count ≡ answers (length batch.kept) =
    count_is ∙ ap answers (rank_is ∙ ap (λ (ps : List Packet). length ps) kept) in
    subst (λ (h : HeldData). place_records session seed answers h.batches place ≡ batch_records session seed number (kept_at h.batches number) count) same
    (ap (λ (n : ℕ). batch_records session seed n batch.kept (answers (length batch.kept))) (sym number_is)
    ∙ ap (λ (ps : List Packet). batch_records session seed number ps (answers (length batch.kept))) (sym here)
    ∙ ap (λ (n : ℕ). batch_records session seed number (kept_at held'.batches number) n) (sym many))

-- ---- the batches at all places

-- the batch at the next place is that of the start
place_records-same : (session : SessionData) (answers : ℕ → ℕ) (place : ℕ) (start now : MixerData) → now.held ≡ start.held → now.seed ≡ start.seed
    → place_records session start.seed answers start.held.batches (0 + place) ≡ place_records session now.seed answers now.held.batches place
place_records-same session answers place start now held seed =
    let first : 0 + place ≡ place = omega arith in
    ap (place_records session start.seed answers start.held.batches) first
    ∙ ap (λ (s : List ℕ). place_records session s answers start.held.batches place) (sym seed)
    ∙ ap (λ (h : HeldData). place_records session now.seed answers h.batches place) (sym held)

-- the batches before a place
abbrev pub records_before : SessionData → List ℕ → (ℕ → ℕ) → List HeldBatch → ℕ → List ℕ
records_before session seed answers batches place = flat_map (place_records session seed answers batches) (range_with_len 0 place)

-- one more batch was sent
pub records_before-more : {a b c : OutputState} (session : SessionData) (answers : ℕ → ℕ) (place : ℕ) (start now : MixerData) → now.held ≡ start.held
    → now.seed ≡ start.seed → Writes a b (records_before session start.seed answers start.held.batches place) None
    → Writes b c (place_records session now.seed answers now.held.batches place) None
    → Writes a c (records_before session start.seed answers start.held.batches (place + 1)) None
records_before-more session answers place start now held seed w v =
    Writes-more (place_records session start.seed answers start.held.batches) 0 place w
    (Writes-same (place_records-same session answers place start now held seed) v)

-- the next batch could not be sent
pub records_before-failed : {T : Type 0} {a b c : OutputState} {e : Stop} (session : SessionData) (answers : ℕ → ℕ) (place : ℕ) (start now : MixerData)
    (r : Result T Stop) → place < length start.held.batches → IsErrAnd r (λ y. y ≡ e) → now.held ≡ start.held → now.seed ≡ start.seed
    → Writes a b (records_before session start.seed answers start.held.batches place) None
    → Writes b c (place_records session now.seed answers now.held.batches place) (Some e)
    → Writes a c (held_records session start.seed answers start.held.batches) (result_err r)
records_before-failed session answers place start now r within is held seed w v =
    Writes-failed (place_records session start.seed answers start.held.batches) 0 (length start.held.batches) place r within is w
    (Writes-same (place_records-same session answers place start now held seed) v)

-- the outputs before a place, and those of the batch there
pub sent_before-more : (answers : ℕ → ℕ) (batches : List HeldBatch) (place : ℕ)
    → sent_before answers batches (place + 1) ≡ sent_before answers batches place + place_count answers batches place
sent_before-more answers batches place =
    let count : ℕ → ℕ = place_count answers batches in
    ap (λ (numbers : List ℕ). sum_by count numbers) (range-append 0 place 1) ∙ sum_by_push count (range_with_len 0 place) (0 + place)
    ∙ ap (λ (n : ℕ). sum_by count (range_with_len 0 place) + count n) (omega arith)
