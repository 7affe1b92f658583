-- What a relay sends place by place is what is sent of the numbers of the held batches.
use Rattle.std.proofs.Common.{ℕ, ◌≡◌, ◌+◌, List, [], ◌∷◌, ◌++◌, length, map, flat_map, refl, sym, ap, ◌∙◌, arith}
use Rattle.std.specs.Prelude.{sum_by}
use Rattle.std.specs.List.{range_with_len}
use Rattle.std.proofs.lemmas.List.{length-append}
use Rattle.std.proofs.lemmas.List.Concat.{flat_map-append}
use Rattle.std.proofs.lemmas.List.Elements.{All-head, All-tail}
use Rattle.std.proofs.lemmas.List.Folds.{flat_map-map}
use Rattle.std.proofs.lemmas.List.FromFn.{length-map-range_with_len}
use Rattle.std.proofs.lemmas.List.Sums.{sum_by-cons}
use Rattle.bats_model.specs.Session.{SessionData}
use Rattle.bats_model.specs.Kept.{kept_of}
use Rattle.bats_model.specs.Relay.{relay_output, relay_outputs}
use Rattle.bats_model.specs.declared.packet.Packet.{Packet}
use Rattle.bats_batch.specs.Held.{HeldData, HeldBatch, StandsFor, batch_at}
use Rattle.bats_batch.proofs.HeldNumbers.{numbers_of, by_place, KeepRight, keep_right}
use Rattle.tool_stream.specs.Relay.{batch_outputs, sent_packets, sent_record}
use Rattle.tool_stream.specs.steps.Sending.{batch_records, held_records, output_record, place_records, sent_count}

-- the records of a held batch, and how many they are
abbrev records_in : SessionData → List ℕ → (ℕ → ℕ) → HeldBatch → List ℕ
records_in session seed answers batch = batch_records session seed batch.number batch.kept (answers (length batch.kept))

abbrev count_in : (ℕ → ℕ) → HeldBatch → ℕ
count_in answers batch = answers (length batch.kept)

records_by_place : (session : SessionData) (seed : List ℕ) (answers : ℕ → ℕ) (batches : List HeldBatch)
    → held_records session seed answers batches ≡ flat_map (records_in session seed answers) batches
unfolding place_records
records_by_place session seed answers batches =
    sym (flat_map-map (records_in session seed answers) (batch_at batches) (range_with_len 0 (length batches)))
    ∙ ap (flat_map (records_in session seed answers)) (sym (by_place batches))

sum_by-map : {X : Type 0} (count : X → ℕ) (f : ℕ → X) (xs : List ℕ) → sum_by count (map f xs) ≡ sum_by (λ x. count (f x)) xs
sum_by-map count f [] = refl
sum_by-map count f (x ∷ xs) =
    sum_by-cons count (f x) (map f xs) ∙ ap (λ (n : ℕ). count (f x) + n) (sum_by-map count f xs) ∙ sym (sum_by-cons (λ y. count (f y)) x xs)

count_by_place : (answers : ℕ → ℕ) (batches : List HeldBatch) → sent_count answers batches ≡ sum_by (count_in answers) batches
count_by_place answers batches =
    sym (sum_by-map (count_in answers) (batch_at batches) (range_with_len 0 (length batches)))
    ∙ ap (λ (xs : List HeldBatch). sum_by (count_in answers) xs) (sym (by_place batches))

-- the records of a batch are those of its outputs
records_of_outputs : (session : SessionData) (seed : List ℕ) (number count : ℕ) (kept : List Packet)
    → batch_records session seed number kept count ≡ flat_map sent_record (relay_outputs session seed number 0 count kept)
unfolding output_record
records_of_outputs session seed number count kept =
    sym (flat_map-map sent_record (λ output. relay_output session seed number output kept) (range_with_len 0 count))

outputs_of : (session : SessionData) (seed : List ℕ) (answers : ℕ → ℕ) (packets : List Packet) (batch : HeldBatch)
    → kept_of batch.number packets ≡ batch.kept
    → batch_outputs session seed answers packets batch.number ≡ relay_outputs session seed batch.number 0 (count_in answers batch) batch.kept
outputs_of session seed answers packets batch e =
    ap (λ (kept : List Packet). relay_outputs session seed batch.number 0 (answers (length kept)) kept) e

records_sent : (session : SessionData) (seed : List ℕ) (answers : ℕ → ℕ) (packets : List Packet) (batches : List HeldBatch) → KeepRight packets batches
    → flat_map (records_in session seed answers) batches ≡ flat_map sent_record (sent_packets session seed answers packets (numbers_of batches))
unfolding sent_packets
records_sent session seed answers packets [] right = refl
records_sent session seed answers packets (batch ∷ batches) right =
    let Right : HeldBatch → Type 0 = λ batch. kept_of batch.number packets ≡ batch.kept in
    let rest : List Packet = sent_packets session seed answers packets (numbers_of batches) in
    let own : records_in session seed answers batch ≡ flat_map sent_record (batch_outputs session seed answers packets batch.number) =
    records_of_outputs session seed batch.number (count_in answers batch) batch.kept
    ∙ ap (flat_map sent_record) (sym (outputs_of session seed answers packets batch (All-head Right batch batches right))) in
    ap (λ (xs : List ℕ). xs ++ flat_map (records_in session seed answers) batches) own
    ∙ ap (λ (xs : List ℕ). flat_map sent_record (batch_outputs session seed answers packets batch.number) ++ xs)
    (records_sent session seed answers packets batches (All-tail Right batch batches right))
    ∙ sym (flat_map-append sent_record (batch_outputs session seed answers packets batch.number) rest)

counts_sent : (session : SessionData) (seed : List ℕ) (answers : ℕ → ℕ) (packets : List Packet) (batches : List HeldBatch) → KeepRight packets batches
    → sum_by (count_in answers) batches ≡ length (sent_packets session seed answers packets (numbers_of batches))
unfolding sent_packets
counts_sent session seed answers packets [] right = refl
counts_sent session seed answers packets (batch ∷ batches) right =
    let Right : HeldBatch → Type 0 = λ batch. kept_of batch.number packets ≡ batch.kept in
    let rest : List Packet = sent_packets session seed answers packets (numbers_of batches) in
    let own : length (batch_outputs session seed answers packets batch.number) ≡ count_in answers batch =
    ap (λ (ps : List Packet). length ps) (outputs_of session seed answers packets batch (All-head Right batch batches right))
    ∙ length-map-range_with_len (λ output. relay_output session seed batch.number output batch.kept) 0 (count_in answers batch) in
    omega (
      arith,
      own,
      sum_by-cons (count_in answers) batch batches,
      counts_sent session seed answers packets batches (All-tail Right batch batches right),
      length-append (batch_outputs session seed answers packets batch.number) rest,
    )

-- the records that are sent place by place are those of what is sent of these numbers
pub held_records-sent : (session : SessionData) (seed : List ℕ) (answers : ℕ → ℕ) (packets : List Packet) (held : HeldData) → StandsFor packets held
    → held_records session seed answers held.batches
    ≡ flat_map sent_record (sent_packets session seed answers packets (numbers_of held.batches))
held_records-sent session seed answers packets held stands =
    records_by_place session seed answers held.batches
    ∙ records_sent session seed answers packets held.batches (keep_right packets held stands)

pub sent_count-sent : (session : SessionData) (seed : List ℕ) (answers : ℕ → ℕ) (packets : List Packet) (held : HeldData) → StandsFor packets held
    → sent_count answers held.batches ≡ length (sent_packets session seed answers packets (numbers_of held.batches))
sent_count-sent session seed answers packets held stands =
    count_by_place answers held.batches
    ∙ counts_sent session seed answers packets held.batches (keep_right packets held stands)
