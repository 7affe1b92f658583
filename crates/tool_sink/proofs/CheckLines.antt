-- The lines of held batches, made place by place, are those of their numbers.
use Rattle.std.proofs.Common.{ℕ, ◌≡◌, ◌+◌, List, [], ◌∷◌, ◌++◌, length, flat_map, refl, sym, ap, ◌∙◌, arith}
use Rattle.std.specs.List.{range_with_len}
use Rattle.std.proofs.lemmas.List.Elements.{All-head, All-tail}
use Rattle.std.proofs.lemmas.List.Folds.{flat_map-map}
use Rattle.bats_batch.specs.Held.{HeldData, HeldBatch, StandsFor, batch_at}
use Rattle.bats_model.specs.Session.{SessionData}
use Rattle.bats_model.specs.Batch.{batch_of, degree_of}
use Rattle.bats_model.specs.Kept.{kept_of}
use Rattle.bats_model.specs.declared.packet.Packet.{Packet}
use Rattle.tool_run.proofs.Ranges.{flat_map-range_more}
use Rattle.bats_batch.proofs.HeldNumbers.{numbers_of, by_place, KeepRight, keep_right}
use Rattle.tool_sink.specs.Check.{batch_line}
use Rattle.tool_sink.specs.steps.Lines.{held_lines, line_at, line_of, numbers_line}

-- the lines before a place
abbrev pub lines_before : SessionData → List HeldBatch → ℕ → List ℕ
lines_before session batches place = flat_map (line_at session batches) (range_with_len 0 place)

-- and that of the batch there
pub lines_before-more : (session : SessionData) (batches : List HeldBatch) (place : ℕ)
    → lines_before session batches (place + 1) ≡ lines_before session batches place ++ line_at session batches place
lines_before-more session batches place =
    let first : 0 + place ≡ place = omega arith in
    flat_map-range_more (line_at session batches) 0 place
    ∙ ap (λ (n : ℕ). lines_before session batches place ++ line_at session batches n) first

-- the line of the batch at a place, from its numbers
pub line_at-numbers : (session : SessionData) (batches : List HeldBatch) (place number degree kept : ℕ) → number ≡ (batch_at batches place).number
    → degree ≡ degree_of (batch_of session number) → kept ≡ length (batch_at batches place).kept
    → line_at session batches place ≡ numbers_line number degree kept
unfolding line_at
line_at-numbers session batches place number degree kept number_is degree_is kept_is =
    let batch : HeldBatch = batch_at batches place in
    sym (ap (λ (k : ℕ). numbers_line number degree k) kept_is
    ∙ ap (λ (d : ℕ). numbers_line number d (length batch.kept)) degree_is
    ∙ ap (λ (n : ℕ). numbers_line n (degree_of (batch_of session n)) (length batch.kept)) number_is)

lines_by_place : (session : SessionData) (batches : List HeldBatch) → held_lines session batches ≡ flat_map (line_of session) batches
unfolding line_at
lines_by_place session batches =
    sym (flat_map-map (line_of session) (batch_at batches) (range_with_len 0 (length batches)))
    ∙ ap (flat_map (line_of session)) (sym (by_place batches))

lines_of_numbers : (session : SessionData) (packets : List Packet) (batches : List HeldBatch) → KeepRight packets batches
    → flat_map (line_of session) batches ≡ flat_map (batch_line session packets) (numbers_of batches)
lines_of_numbers session packets [] right = refl
lines_of_numbers session packets (batch ∷ batches) right =
    let Right : HeldBatch → Type 0 = λ batch. kept_of batch.number packets ≡ batch.kept in
    let own : line_of session batch ≡ batch_line session packets batch.number =
    ap (λ (kept : List Packet). numbers_line batch.number (degree_of (batch_of session batch.number)) (length kept))
    (sym (All-head Right batch batches right)) in
    ap (λ (xs : List ℕ). xs ++ flat_map (line_of session) batches) own
    ∙ ap (λ (xs : List ℕ). batch_line session packets batch.number ++ xs) (lines_of_numbers session packets batches (All-tail Right batch batches right))

pub held_lines-numbers : (session : SessionData) (packets : List Packet) (held : HeldData) → StandsFor packets held
    → held_lines session held.batches ≡ flat_map (batch_line session packets) (numbers_of held.batches)
held_lines-numbers session packets held stands =
    lines_by_place session held.batches ∙ lines_of_numbers session packets held.batches (keep_right packets held stands)
