-- The rows of kept packets, batch by batch: how many stand before a batch, and what is written once it is done.
use Rattle.std.proofs.Common.{ℕ, ◌≡◌, ◌<◌, ◌≤◌, ◌+◌, ◌∙◌, sym, ap, refl, List, [], ◌∷◌, ◌++◌, length, get_or, set, take, arith, append_assoc, append-nil}
use Rattle.std.specs.Prelude.{flat_map, slice_get, Some}
use Rattle.std.proofs.lemmas.List.{take_more, take_more_set, take_all, map-append}
use Rattle.std.proofs.lemmas.List.Sums.{sum_by_push, sum_by-take-le}
use Rattle.std.proofs.lemmas.Grind.{flat_map-append}
use Rattle.std.proofs.lemmas.Option.{slice_get_within, get_or_from_slice_get}
use Rattle.bats_model.specs.declared.packet.Packet.{Packet}
use Rattle.bats_batch.specs.Held.{HeldBatch, no_batch, batch_at, row_count, kept_packets}
use Rattle.bats_model.specs.Relay.{payloads_of}

-- ---- held batches

pub kept_packets-none : kept_packets [] ≡ []
unfolding kept_packets
kept_packets-none = refl

module _ (batches : List HeldBatch) (i : ℕ) (within : i < length batches) where
  -- those before the next batch
  pub kept_packets-more : kept_packets (take (i + 1) batches) ≡ kept_packets (take i batches) ++ (batch_at batches i).kept
  unfolding kept_packets
  kept_packets-more =
      let packets_of = λ (batch : HeldBatch). batch.kept in
      ap (flat_map packets_of) (take_more batches i no_batch within)
      ∙ flat_map-append packets_of (take i batches) (batch_at batches i ∷ [])
      ∙ ap (λ (ps : List Packet). flat_map packets_of (take i batches) ++ ps) (append-nil (batch_at batches i).kept)

  pub row_count-more : row_count (take (i + 1) batches) ≡ row_count (take i batches) + length (batch_at batches i).kept
  row_count-more =
      ap row_count (take_more batches i no_batch within)
      ∙ sum_by_push (λ (batch : HeldBatch). length batch.kept) (take i batches) (batch_at batches i)

  -- the rows of a batch end within all
  pub row_count-within : row_count (take i batches) + length (batch_at batches i).kept ≤ row_count batches
  row_count-within = omega (arith, row_count-more, sum_by-take-le (λ (batch : HeldBatch). length batch.kept) batches (i + 1))

-- ---- rows that are written

-- one packet more
pub written-packet : (first i : ℕ) (before rows : List (List ℕ)) (kept : List Packet) (packet : Packet) → first + i < length rows
    → slice_get kept i ≡ Some packet → take (first + i) rows ≡ take first before ++ payloads_of (take i kept)
    → take (first + (i + 1)) (set rows (first + i) packet.payload) ≡ take first before ++ payloads_of (take (i + 1) kept)
written-packet first i before rows kept packet within stands so_far =
    let place : first + (i + 1) ≡ first + i + 1 = omega arith in
    let own : get_or kept i packet ≡ packet = get_or_from_slice_get kept i packet packet stands in
    let next : payloads_of (take (i + 1) kept) ≡ payloads_of (take i kept) ++ packet.payload ∷ [] =
    ap payloads_of (take_more kept i packet (slice_get_within kept i packet stands))
    ∙ map-append (λ (p : Packet). p.payload) (take i kept) (get_or kept i packet ∷ [])
    ∙ ap (λ (p : Packet). payloads_of (take i kept) ++ p.payload ∷ []) own in
    ap (λ (n : ℕ). take n (set rows (first + i) packet.payload)) place ∙ take_more_set rows (first + i) packet.payload within
    ∙ ap (λ (rs : List (List ℕ)). rs ++ packet.payload ∷ []) so_far
    ∙ append_assoc (take first before) (payloads_of (take i kept)) (packet.payload ∷ [])
    ∙ ap (λ (rs : List (List ℕ)). take first before ++ rs) (sym next)

-- one batch more
pub written-batch : (first i : ℕ) (batches : List HeldBatch) (before after : List (List ℕ)) → i < length batches
    → take first before ≡ payloads_of (kept_packets (take i batches))
    → take (first + length (batch_at batches i).kept) after ≡ take first before ++ payloads_of (batch_at batches i).kept
    → take (first + length (batch_at batches i).kept) after ≡ payloads_of (kept_packets (take (i + 1) batches))
written-batch first i batches before after within so_far written =
    written ∙ ap (λ (rs : List (List ℕ)). rs ++ payloads_of (batch_at batches i).kept) so_far
    ∙ sym (map-append (λ (p : Packet). p.payload) (kept_packets (take i batches)) (batch_at batches i).kept)
    ∙ ap payloads_of (sym (kept_packets-more batches i within))

-- all batches
pub written-all : (first n : ℕ) (batches : List HeldBatch) (rows : List (List ℕ)) → length batches ≤ n → first ≡ row_count (take n batches)
    → length rows ≡ row_count batches → take first rows ≡ payloads_of (kept_packets (take n batches))
    → rows ≡ payloads_of (kept_packets batches)
written-all first n batches rows all count size written =
    let whole : take n batches ≡ batches = take_all n batches all in
    let last : length rows ≤ first = omega (arith, count, size, ap row_count whole) in
    sym (take_all first rows last) ∙ written ∙ ap (λ (bs : List HeldBatch). payloads_of (kept_packets bs)) whole
