-- What a relay has sent of what it holds, batch by batch.
use Rattle.std.specs.Prelude.{ℕ, ◌≡◌, ◌≢◌, ◌≤◌, ◌<◌, List, length, flat_map, sum_by}
use Rattle.std.specs.List.{range_with_len}
use Rattle.bats_model.specs.Session.{SessionData}
use Rattle.bats_model.specs.Relay.{relay_output}
use Rattle.bats_model.specs.declared.packet.Packet.{Packet}
use Rattle.bats_batch.specs.Held.{HeldBatch, batch_at}
use Rattle.bats_relay.specs.Mixer.{MixerData, sent_of}
use Rattle.bats_relay.specs.Rule.{max_rank}
use Rattle.tool_stream.specs.Relay.{sent_record}

-- on each rank that a batch may have the closure answers as this function does
abbrev pub IsAnsweredBy : (ℕ → ℕ → Type 0) → (ℕ → ℕ) → Type 0
IsAnsweredBy post answers = (rank answer : ℕ) → rank ≤ max_rank → post rank answer → answer ≡ answers rank

-- the record of an output of a batch with these kept packets
unfoldable pub output_record : SessionData → List ℕ → ℕ → List Packet → ℕ → List ℕ
output_record session seed number kept output = sent_record (relay_output session seed number output kept)

-- those of so many outputs, numbered from 0
abbrev pub batch_records : SessionData → List ℕ → ℕ → List Packet → ℕ → List ℕ
batch_records session seed number kept count = flat_map (output_record session seed number kept) (range_with_len 0 count)

-- how many outputs the held batch at a place has
abbrev pub place_count : (ℕ → ℕ) → List HeldBatch → ℕ → ℕ
place_count answers batches place = answers (length (batch_at batches place).kept)

-- and their records
unfoldable pub place_records : SessionData → List ℕ → (ℕ → ℕ) → List HeldBatch → ℕ → List ℕ
place_records session seed answers batches place =
    batch_records session seed (batch_at batches place).number (batch_at batches place).kept (place_count answers batches place)

-- those of all held batches
abbrev pub held_records : SessionData → List ℕ → (ℕ → ℕ) → List HeldBatch → List ℕ
held_records session seed answers batches = flat_map (place_records session seed answers batches) (range_with_len 0 (length batches))

-- how many outputs the batches at the first places have
abbrev pub sent_before : (ℕ → ℕ) → List HeldBatch → ℕ → ℕ
sent_before answers batches place = sum_by (place_count answers batches) (range_with_len 0 place)

-- how many all held batches have
abbrev pub sent_count : (ℕ → ℕ) → List HeldBatch → ℕ
sent_count answers batches = sent_before answers batches (length batches)

-- so many outputs were made of a batch of which there was none, and nothing else has changed
pub record HasSentOf (batch count : ℕ) (before after : MixerData) : Type 0 where
  pub held : after.held ≡ before.held
  pub seed : after.seed ≡ before.seed
  pub own : sent_of after batch ≡ count
  pub others : (other : ℕ) → other ≢ batch → sent_of after other ≡ sent_of before other

-- no output was made of the held batches from this place on
abbrev pub HasSentNoneFrom : MixerData → ℕ → Type 0
HasSentNoneFrom mixer from =
    (place : ℕ) → from ≤ place → place < length mixer.held.batches → sent_of mixer (batch_at mixer.held.batches place).number ≡ 0
