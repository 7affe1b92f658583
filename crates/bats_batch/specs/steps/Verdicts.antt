-- What it takes to judge a packet to be new, or one that follows or contradicts.
use Rattle.std.specs.Prelude.{ℕ, ◌≢◌, ◌<◌, ◌+◌, List, length, slice_index}
use Rattle.bats_model.specs.declared.packet.Packet.{Packet}
use Rattle.bats_model.specs.Kept.{IsCombination, Follows, Contradicts, coefs_of, packet_row}
use Rattle.bats_batch.specs.declared.entry.Entry.{Entry}
use Rattle.bats_batch.specs.declared.judged.Judged.{Judged}
use Rattle.bats_batch.specs.declared.judged.Judged.TheVariants.{New, Dependent, Contradiction}
use Rattle.bats_batch.specs.steps.Entries.{offered_packets, pivots_of, rows_of}
use Rattle.bats_batch.specs.steps.Marked.{marked}
use Rattle.bats_batch.specs.steps.Reduction.{Reduces}

-- the packet is new, and the coefficient at this place is left in its reduced row
pub record IsNewWith (m : ℕ) (entries : List Entry) (packet : Packet) (row : List ℕ) (pivot : ℕ) : Type 0 where
  pub new : ¬ IsCombination (coefs_of (offered_packets entries)) packet.coefs
  pub low : pivot < m
  pub stands : slice_index row pivot ≢ 0
  pub reduces : Reduces (m + m) (rows_of entries) (pivots_of entries) (packet_row (marked m (length entries) packet)) row

-- the packet is judged as it is, given the entries of the kept packets, and this row is left of it
abbrev pub IsJudged : ℕ → List Entry → Packet → List ℕ → Judged → Type 0
IsJudged m entries packet row (New pivot) = IsNewWith m entries packet row pivot
IsJudged m entries packet row Dependent = Follows (offered_packets entries) packet
IsJudged m entries packet row Contradiction = Contradicts (offered_packets entries) packet
