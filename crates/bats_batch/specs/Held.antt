-- The held batches, and which packets they stand for.
use Rattle.std.specs.Prelude.{ℕ, ◌≡◌, ◌<◌, ◌==◌, if◌then◌else◌, List, [], ◌∷◌, All, length, flat_map, slice_index_or, sum_by}
use Rattle.bats_model.specs.Session.{SessionData}
use Rattle.bats_model.specs.PacketFile.{HasShape}
use Rattle.bats_model.specs.Kept.{kept_of}
use Rattle.bats_model.specs.declared.packet.Packet.{Packet}
use Rattle.bats_batch.specs.Basis.{BasisData}

-- kept packets of all batches together, at most
abbrev pub max_kept : ℕ
max_kept = 8192

-- a held batch: its number, and its kept packets in order
pub record HeldBatch : Type 0 where
  pub number : ℕ
  pub kept : List Packet

-- the session, and the held batches
pub record HeldData : Type 0 where
  pub session : SessionData
  pub batches : List HeldBatch

-- the kept packets of the batch with this number: none where it isn't held
abbrev pub kept_at : List HeldBatch → ℕ → List Packet
kept_at [] number = []
kept_at (batch ∷ batches) number = if batch.number == number then batch.kept else kept_at batches number

-- all kept packets are so many
abbrev pub row_count : List HeldBatch → ℕ
row_count batches = sum_by (λ batch. length batch.kept) batches

-- all kept packets, in the order of the payload rows: by rising batch number and, within a batch, in the order kept
unfoldable pub kept_packets : List HeldBatch → List Packet
kept_packets batches = flat_map (λ batch. batch.kept) batches

-- what is read past the end of held batches
abbrev pub no_batch : HeldBatch
no_batch = record { number = 0; kept = [] }

-- the held batch at a place, counted from 0
abbrev pub batch_at : List HeldBatch → ℕ → HeldBatch
batch_at batches place = slice_index_or batches place no_batch

-- the numbers rise, so no batch is held twice
abbrev pub HaveRisingNumbers : List HeldBatch → Type 0
HaveRisingNumbers batches =
    (i j : ℕ) → i < j → j < length batches → (batch_at batches i).number < (batch_at batches j).number

-- the basis of a batch that has these kept packets
abbrev pub basis_with : SessionData → List Packet → BasisData
basis_with session kept = record { m = session.m; t = session.t; kept = kept }

-- the packets are of the session's shape, and the held batches are those of them that have new packets: numbers rise,
-- and kept of each batch are its new packets
pub record StandsFor (packets : List Packet) (held : HeldData) : Type 0 where
  pub shapes : All (HasShape held.session) packets
  pub rising : HaveRisingNumbers held.batches
  pub some : All (λ batch. 0 < length batch.kept) held.batches
  pub kept : (number : ℕ) → kept_at held.batches number ≡ kept_of number packets
