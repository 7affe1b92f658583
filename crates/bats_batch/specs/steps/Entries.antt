-- What stands in the entries of a basis.
use Rattle.std.specs.Prelude.{ℕ, ◌≡◌, List, [], ◌∷◌, ◌++◌, map}
use Rattle.bats_model.specs.declared.packet.Packet.{Packet}
use Rattle.bats_batch.specs.declared.entry.Entry.{Entry}
use Rattle.bats_batch.specs.steps.Reduction.{IsNormalized}

-- the kept packets, as they were offered
abbrev pub offered_packets : List Entry → List Packet
offered_packets entries = map (λ entry. entry.packet) entries

-- the pivots of their reduced rows
abbrev pub pivots_of : List Entry → List ℕ
pivots_of entries = map (λ entry. entry.pivot) entries

-- their reduced rows
abbrev pub rows_of : List Entry → List (List ℕ)
rows_of entries = map (λ entry. entry.row.items) entries

-- the entries gained one, of this packet and pivot, whose row is the multiple of this one that is 1 at the pivot
pub record Keeps (old new : List Entry) (packet : Packet) (pivot : ℕ) (row : List ℕ) : Type 0 where
  pub entry : Entry
  pub gained : new ≡ old ++ entry ∷ []
  pub same_packet : entry.packet ≡ packet
  pub same_pivot : entry.pivot ≡ pivot
  pub normalized : IsNormalized pivot row entry.row.items
