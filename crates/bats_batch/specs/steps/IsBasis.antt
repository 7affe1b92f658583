-- How the reduced rows of a basis stand to its kept packets.
use Rattle.std.specs.Prelude.{ℕ, ◌<◌, ◌+◌, List, All, map}
use Rattle.gf_core.specs.Combinations.{IsInSpan}
use Rattle.gf_core.specs.Triangular.{AreRows, AreTriangular}
use Rattle.bats_model.specs.declared.packet.Packet.{Packet}
use Rattle.bats_model.specs.Kept.{packet_row}
use Rattle.bats_batch.specs.Basis.{IsSized}
use Rattle.bats_batch.specs.steps.Marked.{marked_from}

-- the rows are triangular, with pivots among the coefficients, and they and the packets span the same
pub record AreReduced (m t : ℕ) (packets : List Packet) (pivots : List ℕ) (rows : List (List ℕ)) : Type 0 where
  pub sizes : All (IsSized m t) packets
  pub are : AreRows (m + t) rows
  pub triangular : AreTriangular pivots rows
  pub below : All (λ pivot. pivot < m) pivots
  pub rows_in : All (IsInSpan (m + t) (map packet_row packets)) rows
  pub packets_in : All (IsInSpan (m + t) rows) (map packet_row packets)

-- the rows are the reduced ones of the kept packets' coefficients and factors
pub record IsBasis (m t : ℕ) (kept : List Packet) (pivots : List ℕ) (rows : List (List ℕ)) : Type 0 where
  pub sizes : All (IsSized m t) kept
  pub reduced : AreReduced m m (marked_from m 0 kept) pivots rows
