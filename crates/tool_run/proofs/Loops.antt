-- Loops that write a piece for each number of a range.
use Rattle.std.proofs.Common.{ℕ, ◌≡◌, ◌+◌, ◌-◌, ◌<◌, ◌≤◌, List, flat_map, None, Some, Result}
use Rattle.std.specs.List.{range_with_len}
use Rattle.std.specs.Result.{IsErrAnd, result_err}
use Rattle.bats_io.specs.Streams.{OutputState}
use Rattle.tool_run.specs.declared.stop.Stop.{Stop}
use Rattle.tool_run.specs.declared.stop.Stop.TheVariants as stops
use Rattle.tool_run.specs.Writes.{Writes}
use Rattle.tool_run.proofs.Writing.{Writes-after, Writes-same, Writes-exit, Writes-exit_memory}
use Rattle.tool_run.proofs.Ranges.{flat_map-range_more, flat_map-range_split, flat_map-range_at}

-- a turn wrote its piece
pub Writes-more : {a b c : OutputState} (piece : ℕ → List ℕ) (from i : ℕ)
    → Writes a b (flat_map piece (range_with_len from i)) None → Writes b c (piece (from + i)) None
    → Writes a c (flat_map piece (range_with_len from (i + 1))) None
Writes-more piece from i p q = Writes-same (flat_map-range_more piece from i) (Writes-after p q)

-- a turn failed within its piece
pub Writes-failed : {T : Type 0} {a b c : OutputState} {e : Stop} (piece : ℕ → List ℕ) (from n i : ℕ) (r : Result T Stop)
    → i < n → IsErrAnd r (λ y. y ≡ e)
    → Writes a b (flat_map piece (range_with_len from i)) None → Writes b c (piece (from + i)) (Some e)
    → Writes a c (flat_map piece (range_with_len from n)) (result_err r)
Writes-failed piece from n i r lt k p q =
    Writes-exit r (flat_map piece (range_with_len (from + (i + 1)) (n - (i + 1)))) (flat_map-range_at piece from n i lt) k (Writes-after p q)

-- memory ran out before a turn wrote anything
pub Writes-without_memory : {T : Type 0} {a b : OutputState} (piece : ℕ → List ℕ) (from n i : ℕ) (r : Result T Stop)
    → i ≤ n → IsErrAnd r (λ y. y ≡ stops.Memory)
    → Writes a b (flat_map piece (range_with_len from i)) None
    → Writes a b (flat_map piece (range_with_len from n)) (result_err r)
Writes-without_memory piece from n i r le k p =
    Writes-exit_memory r (flat_map piece (range_with_len (from + i) (n - i))) (flat_map-range_split piece from n i le) k p
