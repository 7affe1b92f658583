use Rattle.bats_stripes.proofs.PieceLemmas.{IsZeroBefore}
use Rattle.bats_stripes.proofs.pieces.row_is_zero.Given as goal

abbrev pub invariant-pieces : goal.invariant-pieces
invariant-pieces l = IsZeroBefore l.layout.rows l.layout.cols l.layout.width l.layout.stride l.r l.buffer l.k
