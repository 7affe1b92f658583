use Rattle.bats_stripes.proofs.PieceLemmas.{IsWritten}
use Rattle.bats_stripes.proofs.pieces.put_row.Given as goal

abbrev pub invariant-pieces : goal.invariant-pieces
invariant-pieces l = IsWritten l.layout.rows l.layout.cols l.layout.width l.layout.stride l.r l.row l.k l.fn.buffer l.buffer
