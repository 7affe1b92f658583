use Rattle.bats_stripes.proofs.PieceLemmas.{IsCopied}
use Rattle.bats_stripes.proofs.pieces.copy_row.Given as goal

abbrev pub invariant-pieces : goal.invariant-pieces
invariant-pieces l = IsCopied l.layout.rows l.layout.cols l.layout.width l.layout.stride l.r l.buffer l.k l.dst
