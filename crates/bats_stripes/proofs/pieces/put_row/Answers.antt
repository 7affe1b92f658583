use Rattle.std.proofs.Common.{ℕ, ◌≤◌, ◌+◌, ◌∙◌, length, get_or, ap, arith}
use Rattle.bats_stripes.proofs.PieceLemmas.{written_more, length_of_part, entry_of_piece}
use Rattle.bats_stripes.proofs.pieces.put_row.Goals as goal

pub pieces-preserved : goal.pieces-preserved
pieces-preserved c =
    let l = c.args.layout in
    let is = c.requires.striped in
    let row = c.args.row.now in
    let start : ℕ = c.first-start.result in
    let size : ℕ = c.piece.result in
    let ends : start + size ≤ length row = omega (arith, c.first-start.ensures, c.piece.ensures.within, c.requires.width) in
    written_more l.rows l.cols l.width l.stride c.args.r c.pieces.k size is.some is.fits c.requires.row c.piece.ensures.width c.piece.ensures.all
    row c.args.buffer.now c.pieces.buffer c.put_piece.new.buffer _ c.place.result c.place.ensures
    (λ j h. entry_of_piece row start size j h ∙ ap (λ (n : ℕ). get_or row (n + j) 0) c.first-start.ensures)
    (length_of_part row start size ends) c.pieces.invariant c.put_piece.ensures.size c.put_piece.ensures.inside c.put_piece.ensures.outside
