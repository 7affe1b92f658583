use Rattle.std.proofs.Common.{ℕ, ◌≤◌, ◌+◌, ◌∙◌, length, get_or, ap, arith, rules}
use Rattle.bats_stripes.proofs.PieceLemmas.{copied_more, length_of_part, entry_of_piece, piece_within}
use Rattle.bats_stripes.proofs.pieces.copy_row.Goals as goal

pub slice_bounds-put_piece-end : goal.slice_bounds-put_piece-end
slice_bounds-put_piece-end c =
    let l = c.args.layout in
    let is = c.requires.striped in
    let ends : c.place-start.result + c.piece.result ≤ length c.args.buffer.now =
    omega (
      arith,
      c.place-start.ensures,
      piece_within l.rows l.stride l.stripes c.pieces.k c.args.r c.piece.result (length c.args.buffer.now) is.bytes c.pieces-test.true c.requires.row
          (omega (arith, c.piece.ensures.width, is.fits)),
    ) in
    search rules

pub pieces-preserved : goal.pieces-preserved
pieces-preserved c =
    let l = c.args.layout in
    let is = c.requires.striped in
    let buffer = c.args.buffer.now in
    let start : ℕ = c.place-start.result in
    let size : ℕ = c.piece.result in
    let ends : start + size ≤ length buffer =
    omega (
      arith,
      c.place-start.ensures,
      piece_within l.rows l.stride l.stripes c.pieces.k c.args.r size (length buffer) is.bytes c.pieces-test.true c.requires.row
          (omega (arith, c.piece.ensures.width, is.fits)),
    ) in
    copied_more l.rows l.cols l.width l.stride c.args.r c.pieces.k size is.some is.fits c.requires.row c.piece.ensures.width c.piece.ensures.all
    buffer c.pieces.dst c.put_piece.new.buffer _ c.first.result c.first.ensures
    (λ j h. entry_of_piece buffer start size j h ∙ ap (λ (n : ℕ). get_or buffer (n + j) 0) c.place-start.ensures)
    (length_of_part buffer start size ends) c.pieces.invariant c.put_piece.ensures.size c.put_piece.ensures.inside c.put_piece.ensures.outside
