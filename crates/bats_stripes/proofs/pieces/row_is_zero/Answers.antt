use Rattle.std.proofs.Common.{ℕ, ◌≤◌, ◌+◌, length, refl, arith, rules}
use Rattle.bats_stripes.proofs.PieceLemmas.{piece_within, zero_more, zeros_in}
use Rattle.bats_stripes.proofs.pieces.row_is_zero.Goals as goal

pub slice_bounds-is_zero-end : goal.slice_bounds-is_zero-end
slice_bounds-is_zero-end c =
    let l = c.args.layout in
    let is = c.requires.striped in
    let ends : c.place-start.result + c.piece.result ≤ length c.args.buffer.now =
    omega (
      arith,
      c.place-start.ensures,
      piece_within l.rows l.stride l.stripes c.pieces.k c.args.r c.piece.result (length c.args.buffer.now) is.bytes c.pieces-test.true c.requires.row
          (omega (arith, c.piece.ensures.width, is.fits)),
    ) in
    search rules

pub returns-then-not-is_zero : goal.returns-then-not-is_zero
returns-then-not-is_zero c =
    let l = c.args.layout in
    let is = c.requires.striped in
    let buffer = c.args.buffer.now in
    let start : ℕ = c.place-start.result in
    let size : ℕ = c.piece.result in
    let ends : start + size ≤ length buffer =
    omega (
      arith,
      c.place-start.ensures,
      piece_within l.rows l.stride l.stripes c.pieces.k c.args.r size (length buffer) is.bytes c.pieces-test.true c.requires.row
          (omega (arith, c.piece.ensures.width, is.fits)),
    ) in (
      λ never. cc,
      λ zeros. c.if-not-is_zero.ensures.1
          (zeros_in l.rows l.cols l.width l.stride c.args.r c.pieces.k size start buffer is.some c.piece.ensures.width c.piece.ensures.within
          c.piece.ensures.all c.place-start.ensures ends zeros),
    )

pub pieces-preserved : goal.pieces-preserved
pieces-preserved c =
    let l = c.args.layout in
    let is = c.requires.striped in
    let buffer = c.args.buffer.now in
    let start : ℕ = c.place-start.result in
    let size : ℕ = c.piece.result in
    let ends : start + size ≤ length buffer =
    omega (
      arith,
      c.place-start.ensures,
      piece_within l.rows l.stride l.stripes c.pieces.k c.args.r size (length buffer) is.bytes c.pieces-test.true c.requires.row
          (omega (arith, c.piece.ensures.width, is.fits)),
    ) in
    zero_more l.rows l.cols l.width l.stride c.args.r c.pieces.k size start buffer is.some c.piece.ensures.width c.piece.ensures.within c.piece.ensures.all
    c.place-start.ensures ends c.pieces.invariant (c.if-not-is_zero.ensures.0 refl)
