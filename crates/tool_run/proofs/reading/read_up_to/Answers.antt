use Rattle.std.proofs.Common.{◌+◌, ◌-◌, arith}
use Rattle.tool_run.proofs.FilesRead.{Reads-exit}
use Rattle.tool_run.proofs.reading.read_up_to.Goals as goal

pub returns-in_err-read_piece : goal.returns-in_err-read_piece
returns-in_err-read_piece g c =
    Reads-exit
    (g.S.Source.state c.args.input.now)
    (g.S.Source.state c.loop-file.input)
    (g.S.Source.state c.read_piece.new.input)
    c.args.most (c.args.most + 1 - c.len-in-loop-file.result) c.loop-file.file.items c.read_piece.new.file.items
    c.in_err-read_piece.field-0.0 c.from_residual.result
    c.loop-file.invariant.read c.loop-file.invariant.no_fault (omega arith) (omega arith)
    c.in_err-read_piece.ensures c.from_residual.ensures.1
