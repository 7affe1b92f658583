use Rattle.std.proofs.Common.{take, arith, length-take}
use Rattle.std.proofs.lemmas.Result.{err_from_is_err_and}
use Rattle.bats_io.proofs.ReadLemmas.{IsRead-takes}
use Rattle.tool_run.proofs.reading.read_piece.Goals as goal

pub returns-in_err-extend_from_slice-in-Ok : goal.returns-in_err-extend_from_slice-in-Ok
returns-in_err-extend_from_slice-in-Ok g c =
    let p = err_from_is_err_and c.from_residual.result c.from_residual.ensures.1 in
    rw (p.1, p.2) (record {
      no_fault = c.in-Ok.ensures.no_fault;
      read = record {
        bytes = take c.in-Ok.count c.read.new.buf;
        read = IsRead-takes _ _ c.in-Ok.count c.read.new.buf c.in-Ok.ensures.taken;
        within = simp length-take (omega (arith, length-take c.min-size.result c.args.buffer.now));
      };
    })
