use Rattle.std.proofs.Common.{◌++◌, [], Bool, if◌then◌else◌, sym, subst}
use Rattle.std.specs.Result.{result_err}
use Rattle.tool_run.specs.Writes.{Writes}
use Rattle.tool_run.proofs.Writing.{Writes-after}
use Rattle.tool_sink.proofs.sinking.write_pair.Goals as goal

pub returns : goal.returns
returns g c =
    subst (λ (both : Bool). Writes (g.O.Sink.state c.args.output.now) (g.O.Sink.state c.write_bytes-2.new.output)
    (if both then c.args.first.now ++ c.args.second.now else []) (result_err c.write_bytes-2.result))
    (sym c.if-not-both.false) (Writes-after c.in_ok-write_bytes.ensures c.write_bytes-2.ensures)
