use Rattle.std.proofs.Common.{◌≡◌, ap, sym, arith, ℕ, flat_map}
use Rattle.std.specs.List.{range_with_len}
use Rattle.tool_source.specs.Source.{batch_records, packet_records}
use Rattle.tool_run.proofs.Writing.{Writes-same}
use Rattle.tool_run.proofs.Loops.{Writes-more, Writes-failed}
use Rattle.tool_source.proofs.sending.write_batches.Goals as goal

pub loop-i-preserved : goal.loop-i-preserved
loop-i-preserved g c =
    Writes-more (batch_records c.args.encoder.now.session c.args.encoder.now.file) c.args.first c.loop-i.i
    c.loop-i.invariant c.in_ok-write_numbered.ensures

pub returns-in_err-write_numbered : goal.returns-in_err-write_numbered
unfolding packet_records
returns-in_err-write_numbered g c =
    Writes-failed (batch_records c.args.encoder.now.session c.args.encoder.now.file) c.args.first c.args.batches c.loop-i.i _ (omega arith)
    c.from_residual.ensures.1 c.loop-i.invariant c.in_err-write_numbered.ensures

pub returns : goal.returns
unfolding packet_records
returns g c =
    let all : c.loop-i.i ≡ c.args.batches = omega arith in
    Writes-same (ap (λ (n : ℕ). flat_map (batch_records c.args.encoder.now.session c.args.encoder.now.file) (range_with_len c.args.first n)) (sym all)) c.loop-i.invariant
