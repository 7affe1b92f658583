use Rattle.std.proofs.Common.{subst}
use Rattle.std.specs.Int.{w16, to_be_bytes}
use Rattle.bats_cert.specs.steps.Written.{HasWritten, HasFailed}
use Rattle.bats_cert.proofs.WrittenParts.{HasWritten-after, HasFailed-after, HasFailed-longer, Writes-exit}
use Rattle.bats_cert.proofs.writing.write_zero.Goals as goal

pub returns-in_err-write_bytes : goal.returns-in_err-write_bytes
returns-in_err-write_bytes g c =
    Writes-exit c.from_residual.result c.from_residual.ensures.1
    (HasFailed-longer (to_be_bytes w16 c.args.column) c.args.factors.now (subst (HasFailed _ _) c.short_bytes.ensures c.in_err-write_bytes.ensures.as_far))

pub returns-in_err-write_bytes-2 : goal.returns-in_err-write_bytes-2
returns-in_err-write_bytes-2 g c =
    Writes-exit c.from_residual-in_err-write_bytes-2.result c.from_residual-in_err-write_bytes-2.ensures.1
    (HasFailed-after (to_be_bytes w16 c.args.column) c.args.factors.now (subst (HasWritten _ _) c.short_bytes.ensures c.in_ok-write_bytes.ensures.as_far)
    c.in_err-write_bytes-2.ensures.as_far)

pub returns : goal.returns
returns g c = record {
  as_far = HasWritten-after (to_be_bytes w16 c.args.column) c.args.factors.now (subst (HasWritten _ _) c.short_bytes.ensures c.in_ok-write_bytes.ensures.as_far)
      c.in_ok-write_bytes-2.ensures.as_far;
}
