use Rattle.bats_cert.specs.CertificateFile.{rows_bytes}
use Rattle.bats_cert.proofs.WrittenParts.{HasWritten-after, HasFailed-after, HasFailed-longer, Writes-exit}
use Rattle.bats_cert.proofs.writing.write_one.Goals as goal

pub returns-in_err-write_bytes : goal.returns-in_err-write_bytes
returns-in_err-write_bytes g c =
    Writes-exit c.from_residual.result c.from_residual.ensures.1
    (HasFailed-longer c.args.file.now (rows_bytes c.args.rows.now.rows) c.in_err-write_bytes.ensures.as_far)

pub returns-in_err-write_rows : goal.returns-in_err-write_rows
returns-in_err-write_rows g c =
    Writes-exit c.from_residual-in_err-write_rows.result c.from_residual-in_err-write_rows.ensures.1
    (HasFailed-after c.args.file.now (rows_bytes c.args.rows.now.rows) c.in_ok-write_bytes.ensures.as_far c.in_err-write_rows.ensures.as_far)

pub returns : goal.returns
returns g c = record {
  as_far = HasWritten-after c.args.file.now (rows_bytes c.args.rows.now.rows) c.in_ok-write_bytes.ensures.as_far c.in_ok-write_rows.ensures.as_far;
}
