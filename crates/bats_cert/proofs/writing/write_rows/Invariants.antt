use Rattle.std.proofs.Common.{take}
use Rattle.bats_cert.specs.CertificateFile.{rows_bytes}
use Rattle.bats_cert.specs.steps.Written.{HasWritten}
use Rattle.bats_cert.proofs.writing.write_rows.Given as goal

abbrev pub invariant-rows : goal.invariant-rows
invariant-rows g l = HasWritten (g.K.Sink.state l.initial.sink) (g.K.Sink.state l.sink) (rows_bytes (take l.s l.rows.rows))
