use Rattle.std.proofs.Common.{take}
use Rattle.bats_cert.specs.CertificateFile.{packets_bytes}
use Rattle.bats_cert.specs.steps.Written.{HasWritten}
use Rattle.bats_cert.proofs.writing.write_packets.Given as goal

abbrev pub invariant-packets : goal.invariant-packets
invariant-packets g l = HasWritten (g.K.Sink.state l.initial.sink) (g.K.Sink.state l.sink) (packets_bytes (take l.i l.packets))
