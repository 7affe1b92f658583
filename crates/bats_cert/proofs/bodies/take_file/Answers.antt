use Rattle.bats_cert.proofs.BodyParts.{HasBytes-sized, FieldStops-sized}
use Rattle.bats_cert.proofs.Stopping.{IfErr-exit}
use Rattle.bats_cert.proofs.bodies.take_file.Goals as goal

pub returns-in_err-bytes-clause-err : goal.returns-in_err-bytes-clause-err
returns-in_err-bytes-clause-err g c =
    IfErr-exit _ c.from_residual.result c.from_residual.ensures.1
    (FieldStops-sized c.args.session.now.file_length c.length-size.ensures.value c.in_err-bytes.ensures.err)

pub returns-clause-ok : goal.returns-clause-ok
returns-clause-ok g c = HasBytes-sized c.args.session.now.file_length c.length-size.ensures.value c.in_ok-bytes.ensures.ok
