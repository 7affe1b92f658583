use Rattle.std.proofs.Common.{◌+◌, arith}
use Rattle.bats_model.specs.Session.{symbols_of}
use Rattle.bats_cert.specs.CertificateFile.{any, row_fields}
use Rattle.bats_cert.proofs.BodyParts.{file_length-most, Stops-one_rows, HasBody-one}
use Rattle.bats_cert.proofs.Stopping.{IfErr-exit, Stops-wider}
use Rattle.bats_cert.proofs.bodies.take_one.Goals as goal

pub returns-in_err-file-clause-err : goal.returns-in_err-file-clause-err
returns-in_err-file-clause-err g c =
    let session = c.args.session.now in
    IfErr-exit _ c.from_residual.result c.from_residual.ensures.1
    (Stops-wider _ (omega (arith, file_length-most session c.length-length.ensures.within))
    (c.in_err-file.ensures.err.stops any (λ bytes. row_fields (symbols_of session) c.args.count)))

pub returns-in_err-rows-clause-err : goal.returns-in_err-rows-clause-err
returns-in_err-rows-clause-err g c =
    IfErr-exit _ c.from_residual-in_err-rows.result c.from_residual-in_err-rows.ensures.1
    (Stops-one_rows c.args.session.now c.args.count c.args.at (c.args.at + c.length-length.result) c.symbols.result c.in_ok-file.file c.length-length.ensures.within c.requires.few c.in_ok-file.ensures.ok
    (omega (arith, c.length-length.ensures.value)) c.symbols.ensures.value c.in_err-rows.ensures.err)

pub returns-clause-ok : goal.returns-clause-ok
returns-clause-ok g c =
    HasBody-one c.args.session.now c.args.count c.in_ok-file.file c.in_ok-rows.rows c.in_ok-file.ensures.ok c.symbols.ensures.value c.in_ok-rows.ensures.ok
