use Rattle.std.proofs.Common.{◌+◌, ◌*◌, arith}
use Rattle.bats_cert.specs.CertificateFile.{file_field, row_fields}
use Rattle.bats_cert.proofs.BodyParts.{Stops-first, Stops-second, Stops-two_rows, HasBody-two}
use Rattle.bats_cert.proofs.Stopping.{IfErr-exit, Stops-wider}
use Rattle.bats_cert.proofs.bodies.take_two.Goals as goal

pub returns-in_err-at_symbol-clause-err : goal.returns-in_err-at_symbol-clause-err
returns-in_err-at_symbol-clause-err g c =
    let session = c.args.session.now in
    IfErr-exit _ c.from_residual.result c.from_residual.ensures.1
    (Stops-wider _ (omega arith) (c.in_err-at_symbol.ensures.err (λ s. file_field session (file_field session (row_fields s c.args.count)))))

pub returns-in_err-first-clause-err : goal.returns-in_err-first-clause-err
returns-in_err-first-clause-err g c =
    IfErr-exit _ c.from_residual-in_err-first.result c.from_residual-in_err-first.ensures.1
    (Stops-first c.args.session.now c.args.count c.in_ok-at_symbol.at_symbol c.args.at (c.args.at + 4) c.length-length.ensures.within c.in_ok-at_symbol.ensures.within
    c.in_ok-at_symbol.ensures.ok (omega arith) c.in_err-first.ensures.err)

pub returns-in_err-second-clause-err : goal.returns-in_err-second-clause-err
returns-in_err-second-clause-err g c =
    IfErr-exit _ c.from_residual-in_err-second.result c.from_residual-in_err-second.ensures.1
    (Stops-second c.args.session.now c.args.count c.in_ok-at_symbol.at_symbol c.args.at (c.args.at + 4 + c.length-length.result) c.in_ok-first.first c.length-length.ensures.within c.in_ok-at_symbol.ensures.within
    c.in_ok-at_symbol.ensures.ok c.in_ok-first.ensures.ok (omega (arith, c.length-length.ensures.value)) c.in_err-second.ensures.err)

pub returns-in_err-rows-clause-err : goal.returns-in_err-rows-clause-err
returns-in_err-rows-clause-err g c =
    IfErr-exit _ c.from_residual-in_err-rows.result c.from_residual-in_err-rows.ensures.1
    (Stops-two_rows c.args.session.now c.args.count c.in_ok-at_symbol.at_symbol c.args.at (c.args.at + 4 + 2 * c.length-length.result) c.in_ok-first.first c.in_ok-second.second c.length-length.ensures.within
    c.requires.few c.in_ok-at_symbol.ensures.within c.in_ok-at_symbol.ensures.ok c.in_ok-first.ensures.ok c.in_ok-second.ensures.ok
    (omega (arith, c.length-length.ensures.value)) c.in_err-rows.ensures.err)

pub returns-clause-ok : goal.returns-clause-ok
returns-clause-ok g c =
    HasBody-two c.args.session.now c.args.count c.in_ok-at_symbol.at_symbol c.in_ok-first.first c.in_ok-second.second c.in_ok-rows.rows
    c.in_ok-at_symbol.ensures.within c.in_ok-at_symbol.ensures.ok c.in_ok-first.ensures.ok c.in_ok-second.ensures.ok c.in_ok-rows.ensures.ok
