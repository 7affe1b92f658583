use Rattle.std.proofs.Common.{◌+◌, arith, refl}
use Rattle.bats_cert.specs.CertificateFile.{nothing, field, any}
use Rattle.bats_cert.proofs.BodyParts.{Stops-factors, Stops-zero_end, HasBody-zero}
use Rattle.bats_cert.proofs.Stopping.{IfErr-exit, Stops-wider}
use Rattle.bats_cert.proofs.bodies.take_zero.Goals as goal

pub returns-in_err-column-clause-err : goal.returns-in_err-column-clause-err
returns-in_err-column-clause-err g c =
    IfErr-exit _ c.from_residual.result c.from_residual.ensures.1
    (Stops-wider _ (omega arith) (c.in_err-column.ensures.err (field c.args.count any (λ factors. nothing))))

pub returns-in_err-factors-clause-err : goal.returns-in_err-factors-clause-err
returns-in_err-factors-clause-err g c =
    IfErr-exit _ c.from_residual-in_err-factors.result c.from_residual-in_err-factors.ensures.1
    (Stops-factors c.args.session.now c.args.count c.in_ok-column.column c.args.at _ c.m-m.ensures.within c.requires.few c.in_ok-column.ensures.within c.in_ok-column.ensures.ok
    refl c.in_err-factors.ensures.err)

pub returns-in_err-take_end-clause-err : goal.returns-in_err-take_end-clause-err
returns-in_err-take_end-clause-err g c =
    IfErr-exit _ c.from_residual-in_err-take_end.result c.from_residual-in_err-take_end.ensures.1
    (Stops-zero_end c.args.session.now c.args.count c.in_ok-column.column c.args.at (c.args.at + 2 + c.from.result) c.in_ok-factors.factors c.m-m.ensures.within c.requires.few c.in_ok-column.ensures.within
    c.in_ok-column.ensures.ok c.in_ok-factors.ensures.ok (omega (arith, c.from.ensures)) c.in_err-take_end.ensures.err)

pub returns-clause-ok : goal.returns-clause-ok
returns-clause-ok g c =
    HasBody-zero c.args.session.now c.args.count c.in_ok-column.column c.in_ok-factors.factors c.in_ok-column.ensures.within c.in_ok-column.ensures.ok
    c.in_ok-factors.ensures.ok c.in_ok-take_end.ensures.ok
