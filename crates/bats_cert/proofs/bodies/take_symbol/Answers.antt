use Rattle.std.proofs.Common.{nat_lt, arith, refl}
use Rattle.std.specs.Int.{w32, to_be_bytes, from_be_bytes}
use Rattle.std.proofs.lemmas.Nat.{from_be_bytes-to_be_bytes_4}
use Rattle.bats_model.specs.Session.{symbols_of}
use Rattle.bats_cert.proofs.Layouts.{lt-false}
use Rattle.bats_cert.proofs.Stopping.{IfErr-exit, FieldStops-by, Stops-breaks}
use Rattle.bats_cert.proofs.bodies.take_symbol.Goals as goal

pub returns-in_err-s-clause-err : goal.returns-in_err-s-clause-err
returns-in_err-s-clause-err g c =
    IfErr-exit _ c.from_residual.result c.from_residual.ensures.1
    (λ next. FieldStops-by 4 (λ bytes. nat_lt (from_be_bytes w32 bytes) (symbols_of c.args.session.now)) (λ bytes. next (from_be_bytes w32 bytes)) refl
    c.in_err-s.ensures.err)

pub returns-then-s-symbols-clause-err : goal.returns-then-s-symbols-clause-err
returns-then-s-symbols-clause-err g c = λ next.
    let same = from_be_bytes-to_be_bytes_4 c.in_ok-s.s c.in_ok-s.ensures.within in
    Stops-breaks 4 c.args.at (λ bytes. nat_lt (from_be_bytes w32 bytes) (symbols_of c.args.session.now)) (λ bytes. next (from_be_bytes w32 bytes)) (to_be_bytes w32 c.in_ok-s.s) refl
    (lt-false (from_be_bytes w32 (to_be_bytes w32 c.in_ok-s.s)) (symbols_of c.args.session.now) (omega (arith, same, c.if-s-symbols.true, c.symbols.ensures.value)))
    c.in_ok-s.ensures.ok
