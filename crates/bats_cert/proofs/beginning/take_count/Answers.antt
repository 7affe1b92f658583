use Rattle.std.proofs.Common.{nat_le, arith, refl}
use Rattle.std.specs.Int.{w32, to_be_bytes, from_be_bytes}
use Rattle.std.proofs.lemmas.Nat.{from_be_bytes-to_be_bytes_4}
use Rattle.bats_cert.specs.Shown.{most_listed}
use Rattle.bats_cert.proofs.Layouts.{le-false}
use Rattle.bats_cert.proofs.Stopping.{IfErr-exit, FieldStops-by, Stops-breaks}
use Rattle.bats_cert.proofs.beginning.take_count.Goals as goal

pub returns-in_err-count-clause-err : goal.returns-in_err-count-clause-err
returns-in_err-count-clause-err g c =
    IfErr-exit _ c.from_residual.result c.from_residual.ensures.1
    (λ next. FieldStops-by 4 (λ bytes. nat_le (from_be_bytes w32 bytes) most_listed) (λ bytes. next (from_be_bytes w32 bytes)) refl
    c.in_err-count.ensures.err)

pub returns-then-count-gt-MOST_LISTED-clause-err : goal.returns-then-count-gt-MOST_LISTED-clause-err
returns-then-count-gt-MOST_LISTED-clause-err g c = λ next.
    let same = from_be_bytes-to_be_bytes_4 c.in_ok-count.count c.in_ok-count.ensures.within in
    Stops-breaks 4 34 (λ bytes. nat_le (from_be_bytes w32 bytes) most_listed) (λ bytes. next (from_be_bytes w32 bytes)) (to_be_bytes w32 c.in_ok-count.count) refl
    (le-false (from_be_bytes w32 (to_be_bytes w32 c.in_ok-count.count)) most_listed (omega (arith, same, c.if-count-gt-MOST_LISTED.true))) c.in_ok-count.ensures.ok
