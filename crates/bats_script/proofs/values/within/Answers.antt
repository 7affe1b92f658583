use Rattle.std.proofs.Common.{◌∙◌, ap, sym, subst, w64}
use Rattle.std.specs.Prelude.{unsigned_abs}
use Rattle.std.specs.Int.{FitsUnsignedBits}
use Rattle.std.proofs.lemmas.Int.{to_z-of_z}
use Rattle.bats_script.proofs.ValueLemmas.{within-fits, within-misfits}
use Rattle.bats_script.proofs.values.within.Goals as goal

pub returns-in-Ok : goal.returns-in-Ok
returns-in-Ok c =
    let back = to_z-of_z w64 c.args.number c.ranges.number in
    c.among.ensures ∙ within-fits c.args.low c.args.high c.in-Ok.number c.args.number
    (subst (λ z. FitsUnsignedBits 32 z) back c.in-Ok.ensures.0) (c.in-Ok.ensures.1 ∙ ap unsigned_abs back)

pub returns-in-Err : goal.returns-in-Err
returns-in-Err c =
    let back = to_z-of_z w64 c.args.number c.ranges.number in
    within-misfits c.args.low c.args.high c.args.number c.ranges.high.fits
    (λ fits. c.in-Err.ensures (subst (λ z. FitsUnsignedBits 32 z) (sym back) fits))
