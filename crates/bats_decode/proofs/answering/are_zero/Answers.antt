use Rattle.std.proofs.Common.{◌↔◌, ap, ◌∙◌}
use Rattle.std.specs.Prelude.{IsTrue}
use Rattle.rayon.proofs.ListFacts.{IfOk-then}
use Rattle.rayon.proofs.ToStd.{slice-AllZip}
use Rattle.bats_stripes.specs.Columns.{IsZeroRow}
use Rattle.bats_decode.proofs.answering.are_zero.Goals as goal

pub returns : goal.returns
returns g c =
    let slice = ap (λ it. it.slice.now) c.map.ensures.base ∙ c.par_iter.ensures in
    IfOk-then c.collect.result _ _ c.collect.ensures (λ v h.
    let chain = rw c.map.ensures.f at h.1 in
    rw h.2 (slice-AllZip chain.0 c.args.rows.now (chain.1 ∙ slice) (λ r zero. IsTrue zero ↔ IsZeroRow c.args.payload.now r) h.0 chain.2))
