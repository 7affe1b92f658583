use Rattle.std.proofs.Common.{◌+◌, ◌∙◌, sym, subst}
use Rattle.bats_dense.specs.steps.Below.{AreUnused}
use Rattle.bats_dense.proofs.UnusedLemmas.{AreUnused-used, AreUnused-push}
use Rattle.bats_dense.proofs.dense.unused_rows.Goals.{then-not-used-place+in_ok-push, else-not-used-place}
use Rattle.bats_dense.proofs.dense.unused_rows.Goals as goal

pub places-preserved : goal.places-preserved
places-preserved c = elim c.if-not-used-place.branch [
  | then-not-used-place+in_ok-push w ↦
      subst (AreUnused (c.places.place + 1) c.args.eqs.now c.args.used.now) (sym (w.rows-is ∙ w.in_ok-push.ensures.ok))
      (AreUnused-push c.places.place c.args.eqs.now c.args.used.now c.places.rows c.places.invariant c.places-test.true c.requires.distinct w.if-not-used-place.true)
  | else-not-used-place w ↦
      subst (AreUnused (c.places.place + 1) c.args.eqs.now c.args.used.now) (sym w.rows-is)
      (AreUnused-used c.places.place c.args.eqs.now c.args.used.now c.places.rows c.places.invariant w.if-not-used-place.false)
]
