use Rattle.std.proofs.Common.{ℕ, ◌≡◌, ◌+◌, ◌∙◌, false, true, sym, ap, subst, arith}
use Rattle.bats_model.specs.Batch.{degree_of, contributor_of}
use Rattle.bats_model.specs.Peeling.{is_in}
use Rattle.bats_peel.specs.steps.Fixing.{AreOutside}
use Rattle.bats_peel.proofs.FixingLemmas.{AreOutside-none, AreOutside-more, AreOutside-skip}
use Rattle.bats_peel.proofs.fixing.unknown_places.Goals as goal
use Rattle.bats_peel.proofs.fixing.unknown_places.Goals.{then-not-known-contributor+in_ok-push, else-not-known-contributor}

pub contributors-init : goal.contributors-init
contributors-init c = AreOutside-none c.args.local.now c.args.known.now c.new-places.result c.new-places.ensures

pub contributors-preserved : goal.contributors-preserved
contributors-preserved c = elim c.if-not-known-contributor.branch [
  | then-not-known-contributor+in_ok-push w ↦
      let unknown : is_in c.args.known.now (contributor_of c.args.local.now.batch c.contributors.k) ≡ false =
      ap (is_in c.args.known.now) (sym c.contributor.ensures) ∙ w.if-not-known-contributor.true in
      AreOutside-more c.args.local.now c.args.known.now c.contributors.k c.contributors.places c.if-not-known-contributor.places
      c.contributors.invariant unknown (w.places-is ∙ w.in_ok-push.ensures.ok)
  | else-not-known-contributor w ↦
      let known : is_in c.args.known.now (contributor_of c.args.local.now.batch c.contributors.k) ≡ true =
      ap (is_in c.args.known.now) (sym c.contributor.ensures) ∙ w.if-not-known-contributor.false in
      subst (AreOutside c.args.local.now c.args.known.now (c.contributors.k + 1)) (sym w.places-is)
      (AreOutside-skip c.args.local.now c.args.known.now c.contributors.k c.contributors.places c.contributors.invariant known)
]

pub returns : goal.returns
returns c =
    let all : c.contributors.k ≡ degree_of c.args.local.now.batch = omega (arith, c.degree-k-end.ensures.value) in
    subst (λ (n : ℕ). AreOutside c.args.local.now c.args.known.now n c.contributors.places) all c.contributors.invariant
