use Rattle.std.proofs.Common.{ℕ, ap, arith}
use Rattle.std.specs.Prelude.{if◌then◌else◌}
use Rattle.bats_model.specs.Peeling.{is_in}
use Rattle.bats_peel.specs.Peeled.{place_of}
use Rattle.bats_peel.proofs.PartLemmas.{Sets-no_terms, Sets-more_terms, known_count-more}
use Rattle.bats_peel.proofs.terms.take_terms.Goals as goal

pub terms-init : goal.terms-init
terms-init g c = record {
  sets = Sets-no_terms c.args.local.now c.args.row c.args.i c.args.places.now c.args.known.now c.args.matrix.now c.args.plan.now c.requires.matrix;
  count = omega arith;
  coef_steps_rise = omega arith;
}

pub terms-preserved : goal.terms-preserved
terms-preserved g c =
    let one : ℕ → ℕ = λ s. if is_in c.args.known.now s then 1 else 0 in
    record {
      sets = Sets-more_terms c.args.local.now c.terms.k c.args.row c.args.i _ c.args.places.now c.args.known.now _ _
          c.args.matrix.now c.terms.matrix c.take_term.new.matrix c.args.plan.now c.terms.plan c.take_term.new.plan c.terms.invariant.sets
          c.in_ok-take_term.ensures.sets c.get-factor.ensures.value (ap (is_in c.args.known.now) c.contributor-s.ensures)
          (ap (place_of c.args.places.now) c.contributor-s.ensures)
          (c.requires.local.below c.terms.k (omega arith)) c.requires.apart;
      count = omega (
        arith,
        c.terms.invariant.count,
        c.in_ok-take_term.ensures.count,
        ap one c.contributor-s.ensures,
        known_count-more c.args.local.now c.args.known.now c.terms.k,
      );
      coef_steps_rise = omega (arith, c.take_term.ensures.coef_steps_rise);
    }
