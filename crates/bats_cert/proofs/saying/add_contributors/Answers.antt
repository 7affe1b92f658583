use Rattle.std.proofs.Common.{ℕ, ◌∙◌, List, length, get_or, sym, ap, refl, arith}
use Rattle.std.proofs.lemmas.List.{get_or-replicate}
use Rattle.gf_core.specs.Field.{gf_add}
use Rattle.gf_core.proofs.SumLemmas.{gf_sum-zero, gf_sum-more}
use Rattle.bats_cert.specs.steps.Saying.{said_term}
use Rattle.bats_cert.proofs.saying.add_contributors.Goals as goal

pub contributors-init : goal.contributors-init
contributors-init c = record {
  size = refl;
  entries = λ u within. ap (λ (r : List ℕ). get_or r u 0) c.requires.zeros ∙ get_or-replicate (length c.args.row.now) u 0 0 within
      ∙ sym (gf_sum-zero (said_term c.args.batch.now c.args.coefs.now u));
}

pub contributors-preserved : goal.contributors-preserved
contributors-preserved c = record {
  size = c.add_contributor.ensures.length ∙ c.contributors.invariant.size;
  entries = λ u within. c.add_contributor.ensures.entries u (omega (arith, within, c.contributors.invariant.size))
      ∙ ap (λ (y : ℕ). gf_add y (said_term c.args.batch.now c.args.coefs.now u c.contributors.k)) (c.contributors.invariant.entries u within)
      ∙ sym (gf_sum-more c.contributors.k (said_term c.args.batch.now c.args.coefs.now u));
}
