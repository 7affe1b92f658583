use Rattle.std.proofs.Common.{sym, subst, arith}
use Rattle.std.specs.Prelude.{All}
use Rattle.bats_model.specs.Session.{symbols_of}
use Rattle.bats_model.specs.Peeling.{largest_degree}
use Rattle.bats_peel.specs.steps.Fixing.{IsLocal}
use Rattle.bats_peel.proofs.LocalLemmas.{IsLocal-at}
use Rattle.bats_peel.proofs.LargestDegrees.{degrees_within}
use Rattle.bats_peel.proofs.peeled.peel.Goals as goal

pub order_of-requires : goal.order_of-requires
order_of-requires g c =
    subst (All (IsLocal (symbols_of c.args.session.now))) (sym c.deref.ensures.value)
    (λ k d h.
    IsLocal-at c.args.session.now c.args.held.now.batches c.in_ok-locals.locals.items k d c.in_ok-locals.ensures (omega (arith, h, c.in_ok-locals.ensures.size)))

pub returns-clause-bound : goal.returns-clause-bound
returns-clause-bound g c =
    λ packets stands.
    c.in_ok-peeled.ensures.few (largest_degree c.args.session.now packets) (degrees_within c.args.session.now packets c.args.held.now stands)
