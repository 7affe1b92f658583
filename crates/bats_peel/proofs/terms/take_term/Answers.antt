use Rattle.std.proofs.Common.{◌∙◌}
use Rattle.std.proofs.lemmas.Bool.{eqb-true}
use Rattle.std.proofs.Common.{sym}
use Rattle.bats_peel.proofs.PartLemmas.{Sets-no_factor, Sets-known_column}
use Rattle.bats_peel.proofs.terms.take_term.Goals as goal

pub returns-then-eq-clause-sets : goal.returns-then-eq-clause-sets
returns-then-eq-clause-sets g c =
    Sets-no_factor c.args.row c.args.matrix.now c.args.plan.now c.args.factor c.args.place c.args.known c.requires.matrix
    (eqb-true c.args.factor 0 (sym c.eq.ensures ∙ c.if-eq.true))

pub returns-in-Column-clause-sets : goal.returns-in-Column-clause-sets
returns-in-Column-clause-sets g c =
    Sets-known_column c.args.factor c.in-Column.j c.args.place c.args.known c.in-Column.is c.if-not-known.false (c.add_entry.ensures c.args.plan.now)
