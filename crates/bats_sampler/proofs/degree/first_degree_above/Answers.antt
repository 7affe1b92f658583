use Rattle.std.proofs.Common.{rules, arith, refl, ◌<◌, ◌≤◌, ◌+◌, length, get_or, ◌∙◌}
use Rattle.bats_model.specs.DegreeTable.{degree_at}
use Rattle.bats_sampler.proofs.DegreeTables.{row_above, row_not_above, no_row}
use Rattle.bats_sampler.proofs.degree.first_degree_above.Goals as goal

pub loop-degree-init : goal.loop-degree-init
unfolding degree_at
loop-degree-init c = record { rest = refl; small = omega arith }

pub returns-then-number-sum : goal.returns-then-number-sum
returns-then-number-sum c =
    let within : c.loop-degree.degree-index < length c.args.rows = search rules in
    let test : c.args.number < c.loop-degree.sum + (get_or c.args.rows c.loop-degree.degree-index (0, 0)).1 =
    omega arith in
    c.from.ensures ∙ row_above c.args.rows c.loop-degree.degree-index c.loop-degree.sum c.args.number _ within
    c.loop-degree.invariant.rest test

pub loop-degree-preserved : goal.loop-degree-preserved
loop-degree-preserved c =
    let within : c.loop-degree.degree-index < length c.args.rows = search rules in
    let test : c.loop-degree.sum + (get_or c.args.rows c.loop-degree.degree-index (0, 0)).1 ≤ c.args.number =
    omega arith in
    let next = row_not_above c.args.rows c.loop-degree.degree-index c.loop-degree.sum c.args.number _ within
    c.loop-degree.invariant.rest test in
    record {
      rest = rw c.from-sum.ensures next;
      small = let fits = c.loop-degree-test.element_fits2 in omega arith;
    }

pub returns : goal.returns
returns c =
    let all : length c.args.rows ≤ c.loop-degree.degree-index = search rules in
    no_row c.args.rows c.loop-degree.degree-index c.loop-degree.sum c.args.number _ all c.loop-degree.invariant.rest
