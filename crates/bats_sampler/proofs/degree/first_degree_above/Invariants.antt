use Rattle.std.proofs.Common.{◌≡◌, ◌≤◌, ◌*◌, drop}
use Rattle.bats_model.specs.DegreeTable.{degree_at, first_degree_above}
use Rattle.bats_sampler.proofs.degree.first_degree_above.Given as goal

abbrev pub invariant-loop-degree : goal.invariant-loop-degree
invariant-loop-degree l = record {
  rest : first_degree_above (drop l.degree-index l.fn.rows) l.sum l.number ≡ degree_at l.fn.rows l.number;
  small : l.sum ≤ 65535 * l.degree-index;
}
