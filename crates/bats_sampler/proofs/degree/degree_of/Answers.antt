use Rattle.std.proofs.Common.{◌≤◌, subst, sym, ap, ◌∙◌}
use Rattle.bats_model.specs.DegreeTable.{degree_at}
use Rattle.bats_sampler.proofs.DegreeTables.{degree_at-le, degree_at-some}
use Rattle.bats_sampler.proofs.degree.degree_of.Goals.{then-table-eq0, else-table-eq0}
use Rattle.bats_sampler.proofs.degree.degree_of.Goals as goal

pub returns-clause-few : goal.returns-clause-few
returns-clause-few c =
    elim c.if-table-eq0.branch [
      | then-table-eq0 w ↦ subst (λ d. d ≤ 128)
          (sym (c.first_degree_above.ensures ∙ ap (λ rows. degree_at rows c.args.number) w.first_degree_above-is))
          (degree_at-le 0 c.args.number)
      | else-table-eq0 w ↦ subst (λ d. d ≤ 128)
          (sym (c.first_degree_above.ensures ∙ ap (λ rows. degree_at rows c.args.number) w.first_degree_above-is))
          (degree_at-le 1 c.args.number)
    ]

pub returns-clause-some : goal.returns-clause-some
returns-clause-some c low =
    elim c.if-table-eq0.branch [
      | then-table-eq0 w ↦ subst (λ d. 1 ≤ d)
          (sym (c.first_degree_above.ensures ∙ ap (λ rows. degree_at rows c.args.number) w.first_degree_above-is))
          (degree_at-some 0 c.args.number low)
      | else-table-eq0 w ↦ subst (λ d. 1 ≤ d)
          (sym (c.first_degree_above.ensures ∙ ap (λ rows. degree_at rows c.args.number) w.first_degree_above-is))
          (degree_at-some 1 c.args.number low)
    ]
