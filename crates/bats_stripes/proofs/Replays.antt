-- A replay leaves one value, and it is what the plan makes of whole rows.
use Rattle.std.proofs.Common.{ℕ, ◌≡◌, ◌<◌, ◌∙◌, List, [], length, get_or, sym, ap, refl, subst}
use Rattle.std.specs.Prelude.{All}
use Rattle.std.proofs.lemmas.List.{ext_get_or}
use Rattle.gf_core.proofs.RowLemmas.{get_or-column_of}
use Rattle.gf_rows.specs.declared.operation.Op.{Op}
use Rattle.gf_rows.specs.Matrix.{Grid}
use Rattle.gf_rows.specs.Operation.{FitsRows}
use Rattle.gf_rows.specs.Plan.{plan_on_rows}
use Rattle.gf_rows.proofs.PlanLemmas.{length-plan_on_rows, plan_on_rows-widths, column_of-plan_on_rows}
use Rattle.bats_stripes.specs.Columns.{IsReplayed}

pub replays_agree : (plan : List Op) (before one other : Grid) → IsReplayed plan before one → IsReplayed plan before other → one ≡ other
replays_agree plan before one other h g =
    ap (λ (n : ℕ). record { cols = n; rows = one.rows }) (h.cols ∙ sym g.cols) ∙ ap (λ (rs : List (List ℕ)). record { cols = other.cols; rows = rs }) same_rows
  where
    same_entry : (r c : ℕ) → c < before.cols → get_or (get_or one.rows r []) c 0 ≡ get_or (get_or other.rows r []) c 0
    same_entry r c p =
        sym (get_or-column_of one.rows c r) ∙ (ap (λ (xs : List ℕ). get_or xs r 0) (h.columns c p ∙ sym (g.columns c p)) ∙ get_or-column_of other.rows c r)

    same_row : (r : ℕ) → r < length one.rows → get_or one.rows r [] ≡ get_or other.rows r []
    same_row r p =
        let first : length (get_or one.rows r []) ≡ before.cols = h.widths r [] p in
        let second : length (get_or other.rows r []) ≡ before.cols = g.widths r [] (subst (λ (n : ℕ). r < n) (h.count ∙ sym g.count) p) in
        ext_get_or 0 (get_or one.rows r []) (get_or other.rows r []) (first ∙ sym second) (λ c q. same_entry r c (subst (λ (n : ℕ). c < n) first q))

    same_rows : one.rows ≡ other.rows
    same_rows = ext_get_or [] one.rows other.rows (h.count ∙ sym g.count) same_row

pub whole_rows : (plan : List Op) (before after : Grid) → All (λ row. length row ≡ before.cols) before.rows → All (FitsRows (length before.rows)) plan
    → IsReplayed plan before after → after ≡ record { cols = before.cols; rows = plan_on_rows plan before.rows }
whole_rows plan before after widths fits is =
    replays_agree plan before after (record { cols = before.cols; rows = plan_on_rows plan before.rows }) is (record {
      cols = refl;
      count = length-plan_on_rows plan before.rows;
      widths = plan_on_rows-widths plan before.rows before.cols fits widths;
      columns = λ c p. column_of-plan_on_rows plan before.rows before.cols c fits widths p;
    })
