use Rattle.std.proofs.Common.{ℕ, ◌∙◌, ap, replicate}
use Rattle.gf_rows.proofs.PlanLemmas.{zeros}
use Rattle.bats_stripes.proofs.StripedRows.{striped_grid, striped_zeros}
use Rattle.bats_stripes.proofs.payload.Payload.zeros.Goals as goal

pub returns : goal.returns
returns c =
    let l = c.of-layout.result in
    ap (striped_grid l.rows l.cols l.width l.stride) (c.in_ok-bytes.ensures.items_if_clones_equal (λ y same. same)) ∙
    (ap (λ rows. record { cols = l.cols; rows = rows }) (striped_zeros l.rows l.cols l.width l.stride _) ∙
    (ap (λ (n : ℕ). record { cols = l.cols; rows = replicate n (zeros l.cols) }) c.of-layout.ensures.rows ∙
    ap (λ (n : ℕ). record { cols = n; rows = replicate c.args.rows (zeros n) }) (c.of-layout.ensures.cols ∙ c.from.ensures)))
