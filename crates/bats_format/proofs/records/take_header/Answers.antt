use Rattle.std.proofs.Common.{ℕ, ◌∷◌, List, ap, append-nil, arith}
use Rattle.bats_model.specs.Records.{header_tag}
use Rattle.bats_format.proofs.Reading.{TakesFirst-exit, FirstStops-broken}
use Rattle.bats_format.proofs.records.take_header.Goals as goal

pub returns-in_err-fill_part : goal.returns-in_err-fill_part
returns-in_err-fill_part g c =
    TakesFirst-exit c.from_residual.result (omega (arith, c.fill_part.auto.part)) c.from_residual.ensures.1 c.in_err-fill_part.ensures

pub returns-in-Err : goal.returns-in-Err
returns-in-Err g c =
    FirstStops-broken _ c.fill_part.new.part c.in-Err.field (ap (λ (rest : List ℕ). header_tag ∷ rest) (append-nil c.fill_part.new.part))
    (omega (arith, c.fill_part.auto.part)) c.in-Err.ensures.broken
    (λ session h e. c.in-Err.ensures.only session h e) c.in_ok-fill_part.ensures
