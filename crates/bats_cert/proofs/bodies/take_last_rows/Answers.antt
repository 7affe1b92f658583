use Rattle.std.proofs.Common.{rules, arith, [], length, ap, ◌∙◌, ◌≡◌}
use Rattle.std.proofs.lemmas.List.{length-replicate}
use Rattle.gf_rows.specs.Matrix.{Grid}
use Rattle.bats_cert.specs.CertificateFile.{row_fields}
use Rattle.bats_cert.proofs.BodyParts.{Stops-rows, Stops-behind_rows, HasSize-sized, HasLastRows-of}
use Rattle.bats_cert.proofs.Stopping.{IfErr-exit, HasRead-nothing, Stops-memory}
use Rattle.bats_cert.proofs.bodies.take_last_rows.Goals as goal

pub returns-in_err-row-clause-err : goal.returns-in_err-row-clause-err
returns-in_err-row-clause-err g c =
    IfErr-exit _ c.from_residual.result c.from_residual.ensures.1
    (Stops-memory (row_fields c.args.symbols c.args.count) [] c.args.at _ (HasRead-nothing _) (omega arith))

pub returns-in_err-rows-clause-err : goal.returns-in_err-rows-clause-err
returns-in_err-rows-clause-err g c =
    IfErr-exit _ c.from_residual-in_err-rows.result c.from_residual-in_err-rows.ensures.1
    (Stops-memory (row_fields c.args.symbols c.args.count) [] c.args.at _ (HasRead-nothing _) (omega arith))

pub returns-in_err-fill_rows-clause-err : goal.returns-in_err-fill_rows-clause-err
returns-in_err-fill_rows-clause-err g c =
    let number : length c.in_ok-rows.rows.rows ≡ c.args.symbols = ap (λ (m : Grid). length m.rows) c.in_ok-rows.ensures ∙ length-replicate _ _ in
    let width : c.in_ok-rows.rows.cols ≡ c.args.count = ap (λ (m : Grid). m.cols) c.in_ok-rows.ensures in
    IfErr-exit _ c.from_residual-in_err-fill_rows.result c.from_residual-in_err-fill_rows.ensures.1
    (Stops-rows c.in_ok-rows.rows c.args.symbols c.args.count number width c.in_err-fill_rows.ensures.err)

pub returns-in_err-take_end-clause-err : goal.returns-in_err-take_end-clause-err
returns-in_err-take_end-clause-err g c =
    let number : length c.in_ok-rows.rows.rows ≡ c.args.symbols = ap (λ (m : Grid). length m.rows) c.in_ok-rows.ensures ∙ length-replicate _ _ in
    let width : c.in_ok-rows.rows.cols ≡ c.args.count = ap (λ (m : Grid). m.cols) c.in_ok-rows.ensures in
    IfErr-exit _ c.from_residual-in_err-take_end.result c.from_residual-in_err-take_end.ensures.1
    (Stops-behind_rows c.fill_rows.new.rows c.args.symbols c.args.count c.args.at _
    (HasSize-sized c.fill_rows.new.rows c.args.symbols c.args.count number width c.in_ok-fill_rows.ensures.ok.size)
    c.in_ok-fill_rows.ensures.ok.part (search rules) c.in_err-take_end.ensures.err)

pub returns-clause-ok : goal.returns-clause-ok
returns-clause-ok g c =
    let number : length c.in_ok-rows.rows.rows ≡ c.args.symbols = ap (λ (m : Grid). length m.rows) c.in_ok-rows.ensures ∙ length-replicate _ _ in
    let width : c.in_ok-rows.rows.cols ≡ c.args.count = ap (λ (m : Grid). m.cols) c.in_ok-rows.ensures in
    HasLastRows-of c.fill_rows.new.rows c.args.symbols c.args.count number width c.in_ok-fill_rows.ensures.ok c.in_ok-take_end.ensures.ok
