use Rattle.std.proofs.Common.{◌≡◌, ◌+◌, ◌*◌, ◌∙◌, length, ap, arith, length-set}
use Rattle.gf_rows.specs.Matrix.{Grid}
use Rattle.bats_cert.proofs.Sequences.{Stops-row, rows-read, HasRows-all}
use Rattle.bats_cert.proofs.Stopping.{IfErr-exit}
use Rattle.bats_cert.proofs.bodies.fill_rows.Goals as goal

pub returns-in_err-take_field-clause-err : goal.returns-in_err-take_field-clause-err
returns-in_err-take_field-clause-err g c =
    let width : c.from-width.result ≡ c.args.rows.now.cols = c.from-width.ensures ∙ c.cols.ensures in
    let place : c.args.at + c.from.result * c.from-width.result ≡ c.args.at + c.rows.s * c.args.rows.now.cols =
    λ i. c.args.at + c.from.ensures i * width i in
    IfErr-exit _ c.from_residual.result c.from_residual.ensures.1
    (λ next. Stops-row c.rows.rows c.rows.s c.args.at _ (length c.args.rows.now.rows) c.args.rows.now.cols _ next c.rows.invariant.matrix c.rows.invariant.number
    c.rows.invariant.cols (omega (arith, c.take_field.auto.bytes, c.rows.invariant.size)) (omega (arith, c.rows-test.true, c.rows-s-end.ensures.count)) c.rows.invariant.part place
    c.in_err-take_field.ensures.err)

pub rows-preserved : goal.rows-preserved
rows-preserved g c =
    let m : Grid = c.rows.rows in
    record {
      matrix = c.set_row.ensures.matrix;
      number = ap (λ (new : Grid). length new.rows) c.set_row.ensures.row ∙ length-set m.rows c.rows.s c.take_field.new.bytes ∙ c.rows.invariant.number;
      cols = ap (λ (new : Grid). new.cols) c.set_row.ensures.row ∙ c.rows.invariant.cols;
      width = c.rows.invariant.width;
      size = omega (arith, c.take_field.auto.bytes, c.rows.invariant.size);
      part = rows-read m c.set_row.new.self c.rows.s c.take_field.new.bytes c.set_row.ensures.row
          (omega (arith, c.rows-test.true, c.rows-s-end.ensures.count, c.rows.invariant.number)) c.rows.invariant.part c.in_ok-take_field.ensures.ok;
    }

pub returns-clause-ok : goal.returns-clause-ok
returns-clause-ok g c =
    HasRows-all c.rows.rows c.rows.s (length c.args.rows.now.rows) c.args.rows.now.cols c.rows.invariant.matrix c.rows.invariant.number c.rows.invariant.cols
    (omega (arith, c.rows-test.false, c.rows-s-end.ensures.count)) c.rows.invariant.part
