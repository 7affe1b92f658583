use Rattle.std.proofs.Common.{◌≡◌, length, take}
use Rattle.gf_rows.specs.Matrix.{IsMatrix}
use Rattle.bats_cert.specs.CertificateFile.{rows_bytes}
use Rattle.bats_cert.specs.steps.Parts.{HasRead}
use Rattle.bats_cert.proofs.bodies.fill_rows.Given as goal

abbrev pub invariant-rows : goal.invariant-rows
invariant-rows g l = record {
  matrix : IsMatrix l.rows;
  number : length l.rows.rows ≡ length l.fn.rows.rows;
  cols : l.rows.cols ≡ l.fn.rows.cols;
  width : l.width ≡ l.fn.rows.cols;
  size : length l.row ≡ l.fn.rows.cols;
  part : HasRead (g.S.Source.state l.fn.source) (g.S.Source.state l.source) (rows_bytes (take l.s l.rows.rows));
}
