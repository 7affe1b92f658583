use Rattle.std.proofs.Common.{ℕ, ◌<◌, List, [], ◌+◌, ◌++◌, length, take, drop, sym, subst, arith}
use Rattle.bats_cert.specs.CertificateFile.{rows_bytes}
use Rattle.bats_cert.specs.steps.Written.{HasFailed}
use Rattle.bats_cert.proofs.WrittenParts.{HasFailed-after, HasFailed-longer, Writes-exit, pieces-split}
use Rattle.bats_cert.proofs.writing.write_rows.Goals as goal

pub returns-in_err-write_bytes : goal.returns-in_err-write_bytes
returns-in_err-write_bytes g c =
    let rows : List (List ℕ) = c.args.rows.now.rows in
    let s : ℕ = c.rows.s in
    let row : List ℕ = c.row.result.now in
    let inside : s < length rows = omega (arith, c.rows-test.true, c.rows-s-end.ensures.count) in
    let front : List ℕ = rows_bytes (take s rows) in
    Writes-exit c.from_residual.result c.from_residual.ensures.1
    (subst (HasFailed _ _) (pieces-split (λ other. other) rows s [] row inside (sym c.row.ensures.values))
    (HasFailed-longer (front ++ row) (rows_bytes (drop (s + 1) rows)) (HasFailed-after front row c.rows.invariant c.in_err-write_bytes.ensures.as_far)))
