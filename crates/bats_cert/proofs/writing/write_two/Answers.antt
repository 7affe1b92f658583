use Rattle.std.proofs.Common.{List, ℕ, ◌++◌, subst}
use Rattle.std.specs.Int.{w32, to_be_bytes}
use Rattle.bats_cert.specs.CertificateFile.{rows_bytes}
use Rattle.bats_cert.specs.steps.Written.{HasWritten, HasFailed}
use Rattle.bats_cert.proofs.WrittenParts.{HasWritten-after, HasFailed-after, HasFailed-longer, Writes-exit}
use Rattle.bats_cert.proofs.writing.write_two.Goals as goal

pub returns-in_err-write_bytes : goal.returns-in_err-write_bytes
returns-in_err-write_bytes g c =
    let symbol : List ℕ = to_be_bytes w32 c.args.at_symbol in
    let first : List ℕ = c.args.first.now in
    let second : List ℕ = c.args.second.now in
    Writes-exit c.from_residual.result c.from_residual.ensures.1
    (HasFailed-longer (symbol ++ first ++ second) (rows_bytes c.args.rows.now.rows) (HasFailed-longer (symbol ++ first) second
    (HasFailed-longer symbol first (subst (HasFailed _ _) c.number_bytes.ensures c.in_err-write_bytes.ensures.as_far))))

pub returns-in_err-write_bytes-2 : goal.returns-in_err-write_bytes-2
returns-in_err-write_bytes-2 g c =
    let symbol : List ℕ = to_be_bytes w32 c.args.at_symbol in
    let first : List ℕ = c.args.first.now in
    let second : List ℕ = c.args.second.now in
    Writes-exit c.from_residual-in_err-write_bytes-2.result c.from_residual-in_err-write_bytes-2.ensures.1
    (HasFailed-longer (symbol ++ first ++ second) (rows_bytes c.args.rows.now.rows) (HasFailed-longer (symbol ++ first) second
    (HasFailed-after symbol first (subst (HasWritten _ _) c.number_bytes.ensures c.in_ok-write_bytes.ensures.as_far) c.in_err-write_bytes-2.ensures.as_far)))

pub returns-in_err-write_bytes-3 : goal.returns-in_err-write_bytes-3
returns-in_err-write_bytes-3 g c =
    let symbol : List ℕ = to_be_bytes w32 c.args.at_symbol in
    let first : List ℕ = c.args.first.now in
    let second : List ℕ = c.args.second.now in
    Writes-exit c.from_residual-in_err-write_bytes-3.result c.from_residual-in_err-write_bytes-3.ensures.1
    (HasFailed-longer (symbol ++ first ++ second) (rows_bytes c.args.rows.now.rows) (HasFailed-after (symbol ++ first) second
    (HasWritten-after symbol first (subst (HasWritten _ _) c.number_bytes.ensures c.in_ok-write_bytes.ensures.as_far) c.in_ok-write_bytes-2.ensures.as_far)
    c.in_err-write_bytes-3.ensures.as_far))

pub returns-in_err-write_rows : goal.returns-in_err-write_rows
returns-in_err-write_rows g c =
    let symbol : List ℕ = to_be_bytes w32 c.args.at_symbol in
    let first : List ℕ = c.args.first.now in
    let second : List ℕ = c.args.second.now in
    Writes-exit c.from_residual-in_err-write_rows.result c.from_residual-in_err-write_rows.ensures.1
    (HasFailed-after (symbol ++ first ++ second) (rows_bytes c.args.rows.now.rows) (HasWritten-after (symbol ++ first) second
    (HasWritten-after symbol first (subst (HasWritten _ _) c.number_bytes.ensures c.in_ok-write_bytes.ensures.as_far) c.in_ok-write_bytes-2.ensures.as_far)
    c.in_ok-write_bytes-3.ensures.as_far) c.in_err-write_rows.ensures.as_far)

pub returns : goal.returns
returns g c =
    let symbol : List ℕ = to_be_bytes w32 c.args.at_symbol in
    let first : List ℕ = c.args.first.now in
    let second : List ℕ = c.args.second.now in
    record {
      as_far = HasWritten-after (symbol ++ first ++ second) (rows_bytes c.args.rows.now.rows) (HasWritten-after (symbol ++ first) second
          (HasWritten-after symbol first (subst (HasWritten _ _) c.number_bytes.ensures c.in_ok-write_bytes.ensures.as_far) c.in_ok-write_bytes-2.ensures.as_far)
          c.in_ok-write_bytes-3.ensures.as_far) c.in_ok-write_rows.ensures.as_far;
    }
