use Rattle.std.proofs.Common.{List, ℕ, [], ◌∷◌, ◌++◌, refl, subst}
use Rattle.std.specs.Int.{w32, to_be_bytes}
use Rattle.bats_cert.specs.CertificateFile.{certificate_tag}
use Rattle.bats_model.specs.Records.{header_record}
use Rattle.bats_cert.specs.steps.Written.{HasWritten, HasFailed}
use Rattle.bats_cert.proofs.WrittenParts.{HasWritten-record, HasWritten-after, HasFailed-after, HasFailed-longer, Writes-exit, begin_bytes-written}
use Rattle.bats_cert.proofs.writing.write_begin.Goals as goal

pub returns-in_err-write_header : goal.returns-in_err-write_header
returns-in_err-write_header g c =
    let front : List ℕ = certificate_tag ∷ c.args.kind ∷ [] ++ to_be_bytes w32 c.args.count in
    let whole = begin_bytes-written c.args.session.now c.args.kind c.args.count front refl in
    Writes-exit c.from_residual.result c.from_residual.ensures.1
    (subst (HasFailed _ _) whole (HasFailed-longer (header_record c.args.session.now) front
    (record { fault = c.in_err-write_header.ensures.failed; prefix = c.in_err-write_header.ensures.prefix })))

pub returns-in_err-write_bytes : goal.returns-in_err-write_bytes
returns-in_err-write_bytes g c =
    let front : List ℕ = c.front_of.result in
    let whole = begin_bytes-written c.args.session.now c.args.kind c.args.count front c.front_of.ensures in
    let header = HasWritten-record (header_record c.args.session.now) c.in_ok-write_header.ensures.appended c.in_ok-write_header.ensures.unflushed
    c.in_ok-write_header.ensures.no_fault in
    Writes-exit c.from_residual-in_err-write_bytes.result c.from_residual-in_err-write_bytes.ensures.1
    (subst (HasFailed _ _) whole (HasFailed-after (header_record c.args.session.now) front header c.in_err-write_bytes.ensures.as_far))

pub returns : goal.returns
returns g c =
    let front : List ℕ = c.front_of.result in
    let whole = begin_bytes-written c.args.session.now c.args.kind c.args.count front c.front_of.ensures in
    let header = HasWritten-record (header_record c.args.session.now) c.in_ok-write_header.ensures.appended c.in_ok-write_header.ensures.unflushed
    c.in_ok-write_header.ensures.no_fault in
    record { as_far = subst (HasWritten _ _) whole (HasWritten-after (header_record c.args.session.now) front header c.in_ok-write_bytes.ensures.as_far) }
