use Rattle.std.proofs.Common.{◌≡◌, ◌∙◌, ap, rules}
use Rattle.bats_model.specs.Records.{header_record}
use Rattle.bats_format.proofs.Headers.{session_of, header_record-of_bytes, KeepsRules-from_none, not-bad_session}
use Rattle.bats_format.proofs.header.session_in.Goals as goal

pub unreachable-requires : goal.unreachable-requires
unreachable-requires c =
    not-bad_session c.args.bytes.now _ _ c.in-Err.field-0 c.new.result c.in-Err.is
    (KeepsRules-from_none c.args.bytes.now c.requires) c.symbol_size.ensures c.length.ensures
    c.new.ensures.batch_size c.new.ensures.symbol_size c.new.ensures.table c.new.ensures.too_long

pub returns-clause-header : goal.returns-clause-header
returns-clause-header c =
    let found : c.in-Ok.session ≡ session_of c.args.bytes.now = search rules in
    ap header_record found
    ∙ header_record-of_bytes c.args.bytes.now c.told-bytes c.fits-bytes (KeepsRules-from_none c.args.bytes.now c.requires)
