use Rattle.std.proofs.Common.{◌∙◌}
use Rattle.bats_format.proofs.Headers.{header_record-written}
use Rattle.bats_format.proofs.header.header_bytes.Goals as goal

pub returns : goal.returns
returns c =
    header_record-written c.args.session.now c.m-m.result c.mode_byte-mode.result c.symbol_size_bytes-t.result
    c.length_bytes-length.result c.copy_from_slice.new.self c.m-m.ensures.value c.mode_byte-mode.ensures
    c.symbol_size_bytes-t.ensures c.length_bytes-length.ensures (c.copy_from_slice.ensures.after ∙ c.seed.ensures.value)
