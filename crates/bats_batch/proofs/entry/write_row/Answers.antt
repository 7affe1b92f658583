use Rattle.std.proofs.Common.{◌∙◌, arith}
use Rattle.std.proofs.lemmas.List.{with_items_is}
use Rattle.bats_batch.proofs.MarkedPackets.{packet_row-marked}
use Rattle.bats_batch.proofs.entry.write_row.Goals as goal

pub returns-clause-row : goal.returns-clause-row
returns-clause-row c =
    with_items_is c.write_coefs.new.row c.mark.new.row (omega arith)
    ∙ c.mark.ensures
    ∙ packet_row-marked c.args.m c.args.number c.args.packet.now c.deref_mut.result.now c.requires (c.deref_mut.ensures.value ∙ c.in_ok-write_coefs.ensures.row)
