use Rattle.std.proofs.Common.{◌∙◌, ◌+◌, length, ap, sym, subst, arith}
use Rattle.std.proofs.lemmas.List.{with_items_is}
use Rattle.gf_core.specs.Triangular.{AreRows}
use Rattle.bats_model.specs.Kept.{packet_row}
use Rattle.bats_batch.specs.steps.Marked.{marked}
use Rattle.bats_batch.specs.steps.Entries.{pivots_of, rows_of}
use Rattle.bats_batch.specs.steps.Reduction.{Reduces}
use Rattle.bats_batch.proofs.MarkedPackets.{length-marked_row}
use Rattle.bats_batch.proofs.Reducing.{Reduces-from}
use Rattle.bats_batch.proofs.judged.reduce_packet.Goals as goal

pub reduce_by-requires-clause-rows : goal.reduce_by-requires-clause-rows
reduce_by-requires-clause-rows g c =
    subst (λ n. AreRows n (rows_of c.args.entries.now))
    (sym (ap length (c.deref_mut.ensures.value ∙ c.in_ok-write_row.ensures.row)
    ∙ length-marked_row c.args.m (length c.args.entries.now) c.args.packet.now c.requires.coefs))
    c.requires.rows

pub returns-clause-reduced : goal.returns-clause-reduced
returns-clause-reduced g c =
    let row = packet_row (marked c.args.m (length c.args.entries.now) c.args.packet.now) in
    let reduced : Reduces (c.args.m + c.args.m) (rows_of c.args.entries.now) (pivots_of c.args.entries.now) row c.reduce_by.new.row =
    Reduces-from (c.args.m + c.args.m) (rows_of c.args.entries.now) (pivots_of c.args.entries.now) row c.deref_mut.result.now c.reduce_by.new.row
    (c.deref_mut.ensures.value ∙ c.in_ok-write_row.ensures.row)
    (length-marked_row c.args.m (length c.args.entries.now) c.args.packet.now c.requires.coefs)
    c.reduce_by.ensures.row in
    subst (Reduces (c.args.m + c.args.m) (rows_of c.args.entries.now) (pivots_of c.args.entries.now) row)
    (sym (with_items_is c.write_row.new.row c.reduce_by.new.row (omega (arith, c.reduce_by.ensures.row.size, c.deref_mut.ensures.len))))
    reduced
