use Rattle.std.proofs.Common.{arith}
use Rattle.bats_format.proofs.RecordLemmas.{length-header_record}
use Rattle.bats_format.proofs.Reading.{TakesBody-header_exit, Stops-other, TakesItem-header, same_tail, other_tail}
use Rattle.bats_format.proofs.records.take_repeat.Goals as goal

pub returns-in_err-fill_part : goal.returns-in_err-fill_part
returns-in_err-fill_part g c =
    TakesBody-header_exit c.args.session.now c.from_residual.result (length-header_record c.args.session.now c.m-m.ensures.within)
    (omega (arith, c.fill_part.auto.part)) c.from_residual.ensures.1 c.in_err-fill_part.ensures

pub returns-then-ne : goal.returns-then-ne
returns-then-ne g c =
    Stops-other c.fill_part.new.part (length-header_record c.args.session.now c.m-m.ensures.within) (omega (arith, c.fill_part.auto.part))
    (other_tail c.args.session.now c.header_bytes-header.result c.fill_part.new.part c.m-m.ensures.within c.header_bytes-header.ensures c.if-ne.ensures)
    c.in_ok-fill_part.ensures

pub returns : goal.returns
returns g c =
    TakesItem-header c.fill_part.new.part
    (same_tail c.args.session.now c.header_bytes-header.result c.fill_part.new.part c.m-m.ensures.within c.header_bytes-header.ensures c.if-ne.ensures)
    c.in_ok-fill_part.ensures
