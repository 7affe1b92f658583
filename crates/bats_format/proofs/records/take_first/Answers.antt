use Rattle.std.proofs.Common.{arith}
use Rattle.bats_format.proofs.Reading.{FirstStops-empty, FirstStops-other, FirstStops-unread, TakesFirst-after}
use Rattle.bats_format.proofs.records.take_first.Goals as goal

pub returns-in-Ok-eq0 : goal.returns-in-Ok-eq0
returns-in-Ok-eq0 g c =
    FirstStops-empty c.fill.new.buffer c.in-Ok-eq0.field-0 (omega (arith, c.fill.auto.buffer)) c.in-Ok-eq0.field-0-test c.in-Ok-eq0.ensures

pub returns-then-bytes-ne-HEADER_TAG : goal.returns-then-bytes-ne-HEADER_TAG
returns-then-bytes-ne-HEADER_TAG g c =
    FirstStops-other c.fill.new.buffer c.in-Ok.field-0 (omega (arith, c.fill.auto.buffer)) c.in-Ok.field-0-test.1
    c.if-bytes-ne-HEADER_TAG.true c.in-Ok.ensures

pub returns-else-bytes-ne-HEADER_TAG : goal.returns-else-bytes-ne-HEADER_TAG
returns-else-bytes-ne-HEADER_TAG g c =
    TakesFirst-after _ _ _ c.take_header.result c.fill.new.buffer c.in-Ok.field-0 (omega (arith, c.fill.auto.buffer)) c.in-Ok.field-0-test.1
    c.if-bytes-ne-HEADER_TAG.false c.in-Ok.ensures c.take_header.ensures

pub returns-in-Err : goal.returns-in-Err
returns-in-Err g c = FirstStops-unread _ c.fill.auto.buffer c.in-Err.ensures
