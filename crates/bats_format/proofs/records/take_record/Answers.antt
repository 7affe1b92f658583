use Rattle.bats_format.proofs.Reading.{Stops-after, TakesRecord-exit}
use Rattle.bats_format.proofs.records.take_record.Goals as goal

pub returns-in_err-take_repeat-in-Ok-Some-Header : goal.returns-in_err-take_repeat-in-Ok-Some-Header
returns-in_err-take_repeat-in-Ok-Some-Header g c =
    let tag = rw c.in-Ok-Some-Header.field-0-is at c.in-Ok-Some-Header.ensures in
    let byte = rw c.in-Ok-Some-Header.field-0-0-is at tag in
    TakesRecord-exit c.from_residual.result c.from_residual.ensures.1
    (Stops-after byte (c.in_err-take_repeat-in-Ok-Some-Header.ensures c.args.records byte.more))

pub returns-in_err-take_packet-in-Ok-Some-Packet : goal.returns-in_err-take_packet-in-Ok-Some-Packet
returns-in_err-take_packet-in-Ok-Some-Packet g c =
    let tag = rw c.in-Ok-Some-Packet.field-0-is at c.in-Ok-Some-Packet.ensures in
    let byte = rw c.in-Ok-Some-Packet.field-0-0-is at tag in
    TakesRecord-exit c.from_residual-in_err-take_packet-in-Ok-Some-Packet.result c.from_residual-in_err-take_packet-in-Ok-Some-Packet.ensures.1
    (Stops-after byte (c.in_err-take_packet-in-Ok-Some-Packet.ensures c.args.records byte.more))

pub returns-in-Err : goal.returns-in-Err
returns-in-Err g c = c.in-Err.ensures c.args.session.now
