use Rattle.std.proofs.Common.{arith}
use Rattle.bats_format.proofs.Reading.{Stops-tag, Stops-untagged}
use Rattle.bats_format.proofs.records.take_tag.Goals as goal

pub returns-in-Err-tag_of : goal.returns-in-Err-tag_of
returns-in-Err-tag_of g c =
    Stops-tag c.fill.new.buffer c.in-Ok.field-0 (omega (arith, c.fill.auto.buffer)) c.in-Ok.field-0-test.1 c.in-Ok.ensures c.in-Err-tag_of.ensures

pub returns-in-Err : goal.returns-in-Err
returns-in-Err g c session = Stops-untagged _ c.fill.auto.buffer c.in-Err.ensures session
