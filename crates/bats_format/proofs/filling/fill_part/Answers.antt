use Rattle.bats_format.proofs.Filled.{FillsPart-cut}
use Rattle.bats_format.proofs.filling.fill_part.Goals as goal

pub returns-then-count-part : goal.returns-then-count-part
returns-then-count-part g c =
    FillsPart-cut _ _ c.args.at c.fill.new.buffer c.in-Ok.count c.in-Ok.ensures c.if-count-part.true
