use Rattle.bats_format.proofs.NextItems.{OpensAt-first}
use Rattle.bats_format.proofs.reader.Reader.open.Goals as goal

pub returns-in-Ok : goal.returns-in-Ok
returns-in-Ok g c = OpensAt-first c.in-Ok.ensures
