use Rattle.bats_stripes.proofs.Replays.{whole_rows}
use Rattle.bats_stripes.proofs.laws.whole_rows_are_replayed.Goals as goal

pub returns : goal.returns
returns c = whole_rows
