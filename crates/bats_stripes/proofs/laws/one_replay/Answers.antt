use Rattle.bats_stripes.proofs.Replays.{replays_agree}
use Rattle.bats_stripes.proofs.laws.one_replay.Goals as goal

pub returns : goal.returns
returns c = replays_agree
