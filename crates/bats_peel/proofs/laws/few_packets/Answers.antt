use Rattle.bats_peel.proofs.FewPackets.{too_few}
use Rattle.bats_peel.proofs.laws.few_packets.Goals as goal

pub returns : goal.returns
returns c = too_few
