use Rattle.bats_format.proofs.PacketFiles.{one_next}
use Rattle.bats_format.proofs.laws.one_next_record.Goals as goal

pub returns : goal.returns
returns c = one_next
