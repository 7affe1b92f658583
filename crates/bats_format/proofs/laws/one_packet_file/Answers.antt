use Rattle.bats_format.proofs.PacketFiles.{same_file}
use Rattle.bats_format.proofs.laws.one_packet_file.Goals as goal

pub returns : goal.returns
returns c = same_file
