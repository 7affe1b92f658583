use Rattle.bats_format.proofs.PacketFiles.{longer_file}
use Rattle.bats_format.proofs.laws.longer_packet_file.Goals as goal

pub returns : goal.returns
returns c = longer_file
