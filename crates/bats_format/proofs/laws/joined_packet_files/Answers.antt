use Rattle.bats_format.proofs.JoinedFiles.{joined_files}
use Rattle.bats_format.proofs.laws.joined_packet_files.Goals as goal

pub returns : goal.returns
returns c = joined_files
