use Rattle.bats_cert.proofs.ContributorRows.{packet-sums}
use Rattle.bats_cert.proofs.laws.sums_by_packets.Goals as goal

pub returns : goal.returns
returns c = packet-sums
