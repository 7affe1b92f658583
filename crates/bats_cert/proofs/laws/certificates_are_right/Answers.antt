use Rattle.bats_cert.proofs.RightBodies.{right-body}
use Rattle.bats_cert.proofs.laws.certificates_are_right.Goals as goal

pub returns : goal.returns
returns c = right-body
