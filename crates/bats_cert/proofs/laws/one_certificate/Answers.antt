use Rattle.bats_cert.proofs.OneCertificate.{same_certificates}
use Rattle.bats_cert.proofs.laws.one_certificate.Goals as goal

pub returns : goal.returns
returns c = same_certificates
