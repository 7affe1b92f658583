use Rattle.bats_cert.proofs.WholeCertificates.{no_wrong_field}
use Rattle.bats_cert.proofs.laws.certificates_have_no_wrong_field.Goals as goal

pub returns : goal.returns
returns c = no_wrong_field
