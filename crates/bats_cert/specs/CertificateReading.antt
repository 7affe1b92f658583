-- What the reading of a certificate leaves of a source, and what its answer is.
use Rattle.std.specs.Prelude.{ℕ, ◌≡◌, ◌≤◌, ◌+◌, List, ◌++◌, Some, Result, Ok, Err}
use Rattle.bats_io.specs.Faults.{Rose}
use Rattle.bats_io.specs.Streams.{InputState, IsTold, IsRead, IsEnded, ReadsAtMost}
use Rattle.bats_model.specs.Session.{SessionData, IsSession}
use Rattle.bats_cert.specs.Shown.{IsFit, most_listed}
use Rattle.bats_cert.specs.CertificateFile.{begin_bytes, certificate_bytes, first_wrong, longest_certificate}
use Rattle.bats_cert.specs.declared.certificate.Certificate.{Certificate}
use Rattle.bats_cert.specs.declared.cert_end.CertEnd.{CertEnd}
use Rattle.bats_cert.specs.declared.cert_end.CertEnd.TheVariants as ends

-- how many bytes are read at most: the longest certificate, and one byte behind it
abbrev pub most_read : ℕ
most_read = longest_certificate + 1

-- the certificate's bytes were read, and nothing is behind them
pub record ReadsWhole (before after : InputState) (cert : Certificate) : Type 0 where
  pub is_session : IsSession cert.session
  pub fit : IsFit cert
  pub taken : IsRead before.left after.left (certificate_bytes cert)
  pub ended : IsEnded after.left
  pub no_fault : after.faults ≡ before.faults

-- the first field of what was left that is cut or breaks its rule begins at this place, or it is that of the first byte behind
-- the last field
pub record FindsWrong (before after : InputState) (at : ℕ) : Type 0 where
  pub left : List ℕ
  pub told : IsTold before.left left
  pub wrong : first_wrong left ≡ Some at
  pub read : ReadsAtMost before.left after.left most_read
  pub no_fault : after.faults ≡ before.faults

-- a read failed
pub record FailsToRead (before after : InputState) : Type 0 where
  pub fault : Rose before.faults after.faults
  pub read : ReadsAtMost before.left after.left most_read

-- memory ran out, which is taken only after a right header, tag and kind, and a number of packets that a certificate may have
pub record RunsOut (before after : InputState) : Type 0 where
  pub session : SessionData
  pub kind : ℕ
  pub count : ℕ
  pub is_session : IsSession session
  pub is_kind : kind ≤ 2
  pub few : count ≤ most_listed
  pub more : List ℕ
  pub taken : IsRead before.left after.left (begin_bytes session kind count ++ more)
  pub read : ReadsAtMost before.left after.left most_read
  pub no_fault : after.faults ≡ before.faults

-- the answer of reading a certificate
abbrev pub ReadsCertificate : InputState → InputState → Result Certificate CertEnd → Type 0
ReadsCertificate before after (Ok cert) = ReadsWhole before after cert
ReadsCertificate before after (Err (ends.Malformed at)) = FindsWrong before after at
ReadsCertificate before after (Err ends.ReadFault) = FailsToRead before after
ReadsCertificate before after (Err ends.Memory) = RunsOut before after
