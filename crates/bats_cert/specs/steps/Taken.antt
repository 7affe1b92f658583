-- Parts of a certificate that were read.
use Rattle.std.specs.Prelude.{ℕ, ◌≡◌, ◌≤◌, List, All, length}
use Rattle.bats_io.specs.Streams.{InputState}
use Rattle.bats_model.specs.Session.{SessionData, IsSession}
use Rattle.bats_model.specs.PacketFile.{HasShape}
use Rattle.bats_model.specs.Records.{packet_record}
use Rattle.bats_model.specs.declared.packet.Packet.{Packet}
use Rattle.gf_core.specs.Bytes.{AreBytes}
use Rattle.gf_rows.specs.Matrix.{Grid, IsMatrix}
use Rattle.bats_cert.specs.Shown.{IsFitBody, most_listed}
use Rattle.bats_cert.specs.CertificateFile.{kind_of, begin_bytes, packets_bytes, rows_bytes, body_bytes}
use Rattle.bats_cert.specs.steps.Parts.{HasRead, HasReadAll}
use Rattle.bats_cert.specs.declared.certificate.Body.{Body}
use Rattle.bats_cert.specs.declared.beginning.Kind.{Kind}
use Rattle.bats_cert.specs.declared.beginning.Kind.TheVariants as kinds

-- the byte of a kind
abbrev pub byte_of : Kind → ℕ
byte_of kinds.One = 0
byte_of kinds.Two = 1
byte_of kinds.Zero = 2

-- what stands before the packets was read
pub record HasBegin (before after : InputState) (session : SessionData) (kind : Kind) (count : ℕ) : Type 0 where
  pub is_session : IsSession session
  pub few : count ≤ most_listed
  pub part : HasRead before after (begin_bytes session (byte_of kind) count)

-- the bytes are the packet's record
pub record IsPacketOf (session : SessionData) (written : List ℕ) (packet : Packet) : Type 0 where
  pub shape : HasShape session packet
  pub bytes : packet_record packet.batch packet.coefs packet.payload ≡ written

-- the packet's record was read
pub record HasPacket (before after : InputState) (session : SessionData) (packet : Packet) : Type 0 where
  pub shape : HasShape session packet
  pub part : HasRead before after (packet_record packet.batch packet.coefs packet.payload)

-- so many packets' records were read
pub record HasPackets (before after : InputState) (session : SessionData) (count : ℕ) (packets : List Packet) : Type 0 where
  pub shapes : All (HasShape session) packets
  pub number : length packets ≡ count
  pub part : HasRead before after (packets_bytes packets)

-- a matrix of so many rows and columns
pub record HasSize (rows : Grid) (count cols : ℕ) : Type 0 where
  pub matrix : IsMatrix rows
  pub number : length rows.rows ≡ count
  pub width : rows.cols ≡ cols

-- so many rows were read, each with so many factors
pub record HasRows (before after : InputState) (count cols : ℕ) (rows : Grid) : Type 0 where
  pub size : HasSize rows count cols
  pub part : HasRead before after (rows_bytes rows.rows)

-- and nothing is left
pub record HasLastRows (before after : InputState) (count cols : ℕ) (rows : Grid) : Type 0 where
  pub size : HasSize rows count cols
  pub all : HasReadAll before after (rows_bytes rows.rows)

-- so many bytes were read
pub record HasBytes (before after : InputState) (size : ℕ) (bytes : List ℕ) : Type 0 where
  pub number : length bytes ≡ size
  pub are_bytes : AreBytes bytes
  pub part : HasRead before after bytes

-- the body was read, which fits so many packets of the session, and nothing is left
pub record HasBody (before after : InputState) (session : SessionData) (kind : Kind) (count : ℕ) (body : Body) : Type 0 where
  pub same_kind : kind_of body ≡ byte_of kind
  pub fit : (packets : List Packet) → length packets ≡ count → IsFitBody session packets body
  pub all : HasReadAll before after (body_bytes body)

-- bytes behind the packets at most, and one more
abbrev pub most_of_body : ℕ
most_of_body = 50327556
