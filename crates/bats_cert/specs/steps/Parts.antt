-- How far a certificate was read, part by part.
use Rattle.std.specs.Prelude.{ℕ, ◌≡◌, ◌+◌, Bool, List, ◌++◌, length, Some}
use Rattle.bats_io.specs.Faults.{Rose}
use Rattle.bats_io.specs.Streams.{InputState, IsTold, IsRead, IsEnded, ReadsAtMost}
use Rattle.bats_cert.specs.CertificateFile.{Layout, field}
use Rattle.bats_cert.specs.declared.cert_end.CertEnd.{CertEnd}
use Rattle.bats_cert.specs.declared.cert_end.CertEnd.TheVariants as ends

-- behind these bytes, whatever follows, the one layout goes on as the other
pub record GoesOn (layout : Layout) (bytes : List ℕ) (next : Layout) : Type 0 where
  pub same : (at : ℕ) (rest : List ℕ) → layout at (bytes ++ rest) ≡ next (at + length bytes) rest

-- these bytes were read, and no read failed
pub record HasRead (before after : InputState) (bytes : List ℕ) : Type 0 where
  pub read : IsRead before.left after.left bytes
  pub no_fault : after.faults ≡ before.faults

-- and nothing is left
pub record HasReadAll (before after : InputState) (bytes : List ℕ) : Type 0 where
  pub part : HasRead before after bytes
  pub ended : IsEnded after.left

-- by this layout, from this offset on, what was left is wrong at a place
pub record IsWrongAt (layout : Layout) (before after : InputState) (offset most at : ℕ) : Type 0 where
  pub left : List ℕ
  pub told : IsTold before.left left
  pub wrong : layout offset left ≡ Some at
  pub read : ReadsAtMost before.left after.left most
  pub no_fault : after.faults ≡ before.faults

-- a read failed
pub record HasFault (before after : InputState) (most : ℕ) : Type 0 where
  pub fault : Rose before.faults after.faults
  pub read : ReadsAtMost before.left after.left most

-- memory ran out
pub record LacksMemory (before after : InputState) (most : ℕ) : Type 0 where
  pub no_fault : after.faults ≡ before.faults
  pub read : ReadsAtMost before.left after.left most

abbrev pub StopCause : Layout → InputState → InputState → ℕ → ℕ → CertEnd → Type 0
StopCause layout before after offset most (ends.Malformed at) = IsWrongAt layout before after offset most at
StopCause layout before after offset most ends.ReadFault = HasFault before after most
StopCause layout before after offset most ends.Memory = LacksMemory before after most

-- why what this layout says wasn't read from this offset on, after at most so many bytes
pub record Stops (layout : Layout) (before after : InputState) (offset most : ℕ) (end : CertEnd) : Type 0 where
  pub cause : StopCause layout before after offset most end

-- why a field of this size wasn't read, whatever its rule is
pub record FieldStops (before after : InputState) (offset size : ℕ) (end : CertEnd) : Type 0 where
  pub stops : (rule : List ℕ → Bool) (next : List ℕ → Layout) → Stops (field size rule next) before after offset size end
