-- Why a part of a certificate wasn't read.
use Rattle.std.proofs.Common.{◌≡◌, ℕ, ◌+◌, ◌<◌, ◌≤◌, Bool, false, List, [], ◌++◌, length, take, Result, Ok, Err, IfErr, IsErrAnd, refl, sym, subst, ◌∙◌, length-take, ◌∷◌, arith}
use Rattle.std.proofs.lemmas.List.{take_all}
use Rattle.bats_io.specs.Faults.{Rose}
use Rattle.bats_io.specs.Streams.{InputState, IsRead, ReadsAtMost}
use Rattle.bats_io.proofs.ReadLemmas.{IsRead-nothing, IsRead-after, IsTold-after, IsTold-read, ReadsAtMost-after}
use Rattle.bats_format.specs.Filling.{IsFilled, FailsWithin}
use Rattle.bats_format.proofs.Filled.{left_of, IsTold-of}
use Rattle.bats_cert.specs.CertificateFile.{Layout, nothing, field}
use Rattle.bats_cert.specs.steps.Parts.{GoesOn, HasRead, HasReadAll, StopCause, Stops, FieldStops}
use Rattle.bats_cert.specs.declared.cert_end.CertEnd.{CertEnd}
use Rattle.bats_cert.specs.declared.cert_end.CertEnd.TheVariants as ends
use Rattle.bats_cert.proofs.Layouts.{field-cut, field-breaks, GoesOn-nothing}

-- the exit of a `?`
pub IfErr-exit : {X E : Type 0} {e : E} (P : E → Type 0) (result : Result X E) → IsErrAnd result (λ y. y ≡ e) → P e → IfErr result P
IfErr-exit P (Ok x) is p = absurd is
IfErr-exit P (Err y) is p = subst P (sym is) p

-- ---- what was read

pub HasRead-after : {before between after : InputState} (xs ys : List ℕ) → HasRead before between xs → HasRead between after ys → HasRead before after (xs ++ ys)
HasRead-after {before} {between} {after} xs ys p q = record {
  read = IsRead-after before.left between.left after.left xs ys p.read q.read;
  no_fault = q.no_fault ∙ p.no_fault;
}

pub HasRead-nothing : (state : InputState) → HasRead state state []
HasRead-nothing state = record { read = IsRead-nothing state.left; no_fault = refl }

pub HasReadAll-after : {before between after : InputState} (xs ys : List ℕ) → HasRead before between xs → HasReadAll between after ys → HasReadAll before after (xs ++ ys)
HasReadAll-after xs ys p q = record { part = HasRead-after xs ys p q.part; ended = q.ended }

-- a buffer that was filled
pub HasRead-filled : (before after : InputState) (bytes : List ℕ) (count : ℕ) → IsFilled before after bytes count → length bytes ≤ count → HasRead before after bytes
HasRead-filled before after bytes count f h = record {
  read = subst (λ (l : List ℕ). IsRead before.left after.left l) (take_all count bytes h) f.read;
  no_fault = f.no_fault;
}

at_most : (before after : InputState) (bytes : List ℕ) (most : ℕ) → HasRead before after bytes → length bytes ≤ most → ReadsAtMost before.left after.left most
at_most before after bytes most p h = record { bytes = bytes; read = p.read; within = h }

-- ---- one field

cut-stops : (before after : InputState) (at count : ℕ) (bytes : List ℕ) (rule : List ℕ → Bool) (next : List ℕ → Layout) → IsFilled before after bytes count
    → count < length bytes → Stops (field (length bytes) rule next) before after at (length bytes) (ends.Malformed at)
cut-stops before after at count bytes rule next f h =
    let size = length-take count bytes in
    record {
      cause = record {
        left = take count bytes;
        told = IsTold-read before.left after.left (take count bytes) f.read (f.end h);
        wrong = field-cut (length bytes) rule next at (take count bytes) (omega (arith, size));
        read = record { bytes = take count bytes; read = f.read; within = omega (arith, size) };
        no_fault = f.no_fault;
      };
    }

-- the input ended in the field
pub FieldStops-cut : (before after : InputState) (at count : ℕ) (bytes : List ℕ) → IsFilled before after bytes count → count < length bytes
    → FieldStops before after at (length bytes) (ends.Malformed at)
FieldStops-cut before after at count bytes f h = record { stops = λ rule next. cut-stops before after at count bytes rule next f h }

pub FieldStops-fault : (before after : InputState) (at size : ℕ) → FailsWithin before after size → FieldStops before after at size ends.ReadFault
FieldStops-fault before after at size f = record {
  stops = λ rule next. record {
    cause = record { fault = f.fault; read = record { bytes = f.read.bytes; read = f.read.read; within = omega (arith, f.read.within) } };
  };
}

pub FieldStops-memory : (state : InputState) (at size : ℕ) → FieldStops state state at size ends.Memory
FieldStops-memory state at size = record {
  stops = λ rule next. record { cause = record { no_fault = refl; read = record { bytes = []; read = IsRead-nothing state.left; within = omega arith } } };
}

-- a field of this size, by its rule
pub FieldStops-by : {before after : InputState} {at size : ℕ} {end : CertEnd} (count : ℕ) (rule : List ℕ → Bool) (next : List ℕ → Layout) → size ≡ count
    → FieldStops before after at size end → Stops (field count rule next) before after at count end
FieldStops-by {before} {after} {at} {size} {end} count rule next same f =
    subst (λ (n : ℕ). Stops (field n rule next) before after at n end) same (f.stops rule next)

-- the field breaks its rule
pub Stops-breaks : {before after : InputState} (size at : ℕ) (rule : List ℕ → Bool) (next : List ℕ → Layout) (bytes : List ℕ) → length bytes ≡ size
    → rule bytes ≡ false → HasRead before after bytes → Stops (field size rule next) before after at size (ends.Malformed at)
Stops-breaks {before} {after} size at rule next bytes count wrong p =
    subst (λ (n : ℕ). Stops (field n rule next) before after at n (ends.Malformed at)) count
    (record {
      cause = record {
        left = bytes ++ left_of after.left;
        told = IsTold-of before.left after.left bytes p.read;
        wrong = field-breaks rule next at bytes (left_of after.left) wrong;
        read = at_most before after bytes (length bytes) p (omega arith);
        no_fault = p.no_fault;
      };
    })

-- ---- behind other parts

cause-after : (layout next : Layout) (before between after : InputState) (bytes : List ℕ) (offset more most : ℕ) (end : CertEnd) → GoesOn layout bytes next
    → HasRead before between bytes → length bytes + more ≤ most → StopCause next between after (offset + length bytes) more end
    → StopCause layout before after offset most end
cause-after layout next before between after bytes offset more most (ends.Malformed at) goes p h s = record {
  left = bytes ++ s.left;
  told = IsTold-after before.left between.left bytes s.left p.read s.told;
  wrong = goes.same offset s.left ∙ s.wrong;
  read = ReadsAtMost-after before.left between.left after.left bytes more most p.read s.read h;
  no_fault = s.no_fault ∙ p.no_fault;
}
cause-after layout next before between after bytes offset more most ends.ReadFault goes p h s = record {
  fault = subst (λ (n : ℕ). Rose n after.faults) p.no_fault s.fault;
  read = ReadsAtMost-after before.left between.left after.left bytes more most p.read s.read h;
}
cause-after layout next before between after bytes offset more most ends.Memory goes p h s = record {
  no_fault = s.no_fault ∙ p.no_fault;
  read = ReadsAtMost-after before.left between.left after.left bytes more most p.read s.read h;
}

-- behind bytes that were read, by the layout that goes on as the next
pub Stops-after : {layout next : Layout} {before between after : InputState} (bytes : List ℕ) {offset place more : ℕ} (most : ℕ) {end : CertEnd} → GoesOn layout bytes next
    → HasRead before between bytes → length bytes + more ≤ most → place ≡ offset + length bytes → Stops next between after place more end
    → Stops layout before after offset most end
Stops-after {layout} {next} {before} {between} {after} bytes {offset} {place} {more} most {end} goes p h same s =
    let here = subst (λ (n : ℕ). Stops next between after n more end) same s in
    record { cause = cause-after layout next before between after bytes offset more most end goes p h here.cause }

-- after fewer bytes
pub Stops-wider : {layout : Layout} {before after : InputState} {offset more : ℕ} (most : ℕ) {end : CertEnd} → more ≤ most
    → Stops layout before after offset more end → Stops layout before after offset most end
Stops-wider {layout} {before} {after} {offset} {more} most {end} h s =
    Stops-after [] most (GoesOn-nothing layout) (HasRead-nothing before) (omega (arith, h)) (omega arith) s

-- memory ran out behind bytes that were read
pub Stops-memory : {before after : InputState} (layout : Layout) (bytes : List ℕ) (offset most : ℕ) → HasRead before after bytes → length bytes ≤ most
    → Stops layout before after offset most ends.Memory
Stops-memory {before} {after} layout bytes offset most p h =
    record { cause = record { no_fault = p.no_fault; read = at_most before after bytes most p h } }

-- ---- the end

pub HasReadAll-end : (before after : InputState) (bytes : List ℕ) → IsFilled before after bytes 0 → 0 < length bytes → HasReadAll before after []
HasReadAll-end before after bytes f h = record {
  part = record { read = f.read; no_fault = f.no_fault };
  ended = f.end h;
}

behind : (before after : InputState) (at : ℕ) (bytes : List ℕ) → length bytes ≡ 1 → HasRead before after bytes → Stops nothing before after at 1 (ends.Malformed at)
behind before after at [] one p = absurd (omega (arith, one))
behind before after at (byte ∷ more) one p =
    record {
      cause = record {
        left = byte ∷ (more ++ left_of after.left);
        told = IsTold-of before.left after.left (byte ∷ more) p.read;
        wrong = refl;
        read = at_most before after (byte ∷ more) 1 p (omega (arith, one));
        no_fault = p.no_fault;
      };
    }

-- one byte is behind the last field
pub Stops-behind : (before after : InputState) (at count : ℕ) (bytes : List ℕ) → length bytes ≡ 1 → IsFilled before after bytes count → 0 < count
    → Stops nothing before after at 1 (ends.Malformed at)
Stops-behind before after at count bytes one f h = behind before after at bytes one (HasRead-filled before after bytes count f (omega (arith, one, h)))

pub Stops-end_fault : (before after : InputState) (at : ℕ) → FailsWithin before after 1 → Stops nothing before after at 1 ends.ReadFault
Stops-end_fault before after at f = record {
  cause = record { fault = f.fault; read = record { bytes = f.read.bytes; read = f.read.read; within = omega (arith, f.read.within) } };
}
