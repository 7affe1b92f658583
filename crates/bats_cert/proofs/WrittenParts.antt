-- Parts that are written one after another.
use Rattle.std.proofs.Common.{◌≡◌, ℕ, ◌+◌, ◌<◌, false, List, [], ◌∷◌, ◌++◌, length, take, drop, get_or, flat_map, Result, Ok, Err, IsErrAnd, refl, sym, ap, subst, ◌∙◌, append_assoc, length-append, arith}
use Rattle.std.proofs.lemmas.List.{take-append-drop, drop_more}
use Rattle.std.proofs.lemmas.List.Concat.{flat_map-append}
use Rattle.bats_io.specs.Faults.{Rose}
use Rattle.bats_io.specs.Sink.{Appends}
use Rattle.bats_io.specs.Streams.{OutputState}
use Rattle.bats_io.proofs.Appended.{appended-nil, Appends-after, AppendsPrefix-longer, AppendsPrefix-after}
use Rattle.bats_format.specs.declared.writing.WriteFault.{WriteFault}
use Rattle.std.specs.Int.{w32, to_be_bytes}
use Rattle.bats_model.specs.Session.{SessionData}
use Rattle.bats_model.specs.Records.{header_record}
use Rattle.bats_cert.specs.CertificateFile.{certificate_tag, kind_of, begin_bytes, packets_bytes, body_bytes, certificate_bytes}
use Rattle.bats_model.specs.declared.packet.Packet.{Packet}
use Rattle.bats_cert.specs.declared.certificate.Certificate.{Certificate}
use Rattle.bats_cert.specs.steps.Written.{HasWritten, HasFailed, Writes}

pub HasWritten-nothing : (state : OutputState) → HasWritten state state []
HasWritten-nothing state = record {
  appended = sym (appended-nil state.written);
  unflushed = λ h. absurd (omega (arith, h));
  still_unflushed = λ h. h;
  no_fault = refl;
}

still : (before after : OutputState) (bytes : List ℕ) → (0 < length bytes → after.flushed ≡ false) → (length bytes ≡ 0 → after.flushed ≡ before.flushed)
    → before.flushed ≡ false → after.flushed ≡ false
still before after [] some none h = none refl ∙ h
still before after (byte ∷ bytes) some none h = some (omega arith)

pub HasWritten-of : {before after : OutputState} (bytes : List ℕ) → Appends before.written after.written bytes → (0 < length bytes → after.flushed ≡ false)
    → (length bytes ≡ 0 → after.flushed ≡ before.flushed) → after.faults ≡ before.faults → HasWritten before after bytes
HasWritten-of {before} {after} bytes appends some none no_fault = record {
  appended = appends;
  unflushed = some;
  still_unflushed = still before after bytes some none;
  no_fault = no_fault;
}

-- a record, which isn't empty
pub HasWritten-record : {before after : OutputState} (bytes : List ℕ) → Appends before.written after.written bytes → after.flushed ≡ false
    → after.faults ≡ before.faults → HasWritten before after bytes
HasWritten-record bytes appends flushed no_fault = record {
  appended = appends;
  unflushed = λ h. flushed;
  still_unflushed = λ h. flushed;
  no_fault = no_fault;
}

pub begin_bytes-written : (session : SessionData) (kind count : ℕ) (front : List ℕ) → front ≡ certificate_tag ∷ kind ∷ [] ++ to_be_bytes w32 count
    → header_record session ++ front ≡ begin_bytes session kind count
unfolding begin_bytes
begin_bytes-written session kind count front is =
    ap (λ (l : List ℕ). header_record session ++ l) is
    ∙ sym (append_assoc (header_record session) (certificate_tag ∷ kind ∷ []) (to_be_bytes w32 count))

-- no certificate's file is empty
pub some_bytes_of : (cert : Certificate) → 0 < length (certificate_bytes cert)
unfolding certificate_bytes begin_bytes header_record
some_bytes_of cert = omega arith

some_of : (xs ys : List ℕ) (before between after : OutputState) → HasWritten before between xs → HasWritten between after ys → 0 < length (xs ++ ys)
    → after.flushed ≡ false
some_of xs [] before between after p q h =
    q.still_unflushed (p.unflushed (omega (arith, h, length-append xs [])))
some_of xs (y ∷ ys) before between after p q h = q.unflushed (omega arith)

pub HasWritten-after : {before between after : OutputState} (xs ys : List ℕ) → HasWritten before between xs → HasWritten between after ys
    → HasWritten before after (xs ++ ys)
HasWritten-after {before} {between} {after} xs ys p q = record {
  appended = Appends-after before.written xs ys p.appended q.appended;
  unflushed = some_of xs ys before between after p q;
  still_unflushed = λ h. q.still_unflushed (p.still_unflushed h);
  no_fault = q.no_fault ∙ p.no_fault;
}

pub HasFailed-after : {before between after : OutputState} (xs ys : List ℕ) → HasWritten before between xs → HasFailed between after ys
    → HasFailed before after (xs ++ ys)
HasFailed-after {before} {between} {after} xs ys p q = record {
  fault = subst (λ (n : ℕ). Rose n after.faults) p.no_fault q.fault;
  prefix = AppendsPrefix-after xs p.appended q.prefix;
}

pub HasFailed-longer : {before after : OutputState} (xs more : List ℕ) → HasFailed before after xs → HasFailed before after (xs ++ more)
HasFailed-longer xs more p = record { fault = p.fault; prefix = AppendsPrefix-longer more p.prefix }

-- the exit of a `?`
pub Writes-exit : {before after : OutputState} {bytes : List ℕ} {e : WriteFault} (result : Result (Unit {0}) WriteFault) → IsErrAnd result (λ y. y ≡ e)
    → HasFailed before after bytes → Writes before after bytes result
Writes-exit (Ok x) is p = absurd is
Writes-exit (Err y) is p = record { as_far = p }

-- one piece of many
pub pieces-split : {X : Type 0} (f : X → List ℕ) (xs : List X) (i : ℕ) (d x : X) → i < length xs → get_or xs i d ≡ x
    → flat_map f (take i xs) ++ f x ++ flat_map f (drop (i + 1) xs) ≡ flat_map f xs
pieces-split f xs i d x h own =
    append_assoc (flat_map f (take i xs)) (f x) (flat_map f (drop (i + 1) xs))
    ∙ ap (λ y. flat_map f (take i xs) ++ (f y ++ flat_map f (drop (i + 1) xs))) (sym own)
    ∙ ap (λ rest. flat_map f (take i xs) ++ flat_map f rest) (sym (drop_more xs i d h))
    ∙ sym (flat_map-append f (take i xs) (drop i xs))
    ∙ ap (λ rest. flat_map f rest) (take-append-drop i xs)

-- the parts of a certificate
pub certificate_parts : (cert : Certificate) (kind count : ℕ) (packets : List Packet) → kind ≡ kind_of cert.body → count ≡ length cert.packets → packets ≡ cert.packets
    → begin_bytes cert.session kind count ++ packets_bytes packets ++ body_bytes cert.body ≡ certificate_bytes cert
unfolding certificate_bytes
certificate_parts cert kind count packets same number list =
    λ i. begin_bytes cert.session (same i) (number i) ++ packets_bytes (list i) ++ body_bytes cert.body
