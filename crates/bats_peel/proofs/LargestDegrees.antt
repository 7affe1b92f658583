-- The degree of each held batch is at most the largest among those with a kept packet.
use Rattle.std.proofs.Common.{ℕ, ◌≡◌, ◌<◌, ◌≤◌, inl, inr, Bool, List, [], ◌∷◌, length, ap, subst, arith}
use Rattle.std.specs.Prelude.{◌==◌, if◌then◌else◌, max, fold, filter}
use Rattle.std.proofs.Math.Nat.{le-max_left, le-max_right}
use Rattle.std.proofs.lemmas.Bool.{eqb-true, cases_Bool}
use Rattle.bats_model.specs.Session.{SessionData}
use Rattle.bats_model.specs.Batch.{batch_of, degree_of}
use Rattle.bats_model.specs.Kept.{new_after, kept_of}
use Rattle.bats_model.specs.Peeling.{largest_degree}
use Rattle.bats_model.specs.declared.packet.Packet.{Packet}
use Rattle.bats_batch.specs.Held.{HeldData, StandsFor, no_batch, batch_at}
use Rattle.bats_peel.specs.steps.Work.{AreDegreesWithin}
use Rattle.bats_peel.proofs.HeldSteps.{kept_here}

-- the largest of a start and some values
largest : (Packet → ℕ) → ℕ → List Packet → ℕ
largest f start packets = fold (λ most packet. max most (f packet)) start packets

largest-start : (f : Packet → ℕ) (start : ℕ) (packets : List Packet) → start ≤ largest f start packets
unfolding largest
largest-start f start [] = omega arith
largest-start f start (packet ∷ packets) = omega (arith, le-max_left start (f packet), largest-start f (max start (f packet)) packets)

-- where some packet of a batch is among them
largest-within : (f : Packet → ℕ) (start number degree : ℕ) (packets : List Packet) → ((packet : Packet) → packet.batch ≡ number → f packet ≡ degree)
    → 0 < length (filter (λ packet. packet.batch == number) packets) → degree ≤ largest f start packets
unfolding largest
largest-within f start number degree [] same some = absurd (omega (arith, some))
largest-within f start number degree (packet ∷ packets) same some =
    elim (cases_Bool (packet.batch == number)) [
      | inl own ↦
          omega (
            arith,
            same packet (eqb-true packet.batch number own),
            le-max_right start (f packet),
            largest-start f (max start (f packet)) packets,
          )
      | inr other ↦
          largest-within f (max start (f packet)) number degree packets same
          (subst (λ (b : Bool). 0 < length (if b then (packet ∷ filter (λ packet. packet.batch == number) packets) else (filter (λ packet. packet.batch == number) packets))) other some)
    ]

pub degrees_within : (session : SessionData) (packets : List Packet) (held : HeldData) → StandsFor packets held
    → AreDegreesWithin session held.batches (largest_degree session packets)
unfolding largest
degrees_within session packets held stands b within =
    let number : ℕ = (batch_at held.batches b).number in
    let some : 0 < length (kept_of number packets) =
    subst (λ (kept : List Packet). 0 < length kept) (kept_here packets held stands b within) (stands.some b no_batch within) in
    largest-within (λ packet. degree_of (batch_of session packet.batch)) 0 number (degree_of (batch_of session number)) (new_after [] packets)
    (λ packet same. ap (λ (n : ℕ). degree_of (batch_of session n)) same) some
