-- What a relay has taken in, packet by packet.
use Rattle.std.proofs.Common.{ℕ, ◌≡◌, ◌≤◌, ◌+◌, List, ◌∷◌, [], ◌++◌, Err, refl, sym, ◌∙◌, subst, arith, length-append}
use Rattle.bats_batch.specs.Basis.{IsTaken}
use Rattle.bats_batch.specs.Held.{StandsFor, kept_at, row_count, max_kept}
use Rattle.bats_batch.specs.declared.held.HeldEnd.{HeldEnd}
use Rattle.bats_batch.specs.declared.held.HeldEnd.TheVariants as held
use Rattle.bats_model.specs.Session.{SessionData}
use Rattle.bats_model.specs.PacketFile.{HasShape}
use Rattle.bats_model.specs.Kept.{kept_count}
use Rattle.bats_model.specs.declared.packet.Packet.{Packet}
use Rattle.bats_model.specs.declared.taken.Taken.TheVariants.{Kept}
use Rattle.bats_relay.specs.Mixer.{sent_of}
use Rattle.tool_records.specs.steps.Kept.{CanHold, HoldsAs}
use Rattle.tool_records.proofs.KeptItems.{is_too_many}
use Rattle.tool_stream.specs.declared.keeping.Intake.{Intake}
use Rattle.tool_stream.specs.steps.Keeping.{HasTakenIn, taken_in}

module _ (seed : List ℕ) (session : SessionData) (packets : List Packet) (packet : Packet) (before after : Intake) (can : CanHold (taken_in seed before) session packets packet) where
  shape_held : HasShape before.mixer.held.session packet
  shape_held = subst (λ (s : SessionData). HasShape s packet) (sym can.held.held_session) can.shape

  -- a packet was taken in
  pub HasTakenIn-packet : after.session ≡ before.session → after.mixer.held.session ≡ before.mixer.held.session
      → after.mixer.seed ≡ before.mixer.seed → after.packets ≡ before.packets + 1
      → ((list : List Packet) → StandsFor list before.mixer.held → StandsFor (list ++ packet ∷ []) after.mixer.held)
      → ((list : List Packet) → StandsFor list after.mixer.held → kept_count list ≤ max_kept)
      → ((batch : ℕ) → sent_of after.mixer batch ≡ sent_of before.mixer batch)
      → HasTakenIn seed session (packets ++ packet ∷ []) after × (kept_count (packets ++ packet ∷ []) ≤ max_kept)
  HasTakenIn-packet same same_held same_seed counted stands few sent = (
    record {
      session_is = same ∙ can.held.session_is;
      held_session = same_held ∙ can.held.held_session;
      seed_is = same_seed ∙ can.held.seed_is;
      counted = omega (arith, counted, can.held.counted, length-append packets (packet ∷ []));
      stands = stands packets can.held.stands;
      unsent = λ batch. sent batch ∙ can.held.unsent batch;
    },
    few (packets ++ packet ∷ []) (stands packets can.held.stands),
  )

  -- it is one too many, or memory ran out for it
  pub not_taken_in : (end : HeldEnd)
      → (end ≡ held.Full → ((row_count before.mixer.held.batches ≡ max_kept) × IsTaken (kept_at before.mixer.held.batches packet.batch) packet Kept))
      → HoldsAs (taken_in seed after) session (packets ++ packet ∷ []) (Err end)
  not_taken_in held.Full full = is_too_many packet before.mixer.held packets shape_held (full refl).0 (full refl).1 can.held.stands
  not_taken_in held.Memory full = tt
