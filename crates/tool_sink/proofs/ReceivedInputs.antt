-- An input that was received, packet by packet and whole.
use Rattle.std.proofs.Common.{ℕ, ◌≡◌, ◌≤◌, ◌<◌, ◌∷◌, ◌++◌, List, [], Option, None, Some, Result, Ok, Err, refl, sym, ◌∙◌, subst}
use Rattle.std.specs.Prelude.{⊤}
use Rattle.std.specs.Result.{IsErrAnd}
use Rattle.std.proofs.lemmas.Result.{err_from_is_err_and}
use Rattle.bats_batch.specs.Basis.{IsTaken}
use Rattle.bats_batch.specs.Held.{kept_at, row_count, max_kept}
use Rattle.bats_batch.specs.declared.held.HeldEnd.{HeldEnd}
use Rattle.bats_batch.specs.declared.held.HeldEnd.TheVariants as held
use Rattle.bats_decode.specs.Decoder.{Collects, StandsFor}
use Rattle.bats_model.specs.Session.{SessionData}
use Rattle.bats_model.specs.PacketFile.{HasShape}
use Rattle.bats_model.specs.Kept.{kept_count}
use Rattle.bats_model.specs.declared.packet.Packet.{Packet}
use Rattle.bats_model.specs.declared.taken.Taken.TheVariants.{Kept}
use Rattle.tool_run.specs.declared.finish.Finish.{Finish}
use Rattle.tool_run.specs.declared.stop.Stop.{Stop}
use Rattle.tool_run.specs.Attempt.{AttemptsUncounted}
use Rattle.tool_run.specs.Streams.{Ends}
use Rattle.tool_records.specs.Keeping.{StopsKeeping, keeping_promise}
use Rattle.tool_records.specs.Walk.{WalksToEnd}
use Rattle.tool_records.specs.steps.Kept.{CanHold, HoldsAs, Keeps, KeepsAll}
use Rattle.tool_records.proofs.KeptItems.{few_with, is_too_many}
use Rattle.tool_sink.specs.declared.receiving.Intake.{Intake}
use Rattle.tool_sink.specs.declared.receiving.Reception.{Reception}
use Rattle.tool_sink.specs.declared.receiving.Reception.TheVariants as receptions
use Rattle.tool_sink.specs.steps.Receiving.{HasReceived}
use Rattle.tool_sink.specs.steps.Reception.{ReceivesAll, received_in}

-- ---- a packet more

-- an intake that was made for the session
pub received-nothing : (session : SessionData) (intake : Intake) → intake.session ≡ session → intake.decoder.held.session ≡ intake.session
    → StandsFor [] intake.decoder → HasReceived session [] intake
received-nothing session intake same held stands = record { session_is = same; held_session = held ∙ same; stands = stands }

module _ (session : SessionData) (packets : List Packet) (packet : Packet) (before after : Intake) (can : CanHold (received_in before) session packets packet) where
  shape_held : HasShape before.decoder.held.session packet
  shape_held = subst (λ (s : SessionData). HasShape s packet) (sym can.held.held_session) can.shape

  -- it was received
  held-received : after.session ≡ before.session → after.decoder.held.session ≡ before.decoder.held.session
      → ((list : List Packet) → StandsFor list before.decoder → StandsFor (list ++ packet ∷ []) after.decoder)
      → (IsTaken (kept_at before.decoder.held.batches packet.batch) packet Kept → row_count before.decoder.held.batches < max_kept)
      → HasReceived session (packets ++ packet ∷ []) after × (kept_count (packets ++ packet ∷ []) ≤ max_kept)
  held-received same same_held stands room = (
    record {
      session_is = same ∙ can.held.session_is;
      held_session = same_held ∙ can.held.held_session;
      stands = stands packets can.held.stands;
    },
    few_with packet before.decoder.held packets shape_held can.held.stands.holds room can.few,
  )

  -- it is one too many
  full-received : row_count before.decoder.held.batches ≡ max_kept
      → IsTaken (kept_at before.decoder.held.batches packet.batch) packet Kept → ¬ (kept_count (packets ++ packet ∷ []) ≤ max_kept)
  full-received full is = is_too_many packet before.decoder.held packets shape_held full is can.held.stands.holds

  -- what comes of its offer
  pub received-as : (result : Result ⊤ HeldEnd) → after.session ≡ before.session → Collects before.decoder after.decoder packet result
      → HoldsAs (received_in after) session (packets ++ packet ∷ []) result
  received-as (Ok done) same k = held-received same k.session k.stands k.room
  received-as (Err held.Full) same k = let full = k.full refl in full-received full.0 full.1
  received-as (Err held.Memory) same k = tt

-- ---- the whole input

ended : (first last : ℕ) (start now : Ends) (finish : Finish) → AttemptsUncounted (keeping_promise StopsKeeping) start now (Ok finish)
    → ReceivesAll first last start now (Ok (receptions.Ended finish))
ended first last start now finish a = record { as_far = a }

-- a `?` that passes on what stopped the run
pub ReceivesAll-cut : (first last : ℕ) (start now : Ends) (stop : Stop) (result : Result Reception Stop) → IsErrAnd result (λ y. y ≡ stop)
    → AttemptsUncounted (keeping_promise StopsKeeping) start now (Err stop) → ReceivesAll first last start now result
ReceivesAll-cut first last start now stop result is a =
    let e = err_from_is_err_and result is in
    subst (λ (r : Result Reception Stop). ReceivesAll first last start now r) (sym e.1)
    (subst (λ (x : Stop). ReceivesAll first last start now (Err x)) (sym e.2) (record { as_far = a }))

-- how the run ends where it isn't taken whole
pub ReceivesAll-unopened : (first last : ℕ) (start now : Ends) (finish : Finish)
    → AttemptsUncounted (keeping_promise StopsKeeping) start now (Ok finish) → ReceivesAll first last start now (Ok (receptions.Ended finish))
ReceivesAll-unopened first last start now finish a = ended first last start now finish a

pub ReceivesAll-kept : (intake : Intake) (first last : ℕ) (start now : Ends) (answer : Option Finish) (finish : Finish) → answer ≡ Some finish
    → KeepsAll (received_in intake) first last start now (Ok answer) → ReceivesAll first last start now (Ok (receptions.Ended finish))
ReceivesAll-kept intake first last start now answer finish e k =
    ended first last start now finish (subst (λ (o : Option Finish). KeepsAll (received_in intake) first last start now (Ok o)) e k).as_far

pub ReceivesAll-whole : (intake : Intake) (first last : ℕ) (start now : Ends) (answer : Option Finish) → answer ≡ None
    → KeepsAll (received_in intake) first last start now (Ok answer) → ReceivesAll first last start now (Ok (receptions.Whole intake))
ReceivesAll-whole intake first last start now answer e k =
    record { as_far = (subst (λ (o : Option Finish). KeepsAll (received_in intake) first last start now (Ok o)) e k).as_far }

-- ---- what a reception says

pub ReceivesAll-all : (first last : ℕ) (start now : Ends) (reception : Reception) (intake : Intake) → reception ≡ receptions.Whole intake
    → ReceivesAll first last start now (Ok reception) → WalksToEnd (Keeps (received_in intake) first last) start now
ReceivesAll-all first last start now reception intake e h = (subst (λ (r : Reception). ReceivesAll first last start now (Ok r)) e h).as_far

pub ReceivesAll-ended : (first last : ℕ) (start now : Ends) (reception : Reception) (finish : Finish) → reception ≡ receptions.Ended finish
    → ReceivesAll first last start now (Ok reception) → AttemptsUncounted (keeping_promise StopsKeeping) start now (Ok finish)
ReceivesAll-ended first last start now reception finish e h = (subst (λ (r : Reception). ReceivesAll first last start now (Ok r)) e h).as_far
