-- What giving a packet to a node does, by what the node holds.
use Rattle.std.proofs.Common.{ℕ, ◌≡◌, ◌≢◌, ◌<◌, ◌≤◌, ◌-◌, ◌∙◌, sym, ap, refl, subst, List, length, get_or, cond, true, false, Result, Ok, Err, IfErr}
use Rattle.std.specs.Prelude.{IsErrAnd}
use Rattle.std.proofs.lemmas.Bool.{cond-true, cond-false}
use Rattle.std.proofs.lemmas.List.{get_or_default}
use Rattle.bats_model.specs.Session.{SessionData}
use Rattle.bats_model.specs.PacketFile.{HasShape}
use Rattle.bats_model.specs.declared.taken.Taken.{Taken}
use Rattle.bats_model.specs.declared.taken.Taken.TheVariants.{Kept}
use Rattle.bats_batch.specs.Basis.{IsTaken}
use Rattle.bats_batch.specs.Held.{kept_at, row_count, max_kept}
use Rattle.bats_batch.specs.declared.held.HeldEnd.{HeldEnd}
use Rattle.bats_batch.specs.declared.held.HeldEnd.TheVariants as ends
use Rattle.bats_relay.specs.Mixer.{MixerData}
use Rattle.bats_world.specs.World.{NetworkState, sink_of, received_by, made_at, no_made, is_full, with_given, after_event}
use Rattle.bats_world.specs.Standing.{WorldData, StandsFor, relay_at}
use Rattle.bats_world.specs.steps.Inside.{IsWorld}
use Rattle.bats_world.specs.steps.Ends.{end_of}
use Rattle.bats_world.specs.declared.event.WorldEnd.{WorldEnd}
use Rattle.bats_world.specs.declared.event.WorldEnd.TheVariants as causes
use Rattle.bats_world.specs.declared.event.Event.TheVariants.{Give}
use Rattle.bats_world.specs.declared.made.Made.{Made}
use Rattle.bats_world.proofs.Fullness.{full-is, full-not, full-not_taken}
use Rattle.bats_world.proofs.RelayChanges.{relay-of}

-- the cause that a holder's refusal becomes
pub cause-exit : {T : Type 0} (r : Result T WorldEnd) (held : HeldEnd) (Q : WorldEnd → Type 0) → IsErrAnd r (λ y. y ≡ end_of held)
    → (held ≡ ends.Full → Q causes.Full) → IfErr r (λ e. e ≢ causes.Memory → Q e)
cause-exit (Ok x) held Q exit full = tt
cause-exit (Err y) ends.Memory Q exit full = λ other. absurd (other exit)
cause-exit (Err y) ends.Full Q exit full = λ other. subst Q (sym exit) (full refl)

module _ (state : NetworkState) (world : WorldData) (stands : StandsFor state world) (is : IsWorld world) (place node : ℕ) (made : Made)
    (there : place < length world.pool) (read : made ≡ get_or world.pool place made)
    (passes : after_event state (Give place node) ≡ cond (is_full state node (made_at state.pool place).packet) (Err causes.Full)
    (Ok (with_given state node (made_at state.pool place).packet))) where
  here : made ≡ made_at world.pool place
  here = read ∙ get_or_default world.pool place made no_made there

  same : made ≡ made_at state.pool place
  same = here ∙ ap (λ (p : List Made). made_at p place) stands.pool

  pub given-shape : HasShape world.session made.packet
  given-shape = subst (λ (m : Made). HasShape world.session m.packet) (sym here) (is.shapes place no_made there)

  refuses : is_full state node made.packet ≡ true → after_event state (Give place node) ≡ Err causes.Full
  refuses full =
      passes ∙ cond-true (is_full state node (made_at state.pool place).packet) _ _
      (ap (λ (m : Made). is_full state node m.packet) (sym same) ∙ full)

  takes : is_full state node made.packet ≡ false → after_event state (Give place node) ≡ Ok (with_given state node made.packet)
  takes room =
      passes ∙ (cond-false (is_full state node (made_at state.pool place).packet) _ _
      (ap (λ (m : Made). is_full state node m.packet) (sym same) ∙ room)
      ∙ ap (λ (m : Made). Ok (with_given state node m.packet)) (sym same))

  module _ (last : node ≡ sink_of state) where
    shape-sink : HasShape world.sink.held.session made.packet
    shape-sink = subst (λ (s : SessionData). HasShape s made.packet) (sym is.sink) given-shape

    pub sink-refuses : row_count world.sink.held.batches ≡ max_kept
        → IsTaken (kept_at world.sink.held.batches made.packet.batch) made.packet Kept
        → after_event state (Give place node) ≡ Err causes.Full
    sink-refuses count taken =
        refuses (subst (λ (n : ℕ). is_full state n made.packet ≡ true) (sym last)
        (full-is (received_by (sink_of state) state.given) world.sink.held made.packet stands.sink.holds shape-sink count taken))

    pub sink-takes : (IsTaken (kept_at world.sink.held.batches made.packet.batch) made.packet Kept
        → row_count world.sink.held.batches < max_kept)
        → after_event state (Give place node) ≡ Ok (with_given state node made.packet)
    sink-takes room =
        takes (subst (λ (n : ℕ). is_full state n made.packet ≡ false) (sym last)
        (full-not (received_by (sink_of state) state.given) world.sink.held made.packet stands.sink.holds shape-sink room))

  module _ (low : 1 ≤ node) (high : node ≤ length world.relays) where
    abbrev relay : MixerData
    relay = relay_at world.relays (node - 1)

    shape-relay : HasShape relay.held.session made.packet
    shape-relay = subst (λ (s : SessionData). HasShape s made.packet)
        (stands.session ∙ sym (relay-of state world stands node low high).session) given-shape

    pub relay-refuses : row_count relay.held.batches ≡ max_kept
        → IsTaken (kept_at relay.held.batches made.packet.batch) made.packet Kept
        → after_event state (Give place node) ≡ Err causes.Full
    relay-refuses count taken =
        refuses (full-is (received_by node state.given) relay.held made.packet (relay-of state world stands node low high).held
        shape-relay count taken)

    pub relay-takes : (taken : Taken) → IsTaken (kept_at relay.held.batches made.packet.batch) made.packet taken
        → (taken ≡ Kept → row_count relay.held.batches < max_kept)
        → after_event state (Give place node) ≡ Ok (with_given state node made.packet)
    relay-takes taken became room =
        takes (full-not_taken (received_by node state.given) relay.held made.packet (relay-of state world stands node low high).held
        shape-relay taken became room)
