-- In each state that events lead to, the file agrees with each packet that was made or given.
use Rattle.std.proofs.Common.{ℕ, ◌≡◌, ◌<◌, ◌^◌, ◌==◌, sym, ap, refl, subst, List, [], ◌∷◌, length, not, ◌||◌}
use Rattle.std.specs.Prelude.{All, Ok, nat_lt}
use Rattle.std.specs.List.{filter}
use Rattle.std.proofs.lemmas.Bool.{ltb-true}
use Rattle.std.proofs.lemmas.List.Elements.{All-nil, All-push, All-map, All-weaker, All-filter}
use Rattle.bats_model.specs.Session.{SessionData}
use Rattle.bats_model.specs.Batch.{batch_of}
use Rattle.bats_model.specs.Agreement.{IsFile, Agrees, AgreesWithAll}
use Rattle.bats_model.specs.PacketFile.{HasShape}
use Rattle.bats_model.specs.Kept.{kept_of}
use Rattle.bats_model.specs.declared.packet.Packet.{Packet}
use Rattle.bats_model.proofs.KeptSpans.{All-kept_of}
use Rattle.bats_model.proofs.SystematicBatches.{number-batch_of}
use Rattle.bats_model.proofs.UnitVectors.{length-unit_vector, unit_vector-lt}
use Rattle.bats_model.proofs.SymbolValues.{coded_payload-lt}
use Rattle.bats_encoder.proofs.Agreements.{Agrees-coded, length-coded_payload}
use Rattle.bats_relay.proofs.OutputRows.{HasShape-output}
use Rattle.bats_relay.proofs.OutputAgreement.{Agrees-taken}
use Rattle.bats_world.specs.World.{NetworkState, Given, opening, sink_of, seed_of, has_link, received_by, made_count, made_at, no_made, source_packet, next_output, is_full, with_made, with_given, after_event, max_pool, IsEvent, Leads, IsReached}
use Rattle.bats_world.specs.declared.event.Event.{Event}
use Rattle.bats_world.specs.declared.event.Event.TheVariants.{Send, Mix, Give}
use Rattle.bats_world.specs.declared.made.Made.{Made}
use Rattle.bats_world.proofs.Causes.{passed, value_or, not-false}

-- a packet of the session that the file agrees with
pub record IsHonest (session : SessionData) (file : List ℕ) (packet : Packet) : Type 0 where
  pub shape : HasShape session packet
  pub agrees : Agrees session file packet

-- all packets of a state are
pub record AreHonest (state : NetworkState) : Type 0 where
  pub file : IsFile state.session state.file
  pub pool : All (λ made. IsHonest state.session state.file made.packet) state.pool
  pub given : All (λ one. IsHonest state.session state.file one.packet) state.given

-- ---- what a node was given

pub All-received : (P : Packet → Type 0) (node : ℕ) (given : List Given) → All (λ one. P one.packet) given
    → All P (received_by node given)
All-received P node given all =
    All-map P (λ (one : Given). one.packet) (filter (λ one. one.node == node) given)
    (All-filter (λ (one : Given). one.node == node) (λ one. P one.packet) given all)

module _ (state : NetworkState) (honest : AreHonest state) (node : ℕ) where
  pub received-shapes : All (HasShape state.session) (received_by node state.given)
  received-shapes = All-weaker (IsHonest state.session state.file) (HasShape state.session) (λ p is. is.shape)
      (received_by node state.given) (All-received (IsHonest state.session state.file) node state.given honest.given)

  pub received-agree : AgreesWithAll state.session (received_by node state.given) state.file
  received-agree = record {
    is_file = honest.file;
    each = All-weaker (IsHonest state.session state.file) (Agrees state.session state.file) (λ p is. is.agrees)
        (received_by node state.given) (All-received (IsHonest state.session state.file) node state.given honest.given);
  }

-- ---- what nodes make

pub HasShape-source : (session : SessionData) (file : List ℕ) (batch column : ℕ) → batch < 2 ^ 32 → IsFile session file
    → HasShape session (source_packet session file batch column)
HasShape-source session file batch column range f = record {
  batch = range;
  coefs = length-unit_vector session.m column;
  payload = length-coded_payload session file (batch_of session batch) column;
  coef_bytes = unit_vector-lt session.m column;
  payload_bytes = coded_payload-lt session file batch column f.bytes;
}

pub Agrees-source : (session : SessionData) (file : List ℕ) (batch column : ℕ) → IsFile session file → column < session.m
    → Agrees session file (source_packet session file batch column)
Agrees-source session file batch column f low =
    let number_is = number-batch_of session batch in
    Agrees-coded session file (batch_of session batch) column (source_packet session file batch column) f
    (ap (batch_of session) (sym number_is)) low (sym number_is) refl refl

IsHonest-output : (state : NetworkState) (node batch : ℕ) → AreHonest state → batch < 2 ^ 32
    → IsHonest state.session state.file (next_output state node batch)
IsHonest-output state node batch honest range =
    let received : List Packet = received_by node state.given in
    let shapes : All (HasShape state.session) received = received-shapes state honest node in
    record {
      shape = HasShape-output state.session (seed_of state node) batch (made_count node batch state.pool) (kept_of batch received) range
          (All-kept_of (HasShape state.session) batch received shapes);
      agrees = Agrees-taken state.session (seed_of state node) batch (made_count node batch state.pool) received state.file range shapes
          (received-agree state honest node);
    }

-- ---- one event

AreHonest-made : (state : NetworkState) (node : ℕ) (packet : Packet) → AreHonest state → IsHonest state.session state.file packet
    → AreHonest (with_made state node packet)
AreHonest-made state node packet honest is = record {
  file = honest.file;
  pool = All-push (λ (made : Made). IsHonest state.session state.file made.packet) state.pool
      (record { maker = node; packet = packet }) honest.pool is;
  given = honest.given;
}

AreHonest-given : (state : NetworkState) (node : ℕ) (packet : Packet) → AreHonest state → IsHonest state.session state.file packet
    → AreHonest (with_given state node packet)
AreHonest-given state node packet honest is = record {
  file = honest.file;
  pool = honest.pool;
  given = All-push (λ (one : Given). IsHonest state.session state.file one.packet) state.given
      (record { node = node; packet = packet }) honest.given is;
}

AreHonest-after : (state : NetworkState) (event : Event) (next : NetworkState) → AreHonest state → IsEvent event
    → after_event state event ≡ Ok next → AreHonest next
unfolding after_event
AreHonest-after state (Send batch column) next honest range is =
    let low = passed (not (nat_lt column state.session.m)) _ _ next is in
    let room = passed (not (nat_lt (length state.pool) max_pool)) _ _ next low.1 in
    subst AreHonest (ap (value_or next) room.1)
    (AreHonest-made state 0 (source_packet state.session state.file batch column) honest (record {
      shape = HasShape-source state.session state.file batch column range honest.file;
      agrees = Agrees-source state.session state.file batch column honest.file
          (ltb-true column state.session.m (not-false _ low.0));
    }))
AreHonest-after state (Mix node batch) next honest range is =
    let known = passed (nat_lt (sink_of state) node) _ _ next is in
    let relay = passed (node == 0 || node == sink_of state) _ _ next known.1 in
    let held = passed (length (kept_of batch (received_by node state.given)) == 0) _ _ next relay.1 in
    let room = passed (not (nat_lt (length state.pool) max_pool)) _ _ next held.1 in
    subst AreHonest (ap (value_or next) room.1)
    (AreHonest-made state node (next_output state node batch) honest (IsHonest-output state node batch honest range))
AreHonest-after state (Give place node) next honest range is =
    let there = passed (not (nat_lt place (length state.pool))) _ _ next is in
    let known = passed (nat_lt (sink_of state) node) _ _ next there.1 in
    let linked = passed (not (has_link state.links (made_at state.pool place).maker node)) _ _ next known.1 in
    let room = passed (is_full state node (made_at state.pool place).packet) _ _ next linked.1 in
    subst AreHonest (ap (value_or next) room.1)
    (AreHonest-given state node (made_at state.pool place).packet honest
    (honest.pool place no_made (ltb-true place (length state.pool) (not-false _ there.0))))

-- ---- events one after another

AreHonest-leads : (start : NetworkState) (events : List Event) (state : NetworkState) → AreHonest start
    → Leads start events state → AreHonest state
AreHonest-leads start [] state honest is = subst AreHonest is honest
AreHonest-leads start (event ∷ events) state honest (next, (range, takes, leads)) =
    AreHonest-leads next events state (AreHonest-after start event next honest range takes) leads

pub AreHonest-reached : (state : NetworkState) → IsFile state.session state.file → IsReached state → AreHonest state
AreHonest-reached state f reached =
    AreHonest-leads (opening state.session state.file state.seeds state.links) reached.events state
    (record {
      file = f;
      pool = All-nil (λ (made : Made). IsHonest state.session state.file made.packet);
      given = All-nil (λ (one : Given). IsHonest state.session state.file one.packet);
    })
    reached.leads
