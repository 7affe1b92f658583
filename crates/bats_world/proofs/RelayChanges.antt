-- Reading and writing one of the relays.
use Rattle.std.proofs.Common.{ℕ, ◌≡◌, ◌<◌, ◌≤◌, ◌-◌, ◌∙◌, ap, subst, List, [], ◌∷◌, ◌++◌, length, get_or, set, take, drop, arith, append-nil, Result, Ok, Err, OnOk, true, false, Option, Some, None, MatchOption, IfSome}
use Rattle.std.specs.Option.{is_some}
use Rattle.std.proofs.lemmas.List.{get_or-set_same, take_all, drop_all, get_or-map, get_or_default}
use Rattle.bats_model.specs.Session.{SessionData}
use Rattle.bats_model.specs.Kept.{kept_of}
use Rattle.bats_model.specs.PacketFile.{HasShape}
use Rattle.bats_model.specs.declared.packet.Packet.{Packet}
use Rattle.bats_model.specs.declared.taken.Taken.{Taken}
use Rattle.bats_model.specs.declared.taken.Taken.TheVariants.{Kept}
use Rattle.bats_batch.specs.Basis.{IsTaken}
use Rattle.bats_batch.specs.Held.{kept_at, row_count, max_kept}
use Rattle.bats_batch.specs.Held.{StandsFor as HoldsFor}
use Rattle.bats_batch.specs.Offers.{Offers}
use Rattle.bats_batch.specs.declared.held.HeldEnd.{HeldEnd}
use Rattle.bats_batch.specs.declared.held.HeldEnd.TheVariants.{Full}
use Rattle.bats_model.specs.Relay.{relay_output}
use Rattle.bats_relay.specs.Mixer.{MixerData, sent_of, HasSentOne}
use Rattle.bats_relay.proofs.OutputRows.{batch-output}
use Rattle.bats_world.specs.World.{NetworkState, received_by, next_output, seed_of, made_count}
use Rattle.bats_world.specs.Standing.{WorldData, StandsFor, IsRelayOf, relay_at}
use Rattle.bats_world.specs.steps.Places.{ChangesAt}
use Rattle.bats_world.specs.steps.Relays.{new_relay, new_relays}

pub OnOk-map : {T E : Type 0} {P Q : Type 0} (r : Result T E) → (P → Q) → OnOk r P → OnOk r Q
OnOk-map (Ok x) f h = f h
OnOk-map (Err e) f h = tt

pub of-none : {T : Type 0} (r : Option T) (P : Type 0) (Q : T → Type 0) → is_some r ≡ false → MatchOption r P Q → P
of-none None P Q none h = h
of-none (Some x) P Q none h = cc

pub of-some : {T : Type 0} (r : Option T) (P : Type 0) (Q : T → Type 0) (R : Type 0) → is_some r ≡ true → ((x : T) → Q x → R)
    → MatchOption r P Q → R
of-some None P Q R some f h = cc
of-some (Some x) P Q R some f h = f x h

pub relay-changed : (relays : List MixerData) (place : ℕ) (relay : MixerData) → place < length relays
    → relay_at (set relays place relay) place ≡ relay
relay-changed relays place relay within = get_or-set_same relays place relay _ within

-- what is read, whatever stands for a place outside
pub relay-read : (relays : List MixerData) (place : ℕ) (other : MixerData) → place < length relays
    → get_or relays place other ≡ relay_at relays place
relay-read relays place other within = get_or_default relays place other _ within

-- a slice of a whole vector, written
pub whole-written : {X : Type 0} (len : ℕ) (old new : List X) → len ≡ length old → length new ≡ length old
    → take len (new ++ drop (length new) old) ≡ new
whole-written {X} len old new size same =
    let none : drop (length new) old ≡ [] = drop_all (length new) old (omega (arith, same)) in
    ap (λ (l : List X). take len (new ++ l)) none
    ∙ (ap (take len) (append-nil new) ∙ take_all len new (omega (arith, size, same)))

pub relay-new : (session : SessionData) (seeds : List (List ℕ)) (place : ℕ) → place < length seeds
    → relay_at (new_relays session seeds) place ≡ new_relay session (get_or seeds place [])
relay-new session seeds place within = get_or-map (new_relay session) seeds place [] _ within

-- the relay with a number
module _ (state : NetworkState) (world : WorldData) (stands : StandsFor state world) (node : ℕ) (low : 1 ≤ node)
    (high : node ≤ length world.relays) where
  pub relay-of : IsRelayOf state node (relay_at world.relays (node - 1))
  relay-of = subst (λ (n : ℕ). IsRelayOf state n (relay_at world.relays (node - 1))) (omega (arith, low))
      (stands.relays (node - 1) (omega (arith, low, high)))

  pub kept-same : (batch : ℕ) → kept_at (relay_at world.relays (node - 1)).held.batches batch ≡ kept_of batch (received_by node state.given)
  kept-same batch = relay-of.held.kept batch

  -- its next output is the state's
  pub is-next_output : (batch : ℕ) → relay_output (relay_at world.relays (node - 1)).held.session (relay_at world.relays (node - 1)).seed
      batch (sent_of (relay_at world.relays (node - 1)) batch) (kept_at (relay_at world.relays (node - 1)).held.batches batch)
      ≡ next_output state node batch
  is-next_output batch = λ i. relay_output (relay-of.session i) (relay-of.seed i) batch (relay-of.sent batch i) (kept-same batch i)

pub batch-next : (state : NetworkState) (node batch : ℕ) → (next_output state node batch).batch ≡ batch
batch-next state node batch =
    batch-output state.session (seed_of state node) batch (made_count node batch state.pool) (kept_of batch (received_by node state.given))

-- ---- what the calls on one relay tell

pub some-match : {T : Type 0} (r : Option T) (x : T) (P : Type 0) (Q : T → Type 0) → r ≡ Some x → MatchOption r P Q → Q x
some-match r x P Q is h = subst (λ o. MatchOption o P Q) is h

pub some-if : {T : Type 0} (r : Option T) (x : T) (Q : T → Type 0) → r ≡ Some x → IfSome r Q → Q x
some-if r x Q is h = subst (λ o. IfSome o Q) is h

-- the relay at the place has made its next output
pub record Mixes (place batch : ℕ) (packet : Packet) (new old : List MixerData) : Type 0 where
  pub output : packet ≡ relay_output (relay_at old place).held.session (relay_at old place).seed batch
      (sent_of (relay_at old place) batch) (kept_at (relay_at old place).held.batches batch)
  pub shape : HasShape (relay_at old place).held.session packet
  pub sent : HasSentOne batch (relay_at old place) (relay_at new place)
  pub others : ChangesAt place old new

-- the relay at the place was given a packet
pub record Gets (place : ℕ) (packet : Packet) (taken : Taken) (new old : List MixerData) : Type 0 where
  pub offers : Offers (relay_at old place).held (relay_at new place).held packet (Ok taken)
  pub seed : (relay_at new place).seed ≡ (relay_at old place).seed
  pub sent : (batch : ℕ) → sent_of (relay_at new place) batch ≡ sent_of (relay_at old place) batch
  pub others : ChangesAt place old new

-- it isn't given one
pub record Refuses (place : ℕ) (packet : Packet) (end : HeldEnd) (old : List MixerData) : Type 0 where
  pub full : end ≡ Full → ((row_count (relay_at old place).held.batches ≡ max_kept)
      × IsTaken (kept_at (relay_at old place).held.batches packet.batch) packet Kept)
