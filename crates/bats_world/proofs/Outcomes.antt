-- What an event does, by what is true of the state.
use Rattle.std.proofs.Common.{ℕ, ◌≡◌, ◌<◌, ◌≤◌, ◌==◌, ◌∙◌, ap, refl, length, cond, not, Bool, true, false, arith, ◌||◌}
use Rattle.std.specs.Prelude.{Ok, Err, nat_lt}
use Rattle.std.proofs.lemmas.Bool.{cond-true, cond-false, lt-ltb, le-ltb, eq-eqb, ne_eqb}
use Rattle.bats_model.specs.Kept.{kept_of}
use Rattle.bats_world.specs.World.{NetworkState, sink_of, has_link, received_by, made_at, source_packet, next_output, is_full, with_made, with_given, after_event, max_pool}
use Rattle.bats_world.specs.declared.event.Event.TheVariants.{Send, Mix, Give}
use Rattle.bats_world.specs.declared.event.WorldEnd.TheVariants as causes

or-right : (one other : Bool) → other ≡ true → (one || other) ≡ true
or-right true other is = refl
or-right false other is = is

or-left : (one other : Bool) → one ≡ true → (one || other) ≡ true
or-left true other is = refl
or-left false other is = cc

or-none : (one other : Bool) → one ≡ false → other ≡ false → (one || other) ≡ false
or-none true other is none = cc
or-none false other is none = none

module _ (state : NetworkState) where
  -- ---- the source

  pub send-column : (batch column : ℕ) → state.session.m ≤ column → after_event state (Send batch column) ≡ Err causes.ColumnTooLarge
  unfolding after_event
  send-column batch column high =
      cond-true (not (nat_lt column state.session.m)) _ _ (ap not (le-ltb column state.session.m high))

  pub send-full : (batch column : ℕ) → column < state.session.m → max_pool ≤ length state.pool
      → after_event state (Send batch column) ≡ Err causes.PoolFull
  unfolding after_event
  send-full batch column low full =
      cond-false (not (nat_lt column state.session.m)) _ _ (ap not (lt-ltb column state.session.m low))
      ∙ cond-true (not (nat_lt (length state.pool) max_pool)) _ _ (ap not (le-ltb (length state.pool) max_pool full))

  pub send-passes : (batch column : ℕ) → column < state.session.m → length state.pool < max_pool
      → after_event state (Send batch column) ≡ Ok (with_made state 0 (source_packet state.session state.file batch column))
  unfolding after_event
  send-passes batch column low room =
      cond-false (not (nat_lt column state.session.m)) _ _ (ap not (lt-ltb column state.session.m low))
      ∙ cond-false (not (nat_lt (length state.pool) max_pool)) _ _ (ap not (lt-ltb (length state.pool) max_pool room))

  -- ---- a relay

  pub mix-node : (node batch : ℕ) → sink_of state < node → after_event state (Mix node batch) ≡ Err causes.NoNode
  unfolding after_event
  mix-node node batch high = cond-true (nat_lt (sink_of state) node) _ _ (lt-ltb (sink_of state) node high)

  pub mix-source : (node batch : ℕ) → node ≡ 0 → after_event state (Mix node batch) ≡ Err causes.NotARelay
  unfolding after_event
  mix-source node batch is =
      cond-false (nat_lt (sink_of state) node) _ _ (le-ltb (sink_of state) node (omega (arith, is)))
      ∙ cond-true (node == 0 || node == sink_of state) _ _ (or-left (node == 0) (node == sink_of state) (eq-eqb node 0 is))

  pub mix-sink : (node batch : ℕ) → node ≡ sink_of state → after_event state (Mix node batch) ≡ Err causes.NotARelay
  unfolding after_event
  mix-sink node batch is =
      cond-false (nat_lt (sink_of state) node) _ _ (le-ltb (sink_of state) node (omega (arith, is)))
      ∙ cond-true (node == 0 || node == sink_of state) _ _ (or-right (node == 0) (node == sink_of state) (eq-eqb node (sink_of state) is))

  module _ (node batch : ℕ) (low : 1 ≤ node) (high : node < sink_of state) where
    relay : (node == 0 || node == sink_of state) ≡ false
    relay = or-none (node == 0) (node == sink_of state) (ne_eqb node 0 (λ e. omega (arith, e, low)))
        (ne_eqb node (sink_of state) (λ e. omega (arith, e, high)))

    pub mix-nothing : length (kept_of batch (received_by node state.given)) ≡ 0 → after_event state (Mix node batch) ≡ Err causes.NothingHeld
    unfolding after_event
    mix-nothing none =
        cond-false (nat_lt (sink_of state) node) _ _ (le-ltb (sink_of state) node (omega (arith, high)))
        ∙ (cond-false (node == 0 || node == sink_of state) _ _ relay
        ∙ cond-true (length (kept_of batch (received_by node state.given)) == 0) _ _
        (eq-eqb (length (kept_of batch (received_by node state.given))) 0 none))

    module _ (some : 0 < length (kept_of batch (received_by node state.given))) where
      pub mix-full : max_pool ≤ length state.pool → after_event state (Mix node batch) ≡ Err causes.PoolFull
      unfolding after_event
      mix-full full =
          cond-false (nat_lt (sink_of state) node) _ _ (le-ltb (sink_of state) node (omega (arith, high)))
          ∙ (cond-false (node == 0 || node == sink_of state) _ _ relay
          ∙ (cond-false (length (kept_of batch (received_by node state.given)) == 0) _ _
          (ne_eqb (length (kept_of batch (received_by node state.given))) 0 (λ e. omega (arith, e, some)))
          ∙ cond-true (not (nat_lt (length state.pool) max_pool)) _ _ (ap not (le-ltb (length state.pool) max_pool full))))

      pub mix-passes : length state.pool < max_pool
          → after_event state (Mix node batch) ≡ Ok (with_made state node (next_output state node batch))
      unfolding after_event
      mix-passes room =
          cond-false (nat_lt (sink_of state) node) _ _ (le-ltb (sink_of state) node (omega (arith, high)))
          ∙ (cond-false (node == 0 || node == sink_of state) _ _ relay
          ∙ (cond-false (length (kept_of batch (received_by node state.given)) == 0) _ _
          (ne_eqb (length (kept_of batch (received_by node state.given))) 0 (λ e. omega (arith, e, some)))
          ∙ cond-false (not (nat_lt (length state.pool) max_pool)) _ _ (ap not (lt-ltb (length state.pool) max_pool room))))

  -- ---- a node that is given a packet

  pub give-packet : (place node : ℕ) → length state.pool ≤ place → after_event state (Give place node) ≡ Err causes.NoPacket
  unfolding after_event
  give-packet place node high =
      cond-true (not (nat_lt place (length state.pool))) _ _ (ap not (le-ltb place (length state.pool) high))

  module _ (place node : ℕ) (there : place < length state.pool) where
    pub give-node : sink_of state < node → after_event state (Give place node) ≡ Err causes.NoNode
    unfolding after_event
    give-node high =
        cond-false (not (nat_lt place (length state.pool))) _ _ (ap not (lt-ltb place (length state.pool) there))
        ∙ cond-true (nat_lt (sink_of state) node) _ _ (lt-ltb (sink_of state) node high)

    pub give-link : node ≤ sink_of state → has_link state.links (made_at state.pool place).maker node ≡ false
        → after_event state (Give place node) ≡ Err causes.NoLink
    unfolding after_event
    give-link high none =
        cond-false (not (nat_lt place (length state.pool))) _ _ (ap not (lt-ltb place (length state.pool) there))
        ∙ (cond-false (nat_lt (sink_of state) node) _ _ (le-ltb (sink_of state) node high)
        ∙ cond-true (not (has_link state.links (made_at state.pool place).maker node)) _ _ (ap not none))

    pub give-passes : node ≤ sink_of state → has_link state.links (made_at state.pool place).maker node ≡ true
        → after_event state (Give place node) ≡ cond (is_full state node (made_at state.pool place).packet) (Err causes.Full)
        (Ok (with_given state node (made_at state.pool place).packet))
    unfolding after_event
    give-passes high linked =
        cond-false (not (nat_lt place (length state.pool))) _ _ (ap not (lt-ltb place (length state.pool) there))
        ∙ (cond-false (nat_lt (sink_of state) node) _ _ (le-ltb (sink_of state) node high)
        ∙ cond-false (not (has_link state.links (made_at state.pool place).maker node)) _ _ (ap not linked))
