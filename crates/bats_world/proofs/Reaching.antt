-- One event more from a reached state.
use Rattle.std.proofs.Common.{ℕ, ◌≡◌, ◌==◌, ◌∙◌, sym, ap, refl, subst, List, [], ◌∷◌, ◌++◌, length, not, ◌||◌}
use Rattle.std.specs.Prelude.{Ok, nat_lt}
use Rattle.bats_model.specs.Session.{SessionData}
use Rattle.bats_model.specs.Kept.{kept_of}
use Rattle.bats_world.specs.World.{NetworkState, opening, sink_of, has_link, received_by, made_at, is_full, after_event, max_pool, next_output, source_packet, with_made, with_given, IsEvent, Leads, IsReached, IsSameNetwork}
use Rattle.bats_model.specs.declared.packet.Packet.{Packet}
use Rattle.bats_world.specs.declared.event.Event.{Event}
use Rattle.bats_world.specs.declared.event.Event.TheVariants.{Send, Mix, Give}
use Rattle.bats_world.proofs.Causes.{passed, value_or}

-- what holds wherever a node has made a packet or was given one holds after any event that takes place
pub after_any : (P : NetworkState → Type 0) (state : NetworkState) (event : Event) (next : NetworkState) → after_event state event ≡ Ok next
    → ((node : ℕ) (packet : Packet) → P (with_made state node packet)) → ((node : ℕ) (packet : Packet) → P (with_given state node packet)) → P next
unfolding after_event
after_any P state (Send batch column) next is made given =
    let low = passed (not (nat_lt column state.session.m)) _ _ next is in
    let room = passed (not (nat_lt (length state.pool) max_pool)) _ _ next low.1 in
    subst P (ap (value_or next) room.1) (made 0 (source_packet state.session state.file batch column))
after_any P state (Mix node batch) next is made given =
    let known = passed (nat_lt (sink_of state) node) _ _ next is in
    let relay = passed (node == 0 || node == sink_of state) _ _ next known.1 in
    let held = passed (length (kept_of batch (received_by node state.given)) == 0) _ _ next relay.1 in
    let room = passed (not (nat_lt (length state.pool) max_pool)) _ _ next held.1 in
    subst P (ap (value_or next) room.1) (made node (next_output state node batch))
after_any P state (Give place node) next is made given =
    let there = passed (not (nat_lt place (length state.pool))) _ _ next is in
    let known = passed (nat_lt (sink_of state) node) _ _ next there.1 in
    let linked = passed (not (has_link state.links (made_at state.pool place).maker node)) _ _ next known.1 in
    let room = passed (is_full state node (made_at state.pool place).packet) _ _ next linked.1 in
    subst P (ap (value_or next) room.1) (given node (made_at state.pool place).packet)

pub same-network : (state : NetworkState) (event : Event) (next : NetworkState) → after_event state event ≡ Ok next
    → IsSameNetwork state next
same-network state event next is =
    after_any (IsSameNetwork state) state event next is (λ node packet. record { session = refl; file = refl; seeds = refl; links = refl })
    (λ node packet. record { session = refl; file = refl; seeds = refl; links = refl })

Leads-more : (start : NetworkState) (events : List Event) (state : NetworkState) (event : Event) (next : NetworkState)
    → Leads start events state → IsEvent event → after_event state event ≡ Ok next → Leads start (events ++ event ∷ []) next
Leads-more start [] state event next is range takes =
    (next, (range, ap (λ (s : NetworkState). after_event s event) is ∙ takes, refl))
Leads-more start (first ∷ events) state event next (then_state, (first_range, first_takes, leads)) range takes =
    (then_state, (first_range, first_takes, Leads-more then_state events state event next leads range takes))

pub IsReached-opening : (session : SessionData) (file : List ℕ) (seeds : List (List ℕ)) (links : List (ℕ × ℕ))
    → IsReached (opening session file seeds links)
IsReached-opening session file seeds links = record { events = []; leads = refl }

pub IsReached-more : (state : NetworkState) (event : Event) (next : NetworkState) → IsReached state → IsEvent event
    → after_event state event ≡ Ok next → IsReached next
IsReached-more state event next reached range takes =
    let same : IsSameNetwork state next = same-network state event next takes in
    let start : opening state.session state.file state.seeds state.links ≡ opening next.session next.file next.seeds next.links =
    λ i. opening (sym same.session i) (sym same.file i) (sym same.seeds i) (sym same.links i) in
    record {
      events = reached.events ++ event ∷ [];
      leads = subst (λ (s : NetworkState). Leads s (reached.events ++ event ∷ []) next) start
          (Leads-more (opening state.session state.file state.seeds state.links) reached.events state event next reached.leads range takes);
    }
