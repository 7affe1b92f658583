-- A network of honest nodes, and what one event does. Node 0 is the source, nodes 1 to r are the relays, and node r + 1 is
-- the sink.
use Rattle.std.specs.Prelude.{ℕ, ◌≡◌, ◌<◌, ◌≤◌, ◌+◌, ◌-◌, ◌^◌, ◌==◌, ◌&&◌, ◌||◌, not, nat_lt, if◌then◌else◌, Bool, List, [], ◌∷◌, ◌++◌, length, map, filter, slice_index_or, Result, Ok, Err}
use Rattle.std.specs.List.{list_any}
use Rattle.bats_model.specs.Session.{SessionData}
use Rattle.bats_model.specs.Batch.{batch_of}
use Rattle.bats_model.specs.Coded.{coded_payload, unit_vector}
use Rattle.bats_model.specs.Kept.{is_new, kept_of, kept_count}
use Rattle.bats_model.specs.Relay.{relay_output}
use Rattle.bats_model.specs.declared.packet.Packet.{Packet}
use Rattle.bats_batch.specs.Held.{max_kept}
use Rattle.bats_world.specs.declared.event.Event.{Event}
use Rattle.bats_world.specs.declared.event.Event.TheVariants.{Send, Mix, Give}
use Rattle.bats_world.specs.declared.event.WorldEnd.{WorldEnd}
use Rattle.bats_world.specs.declared.event.WorldEnd.TheVariants as causes
use Rattle.bats_world.specs.declared.made.Made.{Made}

-- relays, at most
abbrev pub max_relays : ℕ
max_relays = 16

-- packets of the pool, at most
abbrev pub max_pool : ℕ
max_pool = 65536

-- with so many relays the link leads from the source or a relay to a relay or the sink
pub record IsLink (relays : ℕ) (link : ℕ × ℕ) : Type 0 where
  pub from : link.0 ≤ relays
  pub low : 1 ≤ link.1
  pub high : link.1 ≤ relays + 1

-- a packet that was given to a node
pub record Given : Type 0 where
  pub node : ℕ
  pub packet : Packet

-- the session and its file, a seed for each relay, the links as pairs of nodes, the packets that were made, each with the
-- node that made it, and the packets that were given, each with the node that it was given to
pub record NetworkState : Type 0 where
  pub session : SessionData
  pub file : List ℕ
  pub seeds : List (List ℕ)
  pub links : List (ℕ × ℕ)
  pub pool : List Made
  pub given : List Given

-- no packet was made
abbrev pub opening : SessionData → List ℕ → List (List ℕ) → List (ℕ × ℕ) → NetworkState
opening session file seeds links =
    record { session = session; file = file; seeds = seeds; links = links; pool = []; given = [] }

-- ---- what a state says

-- the number of the sink
abbrev pub sink_of : NetworkState → ℕ
sink_of state = length state.seeds + 1

-- the seed of the relay with this number
abbrev pub seed_of : NetworkState → ℕ → List ℕ
seed_of state node = slice_index_or state.seeds (node - 1) []

-- a link leads from the one node to the other
abbrev pub has_link : List (ℕ × ℕ) → ℕ → ℕ → Bool
has_link links from to = list_any (λ link. link.0 == from && link.1 == to) links

-- the packets that a node was given, in order
abbrev pub received_by : ℕ → List Given → List Packet
received_by node given = map (λ one. one.packet) (filter (λ one. one.node == node) given)

-- how many packets of a batch a node has made
abbrev pub made_count : ℕ → ℕ → List Made → ℕ
made_count node batch pool = length (filter (λ made. made.maker == node && made.packet.batch == batch) pool)

-- what is read past the end of a pool
abbrev pub no_made : Made
no_made = record { maker = 0; packet = record { batch = 0; coefs = []; payload = [] } }

-- the packet at a place of the pool, counted from 0, with its maker
abbrev pub made_at : List Made → ℕ → Made
made_at pool place = slice_index_or pool place no_made

-- the source's packet of a column of a batch
abbrev pub source_packet : SessionData → List ℕ → ℕ → ℕ → Packet
source_packet session file batch column = record {
  batch = batch;
  coefs = unit_vector session.m column;
  payload = coded_payload session file (batch_of session batch) column;
}

-- the next output of a batch of the relay with this number
abbrev pub next_output : NetworkState → ℕ → ℕ → Packet
next_output state node batch = relay_output state.session (seed_of state node) batch (made_count node batch state.pool)
    (kept_of batch (received_by node state.given))

-- the packet is new to the node, and as many are kept there as may be
abbrev pub is_full : NetworkState → ℕ → Packet → Bool
is_full state node packet = is_new (received_by node state.given) packet
    && kept_count (received_by node state.given) == max_kept

-- ---- what an event does

-- the node has made the packet
abbrev pub with_made : NetworkState → ℕ → Packet → NetworkState
with_made state node packet = record state { pool = state.pool ++ record { maker = node; packet = packet } ∷ [] }

-- the node was given the packet
abbrev pub with_given : NetworkState → ℕ → Packet → NetworkState
with_given state node packet = record state { given = state.given ++ record { node = node; packet = packet } ∷ [] }

-- The state after an event, or the first cause why it doesn't take place. What is sent or mixed comes last into the pool. What
-- is given stays in it, so that it may be given again.
unfoldable pub after_event : NetworkState → Event → Result NetworkState WorldEnd
after_event state (Send batch column) =
    if not (nat_lt column state.session.m) then Err causes.ColumnTooLarge else
    if not (nat_lt (length state.pool) max_pool) then Err causes.PoolFull else
    Ok (with_made state 0 (source_packet state.session state.file batch column))
after_event state (Mix node batch) =
    if nat_lt (sink_of state) node then Err causes.NoNode else
    if node == 0 || node == sink_of state then Err causes.NotARelay else
    if length (kept_of batch (received_by node state.given)) == 0 then Err causes.NothingHeld else
    if not (nat_lt (length state.pool) max_pool) then Err causes.PoolFull else
    Ok (with_made state node (next_output state node batch))
after_event state (Give place node) =
    if not (nat_lt place (length state.pool)) then Err causes.NoPacket else
    if nat_lt (sink_of state) node then Err causes.NoNode else
    if not (has_link state.links (made_at state.pool place).maker node) then Err causes.NoLink else
    if is_full state node (made_at state.pool place).packet then Err causes.Full else
    Ok (with_given state node (made_at state.pool place).packet)

-- ---- what events lead to

-- the numbers that an event can have: that of a batch is of four bytes
abbrev pub IsEvent : Event → Type 0
IsEvent (Send batch column) = batch < 2 ^ 32
IsEvent (Mix node batch) = batch < 2 ^ 32
IsEvent (Give place node) = Unit {0}

-- these events take place one after another, and lead from the one state to the other
abbrev pub Leads : NetworkState → List Event → NetworkState → Type 0
Leads start [] state = start ≡ state
Leads start (event ∷ events) state =
    (next : NetworkState) × (IsEvent event × (after_event start event ≡ Ok next) × Leads next events state)

-- events lead to it from the opening state
pub record IsReached (state : NetworkState) : Type 0 where
  pub events : List Event
  pub leads : Leads (opening state.session state.file state.seeds state.links) events state

-- session, file, seeds and links of both states are the same
pub record IsSameNetwork (state next : NetworkState) : Type 0 where
  pub session : next.session ≡ state.session
  pub file : next.file ≡ state.file
  pub seeds : next.seeds ≡ state.seeds
  pub links : next.links ≡ state.links
