-- The events of a script, one after another.
use Rattle.std.proofs.Common.{ℕ, ◌≡◌, ◌∙◌, ◌+◌, ◌*◌, ◌≤◌, ap, subst, refl, arith, List, [], ◌∷◌, length, drop, length-append}
use Rattle.std.specs.Prelude.{Ok, Err, Result, Some, slice_get}
use Rattle.std.proofs.Math.Seq.{drop-length}
use Rattle.std.proofs.lemmas.List.{drop_more}
use Rattle.std.proofs.lemmas.Option.{get_or_from_slice_get, slice_get_within}
use Rattle.bats_model.specs.Session.{SessionData}
use Rattle.bats_world.specs.World.{NetworkState, IsEvent, IsReached, IsSameNetwork, after_event}
use Rattle.bats_world.specs.Standing.{StandsFor, WorldData}
use Rattle.bats_world.specs.declared.event.Event.{Event}
use Rattle.bats_world.specs.declared.event.WorldEnd.{WorldEnd}
use Rattle.bats_world.proofs.Reaching.{IsReached-more, after_any, same-network}
use Rattle.tool_replay.specs.Replay.{after_events, go_on}
use Rattle.tool_replay.specs.steps.Playing.{HasPlayed}

-- ---- one event

-- one event gives at most one packet
record GivesOne (state next : NetworkState) : Type 0 where
  given : length next.given ≤ length state.given + 1

gives_one : (state : NetworkState) (event : Event) (next : NetworkState) → after_event state event ≡ Ok next → GivesOne state next
gives_one state event next is =
    after_any (GivesOne state) state event next is (λ node packet. record { given = omega arith })
    (λ node packet. record { given = simp length-append (omega arith) })

same_after : (start state next : NetworkState) → IsSameNetwork start state → IsSameNetwork state next → IsSameNetwork start next
same_after start state next first then = record {
  session = then.session ∙ first.session;
  file = then.file ∙ first.file;
  seeds = then.seeds ∙ first.seeds;
  links = then.links ∙ first.links;
}

-- ---- events up to a place

-- the events from a place on are the one there and those after it
from_place : (events : List Event) (i : ℕ) (event : Event) → slice_get events i ≡ Some event
    → drop i events ≡ event ∷ drop (i + 1) events
from_place events i event is =
    drop_more events i event (slice_get_within events i event is)
    ∙ ap (λ (e : Event). e ∷ drop (i + 1) events) (get_or_from_slice_get events i event event is)

step_of : (state : NetworkState) (number : ℕ) (event : Event) (events : List Event) (result : Result NetworkState WorldEnd)
    → after_event state event ≡ result
    → after_events state number (event ∷ events) ≡ go_on number result (λ next. after_events next (number + 1) events)
unfolding after_events
step_of state number event events result is =
    ap (λ (r : Result NetworkState WorldEnd). go_on number r (λ next. after_events next (number + 1) events)) is

all_done : (state : NetworkState) (number : ℕ) → after_events state number [] ≡ Ok state
unfolding after_events
all_done state number = refl

one_more : (first mid last i m : ℕ) → mid ≤ first + i * m → last ≤ mid + m → last ≤ first + (i + 1) * m
one_more first mid last i m before now = omega arith

pub HasPlayed-start : (start : NetworkState) (events : List Event) (first : ℕ) (world : WorldData) → StandsFor start world → IsReached start
    → HasPlayed start events 0 first first world
HasPlayed-start start events first world stands reached = record {
  state = start;
  stands = stands;
  reached = reached;
  same = record { session = refl; file = refl; seeds = refl; links = refl };
  plays = refl;
  given = omega arith;
  worked = omega arith;
}

module _ (start : NetworkState) (events : List Event) (i first mid : ℕ) (world : WorldData) (p : HasPlayed start events i first mid world)
    (event : Event) (there : slice_get events i ≡ Some event) where
  -- the next event takes place
  pub HasPlayed-more : (last : ℕ) (after : WorldData) → IsEvent event
      → ((state : NetworkState) → StandsFor state world → (next : NetworkState) × ((after_event state event ≡ Ok next) × StandsFor next after))
      → last ≤ mid + world.session.m → HasPlayed start events (i + 1) first last after
  HasPlayed-more last after range takes worked =
      let moved = takes p.state p.stands in
      let next : NetworkState = moved.0 in
      let one : GivesOne p.state next = gives_one p.state event next moved.1.0 in
      let m : world.session.m ≡ start.session.m = ap (λ (s : SessionData). s.m) (p.stands.session ∙ p.same.session) in
      record {
        state = next;
        stands = moved.1.1;
        reached = IsReached-more p.state event next p.reached range moved.1.0;
        same = same_after start p.state next p.same (same-network p.state event next moved.1.0);
        plays = p.plays ∙ ap (after_events p.state i) (from_place events i event there)
            ∙ step_of p.state i event (drop (i + 1) events) (Ok next) moved.1.0;
        given = omega (arith, p.given, one.given);
        worked = one_more first mid last i start.session.m p.worked (subst (λ (n : ℕ). last ≤ mid + n) m worked);
      }

  -- it doesn't
  pub HasPlayed-obstacle : (cause : WorldEnd) → ((state : NetworkState) → StandsFor state world → after_event state event ≡ Err cause)
      → after_events start 0 events ≡ Err (record { number = i; cause = cause })
  HasPlayed-obstacle cause met =
      p.plays ∙ ap (after_events p.state i) (from_place events i event there)
      ∙ step_of p.state i event (drop (i + 1) events) (Err cause) (met p.state p.stands)

-- all events took place
pub HasPlayed-all : (start : NetworkState) (events : List Event) (first last : ℕ) (world : WorldData)
    → (p : HasPlayed start events (length events) first last world) → after_events start 0 events ≡ Ok p.state
HasPlayed-all start events first last world p =
    p.plays ∙ ap (after_events p.state (length events)) (drop-length events) ∙ all_done p.state (length events)
