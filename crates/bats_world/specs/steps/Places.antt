-- Places in the tables and lists of a world.
use Rattle.std.specs.Prelude.{ℕ, ◌≡◌, ◌≢◌, ◌<◌, List, length}
use Rattle.bats_relay.specs.Mixer.{MixerData}
use Rattle.bats_world.specs.Standing.{relay_at}

-- both ends of a link are nodes of some network
abbrev pub AreNodes : ℕ × ℕ → Type 0
AreNodes link = (link.0 < 18) × (link.1 < 18)

-- at most the relay at this place has changed
pub record ChangesAt (place : ℕ) (old new : List MixerData) : Type 0 where
  pub count : length new ≡ length old
  pub others : (other : ℕ) → other ≢ place → relay_at new other ≡ relay_at old other
