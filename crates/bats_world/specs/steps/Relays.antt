-- New relays.
use Rattle.std.specs.Prelude.{ℕ, List, [], map}
use Rattle.bats_model.specs.Session.{SessionData}
use Rattle.bats_relay.specs.Mixer.{MixerData}

-- a relay that holds nothing and has made nothing
abbrev pub new_relay : SessionData → List ℕ → MixerData
new_relay session seed = record { held = record { session = session; batches = [] }; seed = seed; counts = [] }

-- one for each seed
abbrev pub new_relays : SessionData → List (List ℕ) → List MixerData
new_relays session seeds = map (new_relay session) seeds
