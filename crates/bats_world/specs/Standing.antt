-- What a world holds, and which states it stands for.
use Rattle.std.specs.Prelude.{ℕ, ◌≡◌, ◌<◌, ◌+◌, ◌*◌, false, Bool, List, [], length, slice_index_or}
use Rattle.bats_model.specs.Session.{SessionData}
use Rattle.bats_model.specs.declared.answer.Answer.{Answer}
use Rattle.bats_model.specs.declared.answer.Answer.TheVariants.{File, Inconsistent, NeedMore}
use Rattle.bats_batch.specs.Held.{StandsFor as HoldsFor}
use Rattle.bats_relay.specs.Mixer.{MixerData, sent_of}
use Rattle.bats_decode.specs.Decoder.{DecoderData}
use Rattle.bats_decode.specs.Decoder.{StandsFor as DecodesFor}
use Rattle.bats_world.specs.World.{NetworkState, seed_of, has_link, received_by, made_count, sink_of}
use Rattle.bats_world.specs.declared.made.Made.{Made}

-- the session and its file, the relays in the order of their numbers, from 1 on, a table of the links, the packets that
-- were made, and the sink
pub record WorldData : Type 0 where
  pub session : SessionData
  pub file : List ℕ
  pub relays : List MixerData
  pub linked : List Bool
  pub pool : List Made
  pub sink : DecoderData

-- the relay at a place, which has the number place + 1
abbrev pub relay_at : List MixerData → ℕ → MixerData
relay_at relays place = slice_index_or relays place (record {
  held = record {
    session = record { m = 0; t = 0; file_length = 0; table = 0; systematic = false; seed = [] };
    batches = [];
  };
  seed = [];
  counts = [];
})

-- the table tells of any two nodes below 18 whether a link leads from the one to the other
pub record IsTableOf (links : List (ℕ × ℕ)) (table : List Bool) : Type 0 where
  pub size : length table ≡ 324
  pub tells : (from to : ℕ) → from < 18 → to < 18 → slice_index_or table (from * 18 + to) false ≡ has_link links from to

-- the relay with this number has the seed of the state, holds what it was given there, and has made as many outputs of
-- each batch as are in the pool
pub record IsRelayOf (state : NetworkState) (node : ℕ) (relay : MixerData) : Type 0 where
  pub session : relay.held.session ≡ state.session
  pub seed : relay.seed ≡ seed_of state node
  pub held : HoldsFor (received_by node state.given) relay.held
  pub sent : (batch : ℕ) → sent_of relay batch ≡ made_count node batch state.pool

-- the world stands for the state
pub record StandsFor (state : NetworkState) (world : WorldData) : Type 0 where
  pub session : world.session ≡ state.session
  pub file : world.file ≡ state.file
  pub count : length world.relays ≡ length state.seeds
  pub relays : (place : ℕ) → place < length world.relays → IsRelayOf state (place + 1) (relay_at world.relays place)
  pub links : IsTableOf state.links world.linked
  pub pool : world.pool ≡ state.pool
  pub sink_session : world.sink.held.session ≡ state.session
  pub sink : DecodesFor (received_by (sink_of state) state.given) world.sink

-- what is said of a file where only honest nodes sent packets of it: it is found, or more packets are needed
abbrev pub IsHonestAnswer : List ℕ → Answer → Type 0
IsHonestAnswer file (File found) = found ≡ file
IsHonestAnswer file Inconsistent = ⊥
IsHonestAnswer file (NeedMore at_symbol first second) = Unit {0}
