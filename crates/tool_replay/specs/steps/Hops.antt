-- What is sent on a hop, as it is sent.
use Rattle.std.specs.Prelude.{ℕ, ◌≡◌, ◌≢◌, ◌+◌, nat_lt, if◌then◌else◌, Bool, List, [], ◌∷◌, ◌++◌, length, map, sum_by}
use Rattle.std.specs.List.{range_with_len}
use Rattle.bats_batch.specs.Held.{kept_at}
use Rattle.bats_model.specs.Key.{key_word, pick}
use Rattle.bats_model.specs.Relay.{relay_output}
use Rattle.bats_model.specs.Session.{SessionData}
use Rattle.bats_model.specs.declared.packet.Packet.{Packet}
use Rattle.bats_relay.specs.Mixer.{MixerData, sent_of}
use Rattle.bats_relay.specs.Rule.{fixed_count}
use Rattle.bats_words.specs.declared.trial_options.TrialOptions.{TrialOptions}
use Rattle.bats_world.specs.World.{source_packet}
use Rattle.tool_replay.specs.Trial.{arrived}
use Rattle.tool_replay.specs.declared.hops.Hop.{Hop}

-- packets that are sent on a hop, at most
abbrev pub most_sent : ℕ
most_sent = 8192

-- whether the packet at this place is lost, by the key of the losses and their number in a hundred
abbrev pub is_lost_by : List ℕ → ℕ → ℕ → Bool
is_lost_by key loss place = nat_lt (pick (key_word key place) 100) loss

-- the packets that arrive by them of those that are sent, the first of which has this place
unfoldable pub surviving_by : List ℕ → ℕ → ℕ → List Packet → List Packet
surviving_by key loss place [] = []
surviving_by key loss place (packet ∷ packets) =
    if is_lost_by key loss place then surviving_by key loss (place + 1) packets
    else packet ∷ surviving_by key loss (place + 1) packets

-- the packets were sent on a hop, after those before
pub record Sends (packets : List Packet) (before after : Hop) : Type 0 where
  pub key : after.key ≡ before.key
  pub loss : after.loss ≡ before.loss
  pub sent : after.sent ≡ before.sent + length packets
  pub arrived : after.arrived.items ≡ before.arrived.items ++ surviving_by before.key before.loss before.sent packets

-- the source's packets of a batch, columns rising
abbrev pub coded_batch : SessionData → List ℕ → ℕ → List Packet
coded_batch session file batch = map (source_packet session file batch) (range_with_len 0 session.m)

-- an output of a mixer for a batch that it holds
abbrev pub output_of : MixerData → ℕ → ℕ → Packet
output_of mixer batch number =
    relay_output mixer.held.session mixer.seed batch number (kept_at mixer.held.batches batch)

-- so many of them, from this number on
abbrev pub outputs_of : MixerData → ℕ → ℕ → ℕ → List Packet
outputs_of mixer batch first count = map (output_of mixer batch) (range_with_len first count)

-- what a mixer sends of a batch: m outputs, where it holds the batch
unfoldable pub held_outputs : MixerData → ℕ → ℕ → List Packet
held_outputs mixer m batch = outputs_of mixer batch 0 (fixed_count m (length (kept_at mixer.held.batches batch)))

-- outputs were made of the batch, and nothing else has changed
pub record HasSentOf (batch : ℕ) (before after : MixerData) : Type 0 where
  pub held : after.held ≡ before.held
  pub seed : after.seed ≡ before.seed
  pub others : (other : ℕ) → other ≢ batch → sent_of after other ≡ sent_of before other

-- how many packets arrived on the first so many hops together
abbrev pub arrivals_before : TrialOptions → ℕ → ℕ
arrivals_before options hops = sum_by (λ hop. length (arrived options hop)) (range_with_len 0 hops)
