-- How `replay` ends on a script, and what it promises.
use Rattle.std.specs.Prelude.{ℕ, ◌≡◌, ◌≤◌, ◌<◌, ◌+◌, ◌⊎◌, Bool, true, false, List, [], ◌∷◌, ◌++◌, All, length, flat_map, codes, Some, Result, Ok, Err, if◌then◌else◌}
use Rattle.std.specs.Str.{is_utf8}
use Rattle.std.specs.Fmt.{decimal}
use Rattle.bats_io.specs.Streams.{ReadsAtMost}
use Rattle.bats_model.specs.Agreement.{Agrees}
use Rattle.bats_model.specs.Kept.{kept_count}
use Rattle.bats_model.specs.Peeling.{IsInactiveList, largest_degree, payload_bound}
use Rattle.bats_model.specs.Records.{header_record, packet_record}
use Rattle.bats_model.specs.RightAnswer.{IsRightAnswer}
use Rattle.bats_model.specs.declared.answer.Answer.{Answer}
use Rattle.bats_model.specs.declared.packet.Packet.{Packet}
use Rattle.bats_script.specs.Script.{script_of_text}
use Rattle.bats_script.specs.declared.script.Script.{Script}
use Rattle.bats_script.specs.declared.script_end.ScriptEnd.{ScriptEnd}
use Rattle.bats_script.specs.declared.script_end.ScriptEnd.TheVariants as ends
use Rattle.bats_script.specs.declared.script_end.ScriptKey.{ScriptKey}
use Rattle.bats_script.specs.declared.script_end.ScriptKey.TheVariants as keys
use Rattle.bats_world.specs.Standing.{IsHonestAnswer}
use Rattle.bats_world.specs.World.{NetworkState, after_event, opening, received_by, sink_of}
use Rattle.bats_world.specs.declared.event.Event.{Event}
use Rattle.bats_world.specs.declared.event.WorldEnd.{WorldEnd}
use Rattle.bats_world.specs.declared.event.WorldEnd.TheVariants as causes
use Rattle.bats_world.specs.declared.made.Made.{Made}
use Rattle.tool_run.specs.declared.status.Status.TheVariants as statuses
use Rattle.tool_run.specs.declared.stop.Stop.TheVariants as stops
use Rattle.tool_run.specs.Ending.{Ending, line_of, refusal, in_part, to_end}
use Rattle.tool_run.specs.Promise.{Promise, IsBegun, IsFrontOf}
use Rattle.tool_sink.specs.Answers.{answer_line, answer_status}
use Rattle.tool_sink.specs.Sink.{answer_output}

-- ---- the script

-- bytes of a script, at most
abbrev pub max_script : ℕ
max_script = 4194304

-- what bytes are read as: a text that isn't UTF-8 is no TOML
unfoldable pub script_of_bytes : List ℕ → Result Script ScriptEnd
script_of_bytes bytes = if is_utf8 bytes then script_of_text bytes else Err (ends.Key keys.Toml)

-- the name of a key in the notes line
abbrev pub key_name : ScriptKey → List ℕ
key_name keys.Toml = codes "toml"
key_name keys.Unknown = codes "unknown"
key_name keys.M = codes "m"
key_name keys.T = codes "t"
key_name keys.Table = codes "table"
key_name keys.Systematic = codes "systematic"
key_name keys.Seed = codes "seed"
key_name keys.File = codes "file"
key_name keys.Relays = codes "relays"
key_name keys.Links = codes "links"
key_name keys.Event = codes "event"

-- The ending of a text that gives no script. Memory is no answer of `script_of_bytes`, and its status none of an ending.
abbrev pub no_script_ending : ScriptEnd → Ending
no_script_ending (ends.Key key) =
    refusal statuses.Script (codes "bats: script key=" ++ (key_name key ++ codes "\n")) to_end
no_script_ending ends.TooLong = refusal statuses.Limit (codes "bats: limit symbols\n") to_end
no_script_ending ends.Memory = refusal statuses.Memory (line_of stops.Memory) to_end

-- ---- its events

-- the first event that doesn't take place, by its number, and why
pub record Obstacle : Type 0 where
  pub number : ℕ
  pub cause : WorldEnd

-- what comes after an event of this number
abbrev pub go_on : ℕ → Result NetworkState WorldEnd → (NetworkState → Result NetworkState Obstacle) → Result NetworkState Obstacle
go_on number (Ok next) rest = rest next
go_on number (Err cause) rest = Err (record { number = number; cause = cause })

-- the state after events one after another, the first of which has this number
unfoldable pub after_events : NetworkState → ℕ → List Event → Result NetworkState Obstacle
after_events state number [] = Ok state
after_events state number (event ∷ events) =
    go_on number (after_event state event) (λ next. after_events next (number + 1) events)

-- what a script's events lead to, numbered from 0, from the network in which nothing has happened
abbrev pub played : Script → Result NetworkState Obstacle
played script = after_events (opening script.session script.file script.relay_seeds script.links) 0 script.events

-- the ending of an event that doesn't take place for a cause with this word
abbrev pub event_refusal : ℕ → List ℕ → Ending
event_refusal number word =
    refusal statuses.Script (codes "bats: script event=" ++ (decimal number ++ (codes " " ++ (word ++ codes "\n")))) to_end

-- The ending of an event that doesn't take place. Memory is no cause of `after_event`, and its status none of an ending.
abbrev pub obstacle_ending : ℕ → WorldEnd → Ending
obstacle_ending number causes.NoNode = event_refusal number (codes "no-node")
obstacle_ending number causes.NotARelay = event_refusal number (codes "not-a-relay")
obstacle_ending number causes.NoPacket = event_refusal number (codes "no-packet")
obstacle_ending number causes.NoLink = event_refusal number (codes "no-link")
obstacle_ending number causes.NothingHeld = event_refusal number (codes "nothing-held")
obstacle_ending number causes.ColumnTooLarge = event_refusal number (codes "column-too-large")
obstacle_ending number causes.Full = refusal statuses.Limit (codes "bats: limit kept\n") to_end
obstacle_ending number causes.PoolFull = refusal statuses.Limit (codes "bats: limit pool\n") to_end
obstacle_ending number causes.Memory = refusal statuses.Memory (line_of stops.Memory) to_end

-- ---- how it ends

-- the record of a packet of the pool
abbrev pub pool_record : Made → List ℕ
pool_record made = packet_record made.packet.batch made.packet.coefs made.packet.payload

-- the header, and then the records of the pool's packets in their order
unfoldable pub pool_output : NetworkState → List ℕ
pool_output state = header_record state.session ++ flat_map pool_record state.pool

-- the packets that the sink was given
abbrev pub sink_packets : NetworkState → List Packet
sink_packets state = received_by (sink_of state) state.given

-- the ending of so many events that led to this state, with an answer to what the sink was given and so many inactive
-- symbols: the pool is written where it is asked for, and else what the answer gives
abbrev pub played_ending : Bool → Bool → ℕ → NetworkState → ℕ → Answer → Ending
played_ending both pool events state inactive answer = record {
  status = answer_status answer;
  output = if pool then pool_output state else answer_output both answer;
  line = answer_line (codes "replay") (length (sink_packets state)) (kept_count (sink_packets state)) inactive answer;
  reach = to_end;
  work = Some (payload_bound events state.session.m (kept_count (sink_packets state))
      (largest_degree state.session (sink_packets state)) inactive);
}

-- more bytes than a script may have
pub record IsOverlong (input : List ℕ) (ending : Ending) : Type 0 where
  pub long : max_script < length input
  pub ending_is : ending ≡ refusal statuses.Limit (codes "bats: limit script\n") in_part

-- bytes that give no script
pub record IsNoScript (input : List ℕ) (ending : Ending) : Type 0 where
  pub short : length input ≤ max_script
  pub end : ScriptEnd
  pub is_read : script_of_bytes input ≡ Err end
  pub ending_is : ending ≡ no_script_ending end

-- a script with an event that doesn't take place
pub record HasObstacle (input : List ℕ) (ending : Ending) : Type 0 where
  pub short : length input ≤ max_script
  pub script : Script
  pub is_read : script_of_bytes input ≡ Ok script
  pub obstacle : Obstacle
  pub is_met : played script ≡ Err obstacle
  pub ending_is : ending ≡ obstacle_ending obstacle.number obstacle.cause

-- a script whose events all take place and lead to this state
pub record PlaysTo (input : List ℕ) (script : Script) (state : NetworkState) : Type 0 where
  pub short : length input ≤ max_script
  pub is_read : script_of_bytes input ≡ Ok script
  pub plays : played script ≡ Ok state

-- The ending is that of a right answer to what the sink was given, and tells how long the inactive list is. The answer is
-- the script's file, or need-more; and the file agrees with every packet of the pool.
pub record ReplayAnswers (both pool : Bool) (input : List ℕ) (ending : Ending) : Type 0 where
  pub script : Script
  pub state : NetworkState
  pub plays : PlaysTo input script state
  pub answer : Answer
  pub right : IsRightAnswer script.session (sink_packets state) answer
  pub honest : IsHonestAnswer script.file answer
  pub agrees : All (λ made. Agrees script.session script.file made.packet) state.pool
  pub inactive : List ℕ
  pub is_inactive : IsInactiveList script.session (sink_packets state) inactive
  pub ending_is : ending ≡ played_ending both pool (length script.events) state (length inactive) answer

-- how `replay` ends where memory is found and no read, write or flush fails
abbrev pub IsReplayEnding : Bool → Bool → List ℕ → Ending → Type 0
IsReplayEnding both pool input ending =
    IsOverlong input ending ⊎ (IsNoScript input ending ⊎ (HasObstacle input ending ⊎ ReplayAnswers both pool input ending))

-- ---- what it promises

-- a front of what is written of the pool that a script's events lead to
pub record IsFrontOfPool (input part : List ℕ) : Type 0 where
  pub script : Script
  pub state : NetworkState
  pub plays : PlaysTo input script state
  pub front : IsFrontOf part (pool_output state)

-- what a run that was cut short may have written: where the pool is asked for, a front of it, which is written before the
-- answer is known; else a front of what a right ending writes
abbrev pub IsReplayPart : Bool → Bool → List ℕ → List ℕ → Type 0
IsReplayPart both true input part = (part ≡ []) ⊎ IsFrontOfPool input part
IsReplayPart both false input part = IsBegun (IsReplayEnding both false) input part

-- what `replay` promises: it reads a script, only as far as shows that it is too long
abbrev pub replay_promise : Bool → Bool → Promise
replay_promise both pool = record {
  ends = IsReplayEnding both pool;
  reads = λ before after. ReadsAtMost before after (max_script + 1);
  partly = IsReplayPart both pool;
  partly_read = λ before after part. part ≡ [];
}
