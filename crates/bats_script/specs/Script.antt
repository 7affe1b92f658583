-- What a replay script is: the table that its text gives, key by key, in the order in which keys are judged.
use Rattle.std.specs.Prelude.{ℕ, ◌≡◌, ◌⊎◌, nat_le, ◌&&◌, ◌||◌, Bool, true, List, [], length, Option, Some, None, Result, Ok, Err, IsErrOf, if◌then◌else◌, codes, ⊤}
use Rattle.std.specs.Option.{option_and_then, option_map, ok_or}
use Rattle.std.specs.Str.{bytes_eq}
use Rattle.toml.specs.Data.{Data, as_bool, Members, no_members, member, get_member}
use Rattle.toml.specs.Parse.{parse_document}
use Rattle.bats_model.specs.Session.{SessionData, session_with, symbol_count, max_symbols}
use Rattle.bats_script.specs.ScriptValues.{number_between, seed_of, hex_bytes, seeds_of, links_of, events_of}
use Rattle.bats_world.specs.declared.event.Event.{Event}
use Rattle.bats_script.specs.declared.parameters.Parameters.{Parameters}
use Rattle.bats_script.specs.declared.script.Script.{Script}
use Rattle.bats_script.specs.declared.script_end.ScriptKey.{ScriptKey}
use Rattle.bats_script.specs.declared.script_end.ScriptKey.TheVariants as keys
use Rattle.bats_script.specs.declared.script_end.ScriptEnd.{ScriptEnd}
use Rattle.bats_script.specs.declared.script_end.ScriptEnd.TheVariants as ends

-- the keys that a script may have
unfoldable pub is_known : List ℕ → Bool
is_known key =
    bytes_eq key (codes "m") || bytes_eq key (codes "t") || bytes_eq key (codes "table")
    || bytes_eq key (codes "systematic") || bytes_eq key (codes "seed") || bytes_eq key (codes "file")
    || bytes_eq key (codes "relays") || bytes_eq key (codes "links") || bytes_eq key (codes "event")

-- each key is one of these
abbrev pub are_known : Members → Bool
are_known no_members = true
are_known (member key value rest) = is_known key && are_known rest

-- the value of a step, handed on to the next one; the first refusal stands
infixl 10 ◌>>=◌
unfoldable pub ◌>>=◌ : {A B : Type 0} → Result A ScriptEnd → (A → Result B ScriptEnd) → Result B ScriptEnd
Ok value >>= next = next value
Err end >>= next = Err end

-- a value that has to be there and right, under the key that else is named
unfoldable pub needs : {A : Type 0} → ScriptKey → Option A → Result A ScriptEnd
needs key found = ok_or found (ends.Key key)

-- the right value at a key
abbrev pub value_at : {A : Type 0} → (Data → Option A) → List ℕ → Members → Option A
value_at value_of key members = option_and_then value_of (get_member key members)

-- the events, which are none where the key isn't there
unfoldable pub events_at : Option Data → Option (List Event)
events_at None = Some []
events_at (Some value) = events_of value

-- all keys are known
unfoldable pub known : Members → Result ⊤ ScriptEnd
known members = if are_known members then Ok tt else Err (ends.Key keys.Unknown)

-- the session's parameters but the file's length, in the order in which their keys are judged
unfoldable pub parameters_of : Members → Result Parameters ScriptEnd
parameters_of members = do
  m ← needs keys.M (value_at (number_between 1 32) (codes "m") members)
  t ← needs keys.T (value_at (number_between 1 2048) (codes "t") members)
  table ← needs keys.Table (value_at (number_between 0 1) (codes "table") members)
  systematic ← needs keys.Systematic (value_at as_bool (codes "systematic") members)
  seed ← needs keys.Seed (value_at seed_of (codes "seed") members)
  Ok (record { m = m; t = t; table = table; systematic = systematic; seed = seed })

-- the session of a file of this length, unless it has too many symbols
unfoldable pub session_of : Parameters → ℕ → Option SessionData
session_of p file_length =
    if nat_le (symbol_count file_length p.t) max_symbols
    then Some (session_with p.m p.t file_length p.table p.systematic p.seed)
    else None

-- the script of a session and what else its keys give
abbrev pub script_from : List ℕ → List (List ℕ) → List (ℕ × ℕ) → List Event → SessionData → Script
script_from file seeds links events session =
    record { session = session; file = file; relay_seeds = seeds; links = links; events = events }

-- the whole script, unless its file has too many symbols
unfoldable pub whole : Parameters → List ℕ → List (List ℕ) → List (ℕ × ℕ) → List Event → Result Script ScriptEnd
whole parameters file seeds links events =
    ok_or (option_map (script_from file seeds links events) (session_of parameters (length file))) ends.TooLong

-- what a table is read as. Keys are judged in this order: those that no script has, the parameters, file, relays, links and
-- events; and last whether the file has too many symbols.
unfoldable pub script_of : Members → Result Script ScriptEnd
script_of members = do
  only ← known members
  parameters ← parameters_of members
  file ← needs keys.File (value_at hex_bytes (codes "file") members)
  seeds ← needs keys.Relays (value_at seeds_of (codes "relays") members)
  links ← needs keys.Links (value_at (links_of (length seeds)) (codes "links") members)
  events ← needs keys.Event (events_at (get_member (codes "event") members))
  whole parameters file seeds links events

-- what a text is read as, if it is UTF-8
unfoldable pub script_of_text : List ℕ → Result Script ScriptEnd
script_of_text text = needs keys.Toml (parse_document text) >>= script_of

-- the answer is this one, unless memory ran out
abbrev pub IsUnlessMemory : {A : Type 0} → Result A ScriptEnd → Result A ScriptEnd → Type 0
IsUnlessMemory answer result = IsErrOf result ends.Memory ⊎ (result ≡ answer)
