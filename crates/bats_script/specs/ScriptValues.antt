-- The values that the keys of a script may have, over what a TOML text is read as.
use Rattle.std.specs.Prelude.{ℕ, suc, ◌+◌, ℤ, pos, negsuc, nat_le, ◌==◌, ◌&&◌, List, [], ◌∷◌, Option, Some, None, option_map, if◌then◌else◌, codes}
use Rattle.std.specs.Option.{option_and_then, option_or, option_zip}
use Rattle.std.specs.Result.{result_ok}
use Rattle.hex.specs.Hex.{decode_of, decode_sized}
use Rattle.toml.specs.Data.{Data, string, integer, array, table, Items, no_items, item, Members, no_members, member, get_member}
use Rattle.bats_world.specs.declared.event.Event.{Event}
use Rattle.bats_world.specs.declared.event.Event.TheVariants.{Send, Mix, Give}

-- the number, if it is in this range
unfoldable pub among : ℕ → ℕ → ℕ → Option ℕ
among low high n = if nat_le low n && nat_le n high then Some n else None

-- the number of this range that an integer is
unfoldable pub within : ℕ → ℕ → ℤ → Option ℕ
within low high (pos n) = among low high n
within low high (negsuc n) = None

-- an integer of this range
unfoldable pub number_between : ℕ → ℕ → Data → Option ℕ
number_between low high (integer z) = within low high z
number_between low high _ = None

-- the bytes of a string of an even number of hexadecimal digits, of either case
unfoldable pub hex_bytes : Data → Option (List ℕ)
hex_bytes (string text) = result_ok (decode_of text)
hex_bytes _ = None

-- the 16 bytes of a string of 32 hexadecimal digits, of either case
unfoldable pub seed_of : Data → Option (List ℕ)
seed_of (string text) = result_ok (decode_sized text 16)
seed_of _ = None

-- an item's value before those of the others, where all have one
abbrev pub before : {A : Type 0} → Option A → Option (List A) → Option (List A)
before (Some value) (Some values) = Some (value ∷ values)
before _ _ = None

-- the values of all items, where each has one
abbrev pub each : {A : Type 0} → (Data → Option A) → Items → Option (List A)
each value_of no_items = Some []
each value_of (item d rest) = before (value_of d) (each value_of rest)

-- the number of items
abbrev pub item_count : Items → ℕ
item_count no_items = 0
item_count (item d rest) = suc (item_count rest)

-- at most 16 seeds of relays
unfoldable pub seeds_of : Data → Option (List (List ℕ))
seeds_of (array items) = if nat_le (item_count items) 16 then each seed_of items else None
seeds_of _ = None

-- two integers: the first up to `high`, the second from `low'` to `high'`
unfoldable pub two_in : ℕ → ℕ → ℕ → Items → Option (ℕ × ℕ)
two_in high low' high' (item x (item y no_items)) =
    option_zip (number_between 0 high x) (number_between low' high' y)
two_in high low' high' _ = None

-- an array of two such integers
unfoldable pub two_numbers : ℕ → ℕ → ℕ → Data → Option (ℕ × ℕ)
two_numbers high low' high' (array items) = two_in high low' high' items
two_numbers high low' high' _ = None

-- a link between nodes, of which 0 is the source and the one after the relays is the sink
abbrev pub link_of : ℕ → Data → Option (ℕ × ℕ)
link_of relays = two_numbers relays 1 (relays + 1)

-- at most 256 links
unfoldable pub links_of : ℕ → Data → Option (List (ℕ × ℕ))
links_of relays (array items) = if nat_le (item_count items) 256 then each (link_of relays) items else None
links_of relays _ = None

-- two numbers below 2^32
abbrev pub numbers_of : Data → Option (ℕ × ℕ)
numbers_of = two_numbers 4294967295 0 4294967295

-- the number of keys of a table
abbrev pub member_count : Members → ℕ
member_count no_members = 0
member_count (member key value rest) = suc (member_count rest)

-- two numbers below 2^32, under this key
abbrev pub numbers_at : List ℕ → Members → Option (ℕ × ℕ)
numbers_at key members = option_and_then numbers_of (get_member key members)

-- the event of a table with one key, which is `send`, `mix` or `give`
unfoldable pub event_in : Members → Option Event
event_in members =
    if member_count members == 1
    then option_or (option_map (λ n. Send n.0 n.1) (numbers_at (codes "send") members))
    (option_or (option_map (λ n. Mix n.0 n.1) (numbers_at (codes "mix") members))
    (option_map (λ n. Give n.0 n.1) (numbers_at (codes "give") members)))
    else None

-- the event of a value, which has to be a table
unfoldable pub event_of : Data → Option Event
event_of (table inner) = event_in inner
event_of _ = None

-- events, one after the other
unfoldable pub events_of : Data → Option (List Event)
events_of (array items) = each event_of items
events_of _ = None
