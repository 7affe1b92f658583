-- What every script keeps, from what it is read by.
use Rattle.std.proofs.Common.{◌≡◌, ℕ, ◌≤◌, ◌+◌, nat_le, List, [], ◌∷◌, length, Option, Some, None, Result, Ok, Err, refl, sym, ap, subst}
use Rattle.std.specs.Prelude.{IfOk, codes}
use Rattle.std.specs.List.{All, AllByRecursion}
use Rattle.std.specs.Option.{option_map, option_and_then, option_zip, ok_or}
use Rattle.std.specs.Result.{result_ok}
use Rattle.std.proofs.lemmas.List.Elements.{All-from_recursion}
use Rattle.std.proofs.lemmas.Option.{same_Some, none-some, cond_some}
use Rattle.toml.specs.Data.{Data, string, integer, float, boolean, datetime, array, table, Items, no_items, item, Members, get_member}
use Rattle.bats_model.specs.Session.{SessionData, symbol_count, max_symbols}
use Rattle.bats_script.specs.ScriptValues.{each, before, item_count, number_between, two_in, two_numbers, link_of, links_of, seeds_of, hex_bytes}
use Rattle.bats_script.specs.Script.{needs, ◌>>=◌, value_at, known, parameters_of, events_at, session_of, whole, script_from, script_of, IsUnlessMemory}
use Rattle.bats_world.specs.World.{IsLink}
use Rattle.bats_script.specs.Sound.{IsSound}
use Rattle.bats_world.specs.declared.event.Event.{Event}
use Rattle.bats_script.specs.declared.parameters.Parameters.{Parameters}
use Rattle.bats_script.specs.declared.script.Script.{Script}
use Rattle.bats_script.specs.declared.script_end.ScriptKey.TheVariants as keys
use Rattle.bats_script.specs.declared.script_end.ScriptEnd.{ScriptEnd}
use Rattle.bats_script.specs.declared.script_end.ScriptEnd.TheVariants.{TooLong}
use Rattle.bats_script.proofs.EachLemmas.{cond_option}
use Rattle.bats_script.proofs.ScriptLemmas.{given, gives, number-range, few-seeds}

-- ---- items

both : {A : Type 0} (P : A → Type 0) (o : Option A) (p : Option (List A)) (xs : List A) → before o p ≡ Some xs
    → ((a : A) → o ≡ Some a → P a) → ((ys : List A) → p ≡ Some ys → AllByRecursion P ys) → AllByRecursion P xs
both P (Some a) (Some ys) xs is here more = subst (AllByRecursion P) (same_Some (a ∷ ys) xs is) (here a refl, more ys refl)
both P (Some a) None xs is here more = absurd (none-some xs is)
both P None (Some ys) xs is here more = absurd (none-some xs is)
both P None None xs is here more = absurd (none-some xs is)

each-keeps : {A : Type 0} (f : Data → Option A) (P : A → Type 0) (items : Items) (xs : List A) → each f items ≡ Some xs
    → ((d : Data) (a : A) → f d ≡ Some a → P a) → AllByRecursion P xs
each-keeps f P no_items xs is keeps = subst (AllByRecursion P) (same_Some [] xs is) tt
each-keeps f P (item d rest) xs is keeps =
    both P (f d) (each f rest) xs is (keeps d) (λ ys h. each-keeps f P rest ys h keeps)

-- ---- links

zipped : (o p : Option ℕ) (pair : ℕ × ℕ) → option_zip o p ≡ Some pair → (o ≡ Some pair.0) × (p ≡ Some pair.1)
zipped (Some a) (Some b) pair is =
    let same = same_Some (a, b) pair is in
    (ap (λ (x : ℕ × ℕ). Some x.0) same, ap (λ (x : ℕ × ℕ). Some x.1) same)
zipped (Some a) None pair is = absurd (none-some pair is)
zipped None (Some b) pair is = absurd (none-some pair is)
zipped None None pair is = absurd (none-some pair is)

two-ranges : (relays : ℕ) (items : Items) (link : ℕ × ℕ) → two_in relays 1 (relays + 1) items ≡ Some link → IsLink relays link
unfolding two_in
two-ranges relays no_items link is = absurd (none-some link is)
two-ranges relays (item x no_items) link is = absurd (none-some link is)
two-ranges relays (item x (item y (item z rest))) link is = absurd (none-some link is)
two-ranges relays (item x (item y no_items)) link is =
    let (one, two) = zipped (number_between 0 relays x) (number_between 1 (relays + 1) y) link is in
    let from = number-range 0 relays x link.0 one in
    let to = number-range 1 (relays + 1) y link.1 two in
    record { from = from.1; low = to.0; high = to.1 }

link-range : (relays : ℕ) (d : Data) (link : ℕ × ℕ) → link_of relays d ≡ Some link → IsLink relays link
unfolding two_numbers
link-range relays (array items) link is = two-ranges relays items link is
link-range relays (integer z) link is = absurd (none-some link is)
link-range relays (string s) link is = absurd (none-some link is)
link-range relays (float f) link is = absurd (none-some link is)
link-range relays (boolean b) link is = absurd (none-some link is)
link-range relays (datetime d) link is = absurd (none-some link is)
link-range relays (table ms) link is = absurd (none-some link is)

links-range : (relays : ℕ) (d : Data) (links : List (ℕ × ℕ)) → links_of relays d ≡ Some links → All (IsLink relays) links
unfolding links_of
links-range relays (array items) links is =
    let (few, same) = cond_option (nat_le (item_count items) 256) (each (link_of relays) items) links is in
    All-from_recursion (IsLink relays) links (each-keeps (link_of relays) (IsLink relays) items links same (link-range relays))
links-range relays (integer z) links is = absurd (none-some links is)
links-range relays (string s) links is = absurd (none-some links is)
links-range relays (float f) links is = absurd (none-some links is)
links-range relays (boolean b) links is = absurd (none-some links is)
links-range relays (datetime d) links is = absurd (none-some links is)
links-range relays (table ms) links is = absurd (none-some links is)

value-links : (relays : ℕ) (o : Option Data) (links : List (ℕ × ℕ)) → option_and_then (links_of relays) o ≡ Some links → All (IsLink relays) links
value-links relays None links is = absurd (none-some links is)
value-links relays (Some d) links is = links-range relays d links is

-- ---- steps

-- a step that led to a value
pub record Led {A B : Type 0} (r : Result A ScriptEnd) (f : A → Result B ScriptEnd) (b : B) : Type 0 where
  pub value : A
  pub is : r ≡ Ok value
  pub then' : f value ≡ Ok b

led : {A B : Type 0} (r : Result A ScriptEnd) (f : A → Result B ScriptEnd) (b : B) → (r >>= f) ≡ Ok b → Led r f b
unfolding ◌>>=◌
led (Ok a) f b is = record { value = a; is = refl; then' = is }
led (Err e) f b is = absurd (none-some b (ap result_ok is))

made : (file : List ℕ) (seeds : List (List ℕ)) (links : List (ℕ × ℕ)) (events : List Event) (o : Option SessionData) (script : Script)
    → ok_or (option_map (script_from file seeds links events) o) TooLong ≡ Ok script → length seeds ≤ 16
    → All (IsLink (length seeds)) links → ((s : SessionData) → o ≡ Some s → s.file_length ≡ length file) → IsSound script
made file seeds links events None script is few between size = absurd (none-some script (ap result_ok is))
made file seeds links events (Some s) script is few between size =
    subst IsSound (same_Some (script_from file seeds links events s) script (ap result_ok is))
    (record { file = sym (size s refl); relays = few; links = between })

sized : (p : Parameters) (n : ℕ) (s : SessionData) → session_of p n ≡ Some s → s.file_length ≡ n
unfolding session_of
sized p n s is =
    let (small, same) = cond_some (nat_le (symbol_count n p.t) max_symbols)
    (record { m = p.m; t = p.t; file_length = n; table = p.table; systematic = p.systematic; seed = p.seed }) s is in
    sym (ap (λ (x : SessionData). x.file_length) same)

pub script-sound : (members : Members) (script : Script) → script_of members ≡ Ok script → IsSound script
unfolding script_of whole
script-sound members script is =
    let a = led (known members) _ script is in
    let p = led (parameters_of members) _ script a.then' in
    let f = led (needs keys.File (value_at hex_bytes (codes "file") members)) _ script p.then' in
    let s = led (needs keys.Relays (value_at seeds_of (codes "relays") members)) _ script f.then' in
    let l = led (needs keys.Links (value_at (links_of (length s.value)) (codes "links") members)) _ script s.then' in
    let e = led (needs keys.Event (events_at (get_member (codes "event") members))) _ script l.then' in
    made f.value s.value l.value e.value (session_of p.value (length f.value)) script e.then'
    (few-seeds (get_member (codes "relays") members) s.value (given keys.Relays _ s.value s.is))
    (value-links (length s.value) (get_member (codes "links") members) l.value (given keys.Links _ l.value l.is))
    (sized p.value (length f.value))

pub result-sound : (members : Members) (r : Result Script ScriptEnd) → IsUnlessMemory (script_of members) r → IfOk r IsSound
result-sound ms (Ok script) h = script-sound ms script (gives (script_of ms) script h)
result-sound ms (Err e) h = tt
