-- Values of keys, as the code finds them.
use Rattle.std.proofs.Common.{◌≡◌, ℕ, suc, ◌<◌, ◌≤◌, ◌^◌, ℤ, pos, negsuc, nat_le, cond, List, [], ◌∷◌, length, get_or, Option, Some, None, option_map, Global, string_bytes, nat_cmp, Bor, Vec, refl, sym, ap, ◌∙◌, arith}
use Rattle.std.proofs.lemmas.Bool.Decides.{nat_tests}
use Rattle.std.specs.Option.{option_and_then, option_or, option_zip}
use Rattle.std.specs.Cmp.Lexicographic.{slice_cmp}
use Rattle.std.specs.Map.{lookup}
use Rattle.std.specs.BTreeMap.{is_at}
use Rattle.std.specs.Int.{FitsUnsignedBits}
use Rattle.std.specs.Prelude.{unsigned_abs, ◌≢◌, ◌==◌, codes}
use Rattle.toml.specs.Data.{Data, get_member}
use Rattle.toml.specs.View.{view, items_view, members_view}
use Rattle.toml.specs.declared.value.Value.{Value, Array}
use Rattle.toml.proofs.Views.{Entry, table_get, view-Array}
use Rattle.bats_script.specs.ScriptValues.{within, among, two_in, number_between, item_count, member_count, numbers_at, event_in, each, seed_of, seeds_of, link_of, links_of}
use Rattle.std.proofs.lemmas.Bool.{cond-true, cond-false, le-leb}
use Rattle.bats_world.specs.declared.event.Event.{Event}
use Rattle.bats_world.specs.declared.event.Event.TheVariants.{Send, Mix, Give}

-- ---- numbers

pub among-below : (low high n : ℕ) → n < low → None ≡ among low high n
unfolding among
among-below low high n h = grind (arith, nat_tests)

pub among-above : (low high n : ℕ) → high < n → None ≡ among low high n
unfolding among
among-above low high n h = grind (arith, nat_tests)

pub among-inside : (low high n : ℕ) → low ≤ n → n ≤ high → Some n ≡ among low high n
unfolding among
among-inside low high n h k = grind (arith, nat_tests)

pub within-fits : (low high n : ℕ) (z : ℤ) → FitsUnsignedBits 32 z → n ≡ unsigned_abs z → among low high n ≡ within low high z
unfolding within
within-fits low high n (pos m) fits is = ap (among low high) is
within-fits low high n (negsuc m) fits is = absurd fits

pub within-misfits : (low high : ℕ) (z : ℤ) → high < 2 ^ 32 → ¬ FitsUnsignedBits 32 z → None ≡ within low high z
unfolding within
within-misfits low high (pos m) small not' = among-above low high m (grind (arith, nat_tests, not'))
within-misfits low high (negsuc m) small not' = refl

-- ---- two items

pub two_in-other : (high low' high' : ℕ) (vs : List Value) → length vs ≢ 2 → None ≡ two_in high low' high' (items_view vs)
unfolding two_in
two_in-other high low' high' [] h = refl
two_in-other high low' high' (x ∷ []) h = refl
two_in-other high low' high' (x ∷ y ∷ []) h = absurd (h refl)
two_in-other high low' high' (x ∷ y ∷ z ∷ rest) h = refl

pub two_in-both : (high low' high' : ℕ) (vs : List Value) (x y : Value) → length vs ≡ 2 → x ≡ get_or vs 0 x → y ≡ get_or vs 1 y
    → option_zip (number_between 0 high (view x)) (number_between low' high' (view y)) ≡ two_in high low' high' (items_view vs)
unfolding two_in
two_in-both high low' high' [] x y h a b = absurd (omega (arith, h))
two_in-both high low' high' (v ∷ []) x y h a b = absurd (omega (arith, h))
two_in-both high low' high' (v ∷ w ∷ []) x y h a b =
    ap (λ k. option_zip (number_between 0 high (view k)) (number_between low' high' (view y))) a
    ∙ ap (λ k. option_zip (number_between 0 high (view v)) (number_between low' high' (view k))) b
two_in-both high low' high' (v ∷ w ∷ z ∷ rest) x y h a b = absurd (omega (arith, h))

-- ---- look-ups

pub found : {A : Type 0} (f : Data → Option A) (k : List ℕ) (es : List Entry) (r : Option (Bor Value)) (x : Bor Value)
    → option_map (λ x. x.now) r ≡ lookup (is_at (λ x. slice_cmp nat_cmp k (string_bytes x))) es → r ≡ Some x
    → f (view x.now) ≡ option_and_then f (get_member k (members_view es))
found f k es r x fact is =
    ap (λ o. option_and_then f (option_map (λ (x : Bor Value). view x.now) o)) (sym is) ∙ ap (option_and_then f) (table_get r k es fact)

pub missing : {A : Type 0} (f : Data → Option A) (k : List ℕ) (es : List Entry) (r : Option (Bor Value))
    → option_map (λ x. x.now) r ≡ lookup (is_at (λ x. slice_cmp nat_cmp k (string_bytes x))) es → r ≡ None
    → None ≡ option_and_then f (get_member k (members_view es))
missing f k es r fact is =
    ap (λ o. option_and_then f (option_map (λ (x : Bor Value). view x.now) o)) (sym is) ∙ ap (option_and_then f) (table_get r k es fact)

-- ---- counts

pub item_count-view : (vs : List Value) → item_count (items_view vs) ≡ length vs
item_count-view [] = refl
item_count-view (v ∷ vs) = ap suc (item_count-view vs)

pub member_count-view : (es : List Entry) → member_count (members_view es) ≡ length es
member_count-view [] = refl
member_count-view (e ∷ es) = ap suc (member_count-view es)

-- ---- events

-- the event that the numbers under the three keys make
abbrev pub event_by : Option (ℕ × ℕ) → Option (ℕ × ℕ) → Option (ℕ × ℕ) → Option Event
event_by send mix give =
    option_or (option_map (λ n. Send n.0 n.1) send) (option_or (option_map (λ n. Mix n.0 n.1) mix) (option_map (λ n. Give n.0 n.1) give))

pub event_in-other : (es : List Entry) → length es ≢ 1 → None ≡ event_in (members_view es)
unfolding event_in
event_in-other es other =
    let count = member_count-view es in
    sym (cond-false (member_count (members_view es) == 1) _ _ (grind (arith, nat_tests, count, other)))

pub event_in-one : (es : List Entry) (send mix give : Option (ℕ × ℕ)) → length es ≡ 1
    → send ≡ numbers_at (codes "send") (members_view es) → mix ≡ numbers_at (codes "mix") (members_view es)
    → give ≡ numbers_at (codes "give") (members_view es) → event_by send mix give ≡ event_in (members_view es)
unfolding event_in
event_in-one es send mix give one s m g =
    let count = member_count-view es in
    ap (λ x. event_by x mix give) s ∙ ap (λ x. event_by (numbers_at (codes "send") (members_view es)) x give) m
    ∙ ap (λ x. event_by (numbers_at (codes "send") (members_view es)) (numbers_at (codes "mix") (members_view es)) x) g
    ∙ sym (cond-true (member_count (members_view es) == 1) _ _ (grind (arith, nat_tests, count, one)))

-- ---- lists with a limit

few : {A : Type 0} (vs : List Value) (most : ℕ) (o : Option A) → length vs ≤ most → o ≡ cond (nat_le (item_count (items_view vs)) most) o None
few vs most o h = sym (cond-true (nat_le (item_count (items_view vs)) most) o None (le-leb _ most (let n = item_count-view vs in omega (arith, h))))

many : {A : Type 0} (vs : List Value) (most : ℕ) (o : Option A) → most < length vs → cond (nat_le (item_count (items_view vs)) most) o None ≡ None
many vs most o h = let n = item_count-view vs in cond-false (nat_le (item_count (items_view vs)) most) o None (grind (arith, nat_tests, n, h))

pub seeds_of-few : (v : Value) (a : Vec Value Global) → v ≡ Array a → length a.items ≤ 16 → each seed_of (items_view a.items) ≡ seeds_of (view v)
unfolding seeds_of
seeds_of-few v a is h = few a.items 16 (each seed_of (items_view a.items)) h ∙ sym (ap (λ x. seeds_of (view x)) is ∙ ap seeds_of (view-Array a))

pub seeds_of-many : (v : Value) (a : Vec Value Global) → v ≡ Array a → 16 < length a.items → seeds_of (view v) ≡ None
unfolding seeds_of
seeds_of-many v a is h = ap (λ x. seeds_of (view x)) is ∙ ap seeds_of (view-Array a) ∙ many a.items 16 (each seed_of (items_view a.items)) h

pub links_of-few : (relays : ℕ) (v : Value) (a : Vec Value Global) → v ≡ Array a → length a.items ≤ 256
    → each (link_of relays) (items_view a.items) ≡ links_of relays (view v)
unfolding links_of
links_of-few relays v a is h =
    few a.items 256 (each (link_of relays) (items_view a.items)) h ∙ sym (ap (λ x. links_of relays (view x)) is ∙ ap (links_of relays) (view-Array a))

pub links_of-many : (relays : ℕ) (v : Value) (a : Vec Value Global) → v ≡ Array a → 256 < length a.items → links_of relays (view v) ≡ None
unfolding links_of
links_of-many relays v a is h =
    ap (λ x. links_of relays (view x)) is ∙ ap (links_of relays) (view-Array a) ∙ many a.items 256 (each (link_of relays) (items_view a.items)) h
