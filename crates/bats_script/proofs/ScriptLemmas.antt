-- Steps of the reading of a script, one after the other.
use Rattle.std.proofs.Common.{◌≡◌, ℕ, ◌<◌, ◌≤◌, ◌&&◌, nat_le, Bool, true, false, List, ◌∷◌, length, Option, Some, None, Result, Ok, Err, string_bytes, refl, sym, ap, subst, ◌∙◌, inl, inr, arith}
use Rattle.std.specs.Prelude.{IsErrOf, IsErrAnd, IfOk, ◌⊎◌, ◌↔◌}
use Rattle.std.specs.Option.{option_map, option_and_then, ok_or}
use Rattle.std.specs.Result.{result_ok, result_err}
use Rattle.std.proofs.lemmas.Bool.{cond-true, cond-false, le-leb, leb-true, and_parts}
use Rattle.std.proofs.lemmas.Bool.Decides.{nat_tests}
use Rattle.std.proofs.lemmas.Option.{same_Some, none-some, cond_some}
use Rattle.toml.specs.Parse.{parse_document}
use Rattle.toml.specs.Data.{Data, Members, string, integer, float, boolean, datetime, array, table}
use Rattle.toml.specs.View.{members_view}
use Rattle.toml.proofs.Views.{Entry}
use Rattle.std.proofs.Common.{ℤ, pos, negsuc}
use Rattle.bats_model.specs.Session.{SessionData, IsSession, symbols_of, symbol_count, max_symbols}
use Rattle.bats_model.specs.declared.session.BadSession.{BadSession}
use Rattle.bats_model.specs.declared.session.BadSession.TheVariants as bad
use Rattle.bats_script.specs.ScriptValues.{among, within, number_between, each, item_count, seed_of, seeds_of}
use Rattle.bats_script.proofs.EachLemmas.{each-length, cond_option}
use Rattle.bats_script.specs.Script.{needs, ◌>>=◌, is_known, are_known, known, script_of, script_of_text, session_of, whole, script_from, IsUnlessMemory}
use Rattle.bats_script.specs.steps.Ranges.{AreWithin}
use Rattle.bats_world.specs.declared.event.Event.{Event}
use Rattle.bats_script.specs.declared.parameters.Parameters.{Parameters}
use Rattle.bats_script.specs.declared.script_end.ScriptKey.{ScriptKey}
use Rattle.bats_script.specs.declared.script_end.ScriptEnd.{ScriptEnd}
use Rattle.bats_script.specs.declared.script_end.ScriptKey.TheVariants as keys
use Rattle.bats_script.specs.declared.script_end.ScriptEnd.TheVariants.{Key, Memory, TooLong}

pub needs-some : {A : Type 0} (key : ScriptKey) (a : A) (o : Option A) → o ≡ Some a → Ok a ≡ needs key o
unfolding needs
needs-some key a o is = sym (ap (λ x. ok_or x (Key key)) is)

pub needs-none : {A : Type 0} (key : ScriptKey) (o : Option A) → o ≡ None → Err (Key key) ≡ needs key o
unfolding needs
needs-none key o is = sym (ap (λ x. ok_or x (Key key)) is)

-- what the code asks for
pub asked : {A : Type 0} (key : ScriptKey) (x : Result A ScriptEnd) (found o : Option A)
    → x ≡ ok_or found (Key key) → found ≡ o → needs key o ≡ x
unfolding needs
asked key x found o from at = ap (λ f. ok_or f (Key key)) (sym at) ∙ sym from

found_part : {A : Type 0} (e : ScriptEnd) (o : Option A) → result_ok (ok_or o e) ≡ o
found_part e None = refl
found_part e (Some a) = refl

pub given : {A : Type 0} (key : ScriptKey) (o : Option A) (a : A) → needs key o ≡ Ok a → o ≡ Some a
unfolding needs
given key o a is = sym (found_part (Key key) o) ∙ ap result_ok is

-- a step that gives a value, and one that is refused
pub step : {A B : Type 0} (r : Result A ScriptEnd) (a : A) (f : A → Result B ScriptEnd) → r ≡ Ok a → (r >>= f) ≡ f a
unfolding ◌>>=◌
step r a f is = ap (λ x. x >>= f) is

pub stop : {A B : Type 0} (r : Result A ScriptEnd) (e : ScriptEnd) (f : A → Result B ScriptEnd) → r ≡ Err e → (r >>= f) ≡ Err e
unfolding ◌>>=◌
stop r e f is = ap (λ x. x >>= f) is

-- the error that a function hands on is its result
pub exit-is : {B : Type 0} (r : Result B ScriptEnd) (e : ScriptEnd) → IsErrAnd r (λ y. y ≡ e) → r ≡ Err e
exit-is (Ok b) e h = absurd h
exit-is (Err y) e h = ap Err h

-- the same of steps that may want memory
pub gives : {A : Type 0} (answer : Result A ScriptEnd) (a : A) → IsUnlessMemory answer (Ok a) → answer ≡ Ok a
gives answer a (inl memory) = absurd (none-some a (ap result_ok (sym memory)))
gives answer a (inr same) = sym same

pub ends : {A B : Type 0} (answer : Result A ScriptEnd) (e : ScriptEnd) (f : A → Result B ScriptEnd) (all r : Result B ScriptEnd)
    → all ≡ (answer >>= f) → IsUnlessMemory answer (Err e) → IsErrAnd r (λ y. y ≡ e) → IsUnlessMemory all r
ends answer e f all r is (inl memory) exit = inl (exit-is r e exit ∙ ap Err (same_Some e Memory (ap result_err memory)))
ends answer e f all r is (inr same) exit = inr (exit-is r e exit ∙ sym (is ∙ stop answer e f (sym same)))

-- ---- ranges

among-range : (low high n x : ℕ) → among low high n ≡ Some x → (low ≤ x) × (x ≤ high)
unfolding among
among-range low high n x is =
    let (both, same) = cond_some (nat_le low n && nat_le n high) n x is in
    let (low', high') = and_parts (nat_le low n) (nat_le n high) both in
    let a = leb-true low n low' in
    let b = leb-true n high high' in
    (omega (arith, a, same), omega (arith, b, same))

within-range : (low high : ℕ) (z : ℤ) (x : ℕ) → within low high z ≡ Some x → (low ≤ x) × (x ≤ high)
unfolding within
within-range low high (pos n) x is = among-range low high n x is
within-range low high (negsuc n) x is = absurd (none-some x is)

pub number-range : (low high : ℕ) (d : Data) (x : ℕ) → number_between low high d ≡ Some x → (low ≤ x) × (x ≤ high)
unfolding number_between
number-range low high (integer z) x is = within-range low high z x is
number-range low high (string s) x is = absurd (none-some x is)
number-range low high (float f) x is = absurd (none-some x is)
number-range low high (boolean b) x is = absurd (none-some x is)
number-range low high (datetime d) x is = absurd (none-some x is)
number-range low high (array ds) x is = absurd (none-some x is)
number-range low high (table ms) x is = absurd (none-some x is)

pub value-range : (low high : ℕ) (o : Option Data) (x : ℕ) → option_and_then (number_between low high) o ≡ Some x → (low ≤ x) × (x ≤ high)
value-range low high None x is = absurd (none-some x is)
value-range low high (Some d) x is = number-range low high d x is

-- ---- known keys

pub known-more : (e : Entry) (before rest : List Entry) (all : Bool) → before ≡ e ∷ rest → are_known (members_view before) ≡ all
    → is_known (string_bytes e.0) ≡ true → are_known (members_view rest) ≡ all
known-more e before rest all iter so_far good =
    sym (ap (λ b. b && are_known (members_view rest)) good) ∙ ap (λ es. are_known (members_view es)) (sym iter) ∙ so_far

pub known-not : (e : Entry) (before rest : List Entry) (all : Bool) → before ≡ e ∷ rest → are_known (members_view before) ≡ all
    → is_known (string_bytes e.0) ≡ false → false ≡ all
known-not e before rest all iter so_far bad' =
    sym (ap (λ b. b && are_known (members_view rest)) bad') ∙ ap (λ es. are_known (members_view es)) (sym iter) ∙ so_far

pub known-yes : (members : Members) → are_known members ≡ true → known members ≡ Ok tt
unfolding known
known-yes members is = cond-true (are_known members) _ _ is

pub known-none : (members : Members) → are_known members ≡ false → known members ≡ Err (Key keys.Unknown)
unfolding known
known-none members is = cond-false (are_known members) _ _ is

-- ---- texts

pub text-some : (text : List ℕ) (members : Members) → parse_document text ≡ Some members → script_of_text text ≡ script_of members
unfolding script_of_text
text-some text members is = step (needs keys.Toml (parse_document text)) members script_of (sym (needs-some keys.Toml members _ is))

pub text-none : (text : List ℕ) → parse_document text ≡ None → script_of_text text ≡ Err (Key keys.Toml)
unfolding script_of_text
text-none text is = stop (needs keys.Toml (parse_document text)) (Key keys.Toml) script_of (sym (needs-none keys.Toml _ is))

-- ---- relays

few-values : (d : Data) (seeds : List (List ℕ)) → seeds_of d ≡ Some seeds → length seeds ≤ 16
unfolding seeds_of
few-values (array items) seeds is =
    let (few, same) = cond_option (nat_le (item_count items) 16) (each seed_of items) seeds is in
    let count = each-length seed_of items seeds same in
    let bound = leb-true (item_count items) 16 few in
    omega (arith, count, bound)
few-values (integer z) seeds is = absurd (none-some seeds is)
few-values (string s) seeds is = absurd (none-some seeds is)
few-values (float f) seeds is = absurd (none-some seeds is)
few-values (boolean b) seeds is = absurd (none-some seeds is)
few-values (datetime d) seeds is = absurd (none-some seeds is)
few-values (table ms) seeds is = absurd (none-some seeds is)

pub few-seeds : (o : Option Data) (seeds : List (List ℕ)) → option_and_then seeds_of o ≡ Some seeds → length seeds ≤ 16
few-seeds None seeds is = absurd (none-some seeds is)
few-seeds (Some d) seeds is = few-values d seeds is

-- ---- sessions

pub session_of-new : (p : Parameters) (n : ℕ) (r : Result SessionData BadSession) → AreWithin p
    → IfOk r (λ session. session ≡ record { m = p.m; t = p.t; file_length = n; table = p.table; systematic = p.systematic; seed = p.seed })
    → IfOk r IsSession
    → (IsErrOf r bad.BatchSize ↔ ((p.m ≡ 0) ⊎ (32 < p.m)))
    → (IsErrOf r bad.SymbolSize ↔ ((1 ≤ p.m) × (p.m ≤ 32) × ((p.t ≡ 0) ⊎ (2048 < p.t))))
    → (IsErrOf r bad.Table ↔ ((1 ≤ p.m) × (p.m ≤ 32) × (1 ≤ p.t) × (p.t ≤ 2048) × (2 ≤ p.table)))
    → ((symbols : ℕ) → IsErrOf r (bad.TooLong symbols)
    ↔ ((1 ≤ p.m) × (p.m ≤ 32) × (1 ≤ p.t) × (p.t ≤ 2048) × (p.table < 2) × (4096 < symbols) × (symbols ≡ symbol_count n p.t)))
    → result_ok r ≡ session_of p n
unfolding session_of
session_of-new p n (Ok s) w is sound m t degrees long =
    let few : symbol_count n p.t ≤ 4096 = subst (λ (x : SessionData). symbols_of x ≤ max_symbols) is sound.symbols in
    ap Some is ∙ sym (cond-true (nat_le (symbol_count n p.t) 4096) _ _ (le-leb (symbol_count n p.t) 4096 few))
session_of-new p n (Err bad.BatchSize) w is sound m t degrees long =
    let h = m.0 refl in let low = w.m_low in let high = w.m_high in absurd (grind arith)
session_of-new p n (Err bad.SymbolSize) w is sound m t degrees long =
    let h = (t.0 refl).2 in let low = w.t_low in let high = w.t_high in absurd (grind arith)
session_of-new p n (Err bad.Table) w is sound m t degrees long =
    let h = (degrees.0 refl).4 in let low = w.table in absurd (omega arith)
session_of-new p n (Err (bad.TooLong symbols)) w is sound m t degrees long =
    let above = ((long symbols).0 refl).5 in let h = ((long symbols).0 refl).6 in
    sym (cond-false (nat_le (symbol_count n p.t) 4096) _ _ (grind (arith, nat_tests, above, h)))

pub whole-some : (p : Parameters) (file : List ℕ) (seeds : List (List ℕ)) (links : List (ℕ × ℕ)) (events : List Event) (s : SessionData)
    → Some s ≡ session_of p (length file) → Ok (script_from file seeds links events s) ≡ whole p file seeds links events
unfolding whole
whole-some p file seeds links events s is = ap (λ o. ok_or (option_map (script_from file seeds links events) o) TooLong) is

pub whole-none : (p : Parameters) (file : List ℕ) (seeds : List (List ℕ)) (links : List (ℕ × ℕ)) (events : List Event)
    → None ≡ session_of p (length file) → Err TooLong ≡ whole p file seeds links events
unfolding whole
whole-none p file seeds links events is = ap (λ o. ok_or (option_map (script_from file seeds links events) o) TooLong) is
