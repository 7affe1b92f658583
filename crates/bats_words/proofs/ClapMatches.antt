-- What is found among the matches of words that are items.
use Rattle.std.proofs.Common.{◌≡◌, ℕ, ◌+◌, ◌≤◌, Bool, true, false, cond, ◌&&◌, ◌||◌, nat_le, List, [], ◌∷◌, ◌++◌, map, Option, Some, None, refl, sym, ap, subst, ◌∙◌, arith, codes, ◌⊎◌, inl, inr, ⊎_elim}
use Rattle.std.specs.Prelude.{count_by, slice_get, find}
use Rattle.std.specs.List.{fold, list_all}
use Rattle.std.specs.Option.{option_and_then, option_or}
use Rattle.std.specs.Str.{bytes_eq}
use Rattle.std.proofs.lemmas.Bool.{true≢false, cases_Bool, and_parts}
use Rattle.std.proofs.lemmas.Bool.Decides.{nat_tests}
use Rattle.std.proofs.lemmas.List.Sums.{sum_by-cons, sum_by_push}
use Rattle.std.proofs.lemmas.Slice.Eq.{bytes_eq-Decides}
use Rattle.clap.specs.Simple.{Shape}
use Rattle.clap.specs.Takes.{built_takes, default_passes, is_valid}
use Rattle.clap.specs.Walk.{Row, Rule, Text, default_rows, first_of, has_row, more_values, nothing_held, one_of, reading_by, row_text, rows_after, with_default}
use Rattle.clap.specs.declared.parser.matches.ValueSource.TheVariants.{DefaultValue}
use Rattle.bats_words.specs.WordItems.{KnownNames, Item, is_among, items_of, come_once, times_named, value_of, is_there}
use Rattle.bats_words.proofs.ListTests.{list_all-append}
use Rattle.bats_words.proofs.WordLookups.{by_items, times_named-cons, flag_is_other}
use Rattle.bats_words.proofs.ClapWalk.{AreNew, Knows, at_row-new, bytes_eq-itself, item_row, walks-items}

-- ---- no item has a row before its turn, where no name comes twice

abbrev row_times : Text → List Row → ℕ
row_times name rows = count_by (λ row. bytes_eq row.id name) rows

row_times-cons : (name : Text) (row : Row) (rows : List Row) → row_times name (row ∷ rows) ≡ cond (bytes_eq row.id name) 1 0 + row_times name rows
row_times-cons name row rows = sum_by-cons (λ (row : Row). cond (bytes_eq row.id name) 1 0) row rows

row_times-push : (name : Text) (rows : List Row) (row : Row) → row_times name (rows ++ row ∷ []) ≡ row_times name rows + cond (bytes_eq row.id name) 1 0
row_times-push name rows row = sum_by_push (λ (row : Row). cond (bytes_eq row.id name) 1 0) rows row

no_row : (name : Text) (rows : List Row) → row_times name rows ≤ 0 → has_row name rows ≡ false
no_row name [] none = refl
no_row name (row ∷ rows) none = go (bytes_eq row.id name) (subst (λ n. n ≤ 0) (row_times-cons name row rows) none) (no_row name rows)
  where
    go : (b : Bool) → cond b 1 0 + row_times name rows ≤ 0 → (row_times name rows ≤ 0 → has_row name rows ≡ false) → (b || has_row name rows) ≡ false
    go true n more = absurd (omega (arith, n))
    go false n more = more (omega (arith, n))

abbrev IsNamed : KnownNames → Text → Type 0
IsNamed known name = (is_among known.options name ≡ true) ⊎ (is_among known.flags name ≡ true)

-- each name comes at most once among these rows and items
abbrev ComeOnce : KnownNames → List Row → List Item → Type 0
ComeOnce known rows items = (name : Text) → IsNamed known name → row_times name rows + times_named name items ≤ 1

head_is_new : (known : KnownNames) (rows : List Row) (item : Item) (items : List Item) → ComeOnce known rows (item ∷ items) → IsNamed known item.name → has_row item.name rows ≡ false
head_is_new known rows item items once named =
    let n = once item.name named in
    let same : ◌≡◌ {A = ℕ} (cond (bytes_eq item.name item.name) 1 0) 1 = ap (λ b. cond b 1 0) (bytes_eq-itself item.name) in
    no_row item.name rows (omega (arith, n, times_named-cons item.name item items, same))

others_are_new : (known : KnownNames) (rows : List Row) (item : Item) (items : List Item) → ComeOnce known rows (item ∷ items) → ComeOnce known (rows ++ item_row item ∷ []) items
others_are_new known rows item items once name named =
    omega (arith, once name named, times_named-cons name item items, row_times-push name rows (item_row item))

are_new : (known : KnownNames) (words : List Text) (items : List Item) → items_of known words ≡ Some items → (rows : List Row) → ComeOnce known rows items → AreNew rows items
are_new known = by_items known (λ words items. (rows : List Row) → ComeOnce known rows items → AreNew rows items) (record {
  none = λ rows once. tt;
  flag = λ word rest items holds on rows once.
      let item : Item = record { name = word; value = None } in
      (head_is_new known rows item items once (inr holds), on (rows ++ item_row item ∷ []) (others_are_new known rows item items once));
  option = λ word next rest items none among holds on rows once.
      let item : Item = record { name = word; value = Some next } in
      (head_is_new known rows item items once (inl among), on (rows ++ item_row item ∷ []) (others_are_new known rows item items once));
})

passes_among : (test : Text → Bool) (names : List Text) (name : Text) → list_all test names ≡ true → is_among names name ≡ true → test name ≡ true
passes_among test [] name all among = absurd (true≢false (sym among))
passes_among test (n ∷ names) name all among = go (bytes_eq n name) refl among (passes_among test names name (and_parts (test n) (list_all test names) all).1)
  where
    go : (b : Bool) → bytes_eq n name ≡ b → (b || is_among names name) ≡ true → (is_among names name ≡ true → test name ≡ true) → test name ≡ true
    go true e a more = ap test (sym ((bytes_eq-Decides n name).0 e)) ∙ (and_parts (test n) (list_all test names) all).0
    go false e a more = more a

once_at_most : (known : KnownNames) (items : List Item) → come_once known items ≡ true → ComeOnce known [] items
once_at_most known items once name named =
    let test = λ (name : Text). nat_le (times_named name items) 1 in
    let parts = and_parts (list_all test known.options) (list_all test known.flags) (sym (list_all-append test known.options known.flags) ∙ once) in
    let passes : nat_le (times_named name items) 1 ≡ true = ⊎_elim (passes_among test known.options name parts.0) (passes_among test known.flags name parts.1) named in
    grind (arith, nat_tests, passes)

pub items-new : (known : KnownNames) (words : List Text) (items : List Item) → items_of known words ≡ Some items → come_once known items ≡ true → AreNew [] items
items-new known words items e once = are_new known words items e [] (once_at_most known items once)

-- ---- defaults

abbrev has_values : List Text → Bool
has_values [] = false
has_values (value ∷ values) = true

abbrev default_row : Rule → Row
default_row rule = record { id = rule.id; values = rule.defaults; count = None; source = Some DefaultValue; reading = reading_by rule }

-- the row that the rules give an id by default
abbrev pub default_of : Text → List Rule → Option Row
default_of id [] = None
default_of id (rule ∷ rules) = option_or (cond (bytes_eq rule.id id && has_values rule.defaults) (Some (default_row rule)) None) (default_of id rules)

abbrev row_at : Text → List Row → Option Row
row_at id rows = find (λ row. bytes_eq row.id id) rows

option_or-assoc : {X : Type 0} (a b d : Option X) → option_or (option_or a b) d ≡ option_or a (option_or b d)
option_or-assoc None b d = refl
option_or-assoc (Some x) b d = refl

option_or-none : {X : Type 0} (a : Option X) → option_or a None ≡ a
option_or-none None = refl
option_or-none (Some x) = refl

row_at-push : (id : Text) (rows : List Row) (row : Row) → row_at id (rows ++ row ∷ []) ≡ option_or (row_at id rows) (cond (bytes_eq row.id id) (Some row) None)
row_at-push id [] row = refl
row_at-push id (r ∷ rows) row = go (bytes_eq r.id id) (row_at-push id rows row)
  where
    go : (b : Bool) → row_at id (rows ++ row ∷ []) ≡ option_or (row_at id rows) (cond (bytes_eq row.id id) (Some row) None)
        → cond b (Some r) (row_at id (rows ++ row ∷ [])) ≡ option_or (cond b (Some r) (row_at id rows)) (cond (bytes_eq row.id id) (Some row) None)
    go true more = refl
    go false more = more

-- a row that is there is found
found_or : (id : Text) (rows : List Row) (d : Option Row) → has_row id rows ≡ true → option_or (row_at id rows) d ≡ row_at id rows
found_or id [] d e = absurd (true≢false (sym e))
found_or id (r ∷ rows) d e = go (bytes_eq r.id id) e (found_or id rows d)
  where
    go : (b : Bool) → (b || has_row id rows) ≡ true → (has_row id rows ≡ true → option_or (row_at id rows) d ≡ row_at id rows)
        → option_or (cond b (Some r) (row_at id rows)) d ≡ cond b (Some r) (row_at id rows)
    go true e more = refl
    go false e more = more e

-- the default of one rule
abbrev own_default : Text → Rule → Option Row
own_default id rule = cond (bytes_eq rule.id id && has_values rule.defaults) (Some (default_row rule)) None

row_at-kept : (id : Text) (rows : List Row) (rule : Rule) → has_row rule.id rows ≡ true → row_at id rows ≡ option_or (row_at id rows) (own_default id rule)
row_at-kept id rows rule there = go (bytes_eq rule.id id) refl
  where
    go : (b : Bool) → bytes_eq rule.id id ≡ b → row_at id rows ≡ option_or (row_at id rows) (cond (b && has_values rule.defaults) (Some (default_row rule)) None)
    go false e = sym (option_or-none (row_at id rows))
    go true e = sym (found_or id rows _ (ap (λ (t : Text). has_row t rows) (sym ((bytes_eq-Decides rule.id id).0 e)) ∙ there))

row_at-given : (id : Text) (rows : List Row) (rule : Rule) (values : List Text) → has_row rule.id rows ≡ false
    → row_at id (default_rows rule.id (reading_by rule) values rows)
    ≡ option_or (row_at id rows) (cond (bytes_eq rule.id id && has_values values) (Some (record (default_row rule) { values = values })) None)
row_at-given id rows rule [] new = go (bytes_eq rule.id id)
  where
    go : (b : Bool) → row_at id rows ≡ option_or (row_at id rows) (cond (b && false) (Some (record (default_row rule) { values = [] })) None)
    go true = sym (option_or-none (row_at id rows))
    go false = sym (option_or-none (row_at id rows))
row_at-given id rows rule (v ∷ vs) new =
    let row : Row = record (default_row rule) { values = v ∷ vs } in
    ap (row_at id) (at_row-new rule.id (more_values DefaultValue (v ∷ vs)) (row ∷ []) rows new)
    ∙ row_at-push id rows row
    ∙ ap (λ b. option_or (row_at id rows) (cond b (Some row) None)) (sym (and-true (bytes_eq rule.id id)))
  where
    and-true : (b : Bool) → (b && true) ≡ b
    and-true true = refl
    and-true false = refl

row_at-default : (id : Text) (rows : List Row) (rule : Rule) → row_at id (with_default rows rule) ≡ option_or (row_at id rows) (own_default id rule)
row_at-default id rows rule = go (has_row rule.id rows) refl
  where
    go : (b : Bool) → has_row rule.id rows ≡ b → row_at id (cond b rows (default_rows rule.id (reading_by rule) rule.defaults rows)) ≡ option_or (row_at id rows) (own_default id rule)
    go true e = row_at-kept id rows rule e
    go false e = row_at-given id rows rule rule.defaults e

row_at-defaults : (id : Text) (rows : List Row) (rules : List Rule) → row_at id (fold with_default rows rules) ≡ option_or (row_at id rows) (default_of id rules)
row_at-defaults id rows [] = sym (option_or-none (row_at id rows))
row_at-defaults id rows (rule ∷ rules) =
    row_at-defaults id (with_default rows rule) rules
    ∙ ap (λ o. option_or o (default_of id rules)) (row_at-default id rows rule)
    ∙ option_or-assoc (row_at id rows) (own_default id rule) (default_of id rules)

-- ---- look-ups

abbrev pub first_value_of : Option Row → Option Text
first_value_of = option_and_then (λ row. slice_get row.values 0)

-- an option among items
option_in : (known : KnownNames) (name : Text) → is_among known.flags name ≡ false → (words : List Text) (items : List Item) → items_of known words ≡ Some items
    → (d : Option Row) → first_value_of (option_or (row_at name (map item_row items)) d) ≡ option_or (value_of name items) (first_value_of d)
unfolding value_of
option_in known name only = by_items known (λ words items. (d : Option Row) → first_value_of (option_or (row_at name (map item_row items)) d) ≡ option_or (value_of name items) (first_value_of d)) (record {
  none = λ d. refl;
  flag = λ word rest items holds on d. rw (flag_is_other known name word only holds) (on d);
  option = λ word next rest items none among holds on d. pair word next items d (bytes_eq word name) (on d);
})
  where
    pair : (word next : Text) (items : List Item) (d : Option Row) (b : Bool)
        → first_value_of (option_or (row_at name (map item_row items)) d) ≡ option_or (value_of name items) (first_value_of d)
        → first_value_of (option_or (cond b (Some (item_row (record { name = word; value = Some next }))) (row_at name (map item_row items))) d)
        ≡ option_or (cond b (Some next) (value_of name items)) (first_value_of d)
    pair word next items d true on = refl
    pair word next items d false on = on

abbrev pub flag_text : Bool → Text
flag_text b = cond b (codes "true") (codes "false")

-- an option is no flag
option_is_other : (known : KnownNames) (name word : Text) → is_among known.options name ≡ false → is_among known.options word ≡ true → bytes_eq word name ≡ false
option_is_other known name word only option =
    ⊎_elim
    (λ same. absurd (true≢false (sym option ∙ ap (is_among known.options) ((bytes_eq-Decides word name).0 same) ∙ only)))
    (λ e. e)
    (cases_Bool (bytes_eq word name))

-- a flag among items
flag_in : (known : KnownNames) (name : Text) → is_among known.options name ≡ false → (words : List Text) (items : List Item) → items_of known words ≡ Some items
    → (d : Option Row) → option_and_then row_text d ≡ Some (codes "false")
    → option_and_then row_text (option_or (row_at name (map item_row items)) d) ≡ Some (flag_text (is_there name items))
flag_in known name only = by_items known (λ words items. (d : Option Row) → option_and_then row_text d ≡ Some (codes "false")
    → option_and_then row_text (option_or (row_at name (map item_row items)) d) ≡ Some (flag_text (is_there name items))) (record {
      none = λ d off. off;
      flag = λ word rest items holds on d off. alone word items d (bytes_eq word name) (on d off);
      option = λ word next rest items none among holds on d off. rw (option_is_other known name word only among) (on d off);
    })
  where
    alone : (word : Text) (items : List Item) (d : Option Row) (b : Bool)
        → option_and_then row_text (option_or (row_at name (map item_row items)) d) ≡ Some (flag_text (is_there name items))
        → option_and_then row_text (option_or (cond b (Some (item_row (record { name = word; value = None }))) (row_at name (map item_row items))) d)
        ≡ Some (flag_text (b || is_there name items))
    alone word items d true on = refl
    alone word items d false on = on

-- ---- the matches of words that are items

module _ (known : KnownNames) (s : Shape) (knows : Knows s.rules known) (words : List Text) (items : List Item) (are : items_of known words ≡ Some items) (once : come_once known items ≡ true) where
  new : AreNew [] items
  new = items-new known words items are once

  rows_are : rows_after s.rules [] words ≡ fold with_default (map item_row items) s.rules
  rows_are = ap (λ rows. fold with_default rows s.rules) (walks-items s known knows words items are nothing_held refl new).rows

  -- the command takes them
  pub takes-items : list_all default_passes s.rules ≡ true → ((rows : List Row) → is_valid s rows false ≡ true) → built_takes (record { top = s; subs = [] }) nothing_held words ≡ true
  takes-items defaults valid =
      let walks = walks-items s known knows words items are nothing_held refl new in
      rw (walks.stopped, walks.passes, walks.settles, defaults) (valid (rows_after s.rules [] words))

  pub option-found : (name : Text) → is_among known.flags name ≡ false → first_of name (rows_after s.rules [] words) ≡ option_or (value_of name items) (first_value_of (default_of name s.rules))
  option-found name only =
      ap (first_of name) rows_are ∙ ap first_value_of (row_at-defaults name (map item_row items) s.rules) ∙ option_in known name only words items are (default_of name s.rules)

  pub flag-found : (name : Text) → is_among known.options name ≡ false → option_and_then row_text (default_of name s.rules) ≡ Some (codes "false")
      → one_of name (rows_after s.rules [] words) ≡ Some (flag_text (is_there name items))
  flag-found name only off =
      ap (one_of name) rows_are ∙ ap (option_and_then row_text) (row_at-defaults name (map item_row items) s.rules) ∙ flag_in known name only words items are (default_of name s.rules) off
