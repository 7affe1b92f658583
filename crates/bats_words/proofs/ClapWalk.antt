-- What `clap` makes of words that are items, for rules that know their names.
use Rattle.std.proofs.Common.{◌≡◌, Bool, true, false, not, cond, ◌&&◌, ◌||◌, List, [], ◌∷◌, ◌++◌, map, Option, Some, None, refl, sym, ap, subst, ◌∙◌, append-nil, append_assoc, codes}
use Rattle.std.specs.Prelude.{◌==◌}
use Rattle.std.specs.List.{fold}
use Rattle.std.specs.Str.{bytes_eq}
use Rattle.std.proofs.lemmas.Bool.{true≢false}
use Rattle.std.proofs.lemmas.Slice.Eq.{bytes_eq-Decides}
use Rattle.clap.specs.Lexer.{long_of, short_of}
use Rattle.clap.specs.Simple.{Shape, new_rule}
use Rattle.clap.specs.Takes.{settle_passes, turn_passes, walk_passes}
use Rattle.clap.specs.Walk.{Held, Row, Rule, Text, Walk, arg_by_id, arg_by_long, at_row, has_row, more_values, option, reacted, settled, walk_from, walked}
use Rattle.clap.specs.declared.builder.action.ArgAction.TheVariants.{Set, SetTrue}
use Rattle.clap.specs.declared.builder.value_parser.ValueParser.TheVariants as vp
use Rattle.clap.specs.declared.builder.value_parser.Reading.TheVariants as reading
use Rattle.clap.specs.declared.parser.matches.ValueSource.TheVariants.{CommandLine}
use Rattle.bats_words.specs.WordItems.{KnownNames, Item, is_among, is_value_word, items_of}
use Rattle.bats_words.proofs.WordLookups.{by_items}

-- ---- rules, as they are built

-- an option `--name` that is read back by its word, with these defaults
abbrev pub built_option : Text → Text → List Text → Rule
built_option word name defaults = record (new_rule word) {
  long = Some name;
  action = Some Set;
  range = Some (record { start_inclusive = 1; end_inclusive = 1 });
  defaults = defaults;
  parser = Some vp.String;
}

-- a flag `--name` that is read back by its word
abbrev pub built_flag : Text → Text → Rule
built_flag word name = record (new_rule word) {
  long = Some name;
  action = Some SetTrue;
  range = Some (record { start_inclusive = 0; end_inclusive = 0 });
  defaults = codes "false" ∷ [];
  missing = codes "true" ∷ [];
  parser = Some vp.Bool;
}

-- the word is an option of the rules
pub record TakesOption (rules : List Rule) (word : Text) : Type 0 where
  pub name : Text
  pub defaults : List Text
  pub not_dashes : bytes_eq word (45 ∷ 45 ∷ []) ≡ false
  pub long : long_of word ≡ Some (name, None)
  pub by_long : arg_by_long rules name ≡ Some (built_option word name defaults)
  pub by_id : arg_by_id rules word ≡ Some (built_option word name defaults)

-- the word is a flag of the rules
pub record TakesFlag (rules : List Rule) (word : Text) : Type 0 where
  pub name : Text
  pub not_dashes : bytes_eq word (45 ∷ 45 ∷ []) ≡ false
  pub long : long_of word ≡ Some (name, None)
  pub by_long : arg_by_long rules name ≡ Some (built_flag word name)

-- the rules know the names
pub record Knows (rules : List Rule) (known : KnownNames) : Type 0 where
  pub options : (word : Text) → is_among known.options word ≡ true → TakesOption rules word
  pub flags : (word : Text) → is_among known.flags word ≡ true → TakesFlag rules word

-- ---- rows

abbrev pub item_values : Option Text → List Text
item_values None = codes "true" ∷ []
item_values (Some value) = value ∷ []

-- what a parse keeps of an item
abbrev pub item_row : Item → Row
item_row item = record {
  id = item.name;
  values = item_values item.value;
  count = None;
  source = Some CommandLine;
  reading = reading.AsWritten;
}

pub at_row-new : (id : Text) (change : Row → List Row) (missing rows : List Row) → has_row id rows ≡ false → at_row id change missing rows ≡ rows ++ missing
at_row-new id change missing [] new = refl
at_row-new id change missing (row ∷ rows) new = go (bytes_eq row.id id) new (at_row-new id change missing rows)
  where
    go : (b : Bool) → (b || has_row id rows) ≡ false → (has_row id rows ≡ false → at_row id change missing rows ≡ rows ++ missing) → cond b (change row ++ rows) (row ∷ at_row id change missing rows) ≡ row ∷ (rows ++ missing)
    go true e more = absurd (true≢false e)
    go false e more = ap (λ (rest : List Row). row ∷ rest) (more e)

-- a use of an argument that has no row gives it one at the end
use-new : (id : Text) (change : Row → List Row) (row : Row) (rows : List Row) → has_row id rows ≡ false → at_row id change (row ∷ []) (at_row id (λ _. []) [] rows) ≡ rows ++ row ∷ []
use-new id change row rows new =
    let same : at_row id (λ _. []) [] rows ≡ rows = at_row-new id (λ _. []) [] rows new ∙ append-nil rows in
    ap (at_row id change (row ∷ [])) same ∙ at_row-new id change (row ∷ []) rows new

-- none of the items has a row, and no name stands twice among them
abbrev pub AreNew : List Row → List Item → Type 0
AreNew rows [] = Unit {0}
AreNew rows (item ∷ items) = (has_row item.name rows ≡ false) × AreNew (rows ++ item_row item ∷ []) items

-- ---- one word

pub bytes_eq-itself : (word : Text) → bytes_eq word word ≡ true
bytes_eq-itself word = (bytes_eq-Decides word word).1 refl

abbrev IsPlainWord : Text → Type 0
IsPlainWord word = (bytes_eq word (45 ∷ 45 ∷ []) ≡ false) × (long_of word ≡ None) × (short_of word ≡ None)

-- a value word is nothing but a value
plain_word_of : (word : Text) → is_value_word word ≡ true → IsPlainWord word
plain_word_of [] holds = absurd (true≢false (sym holds))
plain_word_of (c ∷ rest) holds = go (c == 45) refl holds
  where
    go : (b : Bool) → (c == 45) ≡ b → not b ≡ true → IsPlainWord (c ∷ rest)
    go true e n = absurd (true≢false (sym n))
    go false e n = (rw e refl, rw e refl, rw e refl)

module _ (s : Shape) where
  -- what is held where the option waits for its value, and where it has it
  abbrev waiting_held : Text → Held → Held
  waiting_held word h = record (settled s.rules h) { pending = Some (word, []) }

  abbrev valued_held : Text → Text → Held → Held
  valued_held word value h = record (settled s.rules h) { pending = Some (word, value ∷ []) }

  abbrev waiting_walk : Text → Held → Walk
  waiting_walk word h = record (walk_from (waiting_held word h)) { waiting = option word }

  walked-flag : (word : Text) (h : Held) (f : TakesFlag s.rules word) → walked s.rules [] (walk_from h) word ≡ walk_from (reacted s.rules (built_flag word f.name) [] h)
  unfolding walked
  walked-flag word h f = rw (f.not_dashes, f.long, f.by_long) refl

  walked-option : (word : Text) (h : Held) (o : TakesOption s.rules word) → walked s.rules [] (walk_from h) word ≡ waiting_walk word h
  unfolding walked
  walked-option word h o = rw (o.not_dashes, o.long, o.by_long) refl

  walked-value : (word value : Text) (h : Held) (o : TakesOption s.rules word) → IsPlainWord value → walked s.rules [] (waiting_walk word h) value ≡ walk_from (valued_held word value h)
  unfolding walked
  walked-value word value h o plain = rw (plain.0, plain.1, plain.2, o.by_id, bytes_eq-itself word) refl

  -- the rows after it
  flag-rows : (word : Text) (h : Held) (f : TakesFlag s.rules word) → has_row word (settled s.rules h).rows ≡ false
      → (settled s.rules (reacted s.rules (built_flag word f.name) [] h)).rows ≡ (settled s.rules h).rows ++ item_row (record { name = word; value = None }) ∷ []
  flag-rows word h f new = use-new word (more_values CommandLine (codes "true" ∷ [])) (item_row (record { name = word; value = None })) (settled s.rules h).rows new

  option-rows : (word value : Text) (h : Held) (o : TakesOption s.rules word) → has_row word (settled s.rules h).rows ≡ false
      → (settled s.rules (valued_held word value h)).rows ≡ (settled s.rules h).rows ++ item_row (record { name = word; value = Some value }) ∷ []
  option-rows word value h o new = rw o.by_id (use-new word (more_values CommandLine (value ∷ [])) (item_row (record { name = word; value = Some value })) (settled s.rules h).rows new)

  -- it passes
  flag-passes : (word : Text) (h : Held) (f : TakesFlag s.rules word) → has_row word (settled s.rules h).rows ≡ false → settle_passes s.rules s.args_override_self h ≡ true
      → turn_passes s [] (walk_from h) word ≡ true
  flag-passes word h f new settles = rw (f.not_dashes, f.long, f.by_long, settles, new) refl

  option-passes : (word : Text) (h : Held) (o : TakesOption s.rules word) → settle_passes s.rules s.args_override_self h ≡ true → turn_passes s [] (walk_from h) word ≡ true
  option-passes word h o settles = rw (o.not_dashes, o.long, o.by_long, settles) refl

  value-passes : (word value : Text) (h : Held) (o : TakesOption s.rules word) → IsPlainWord value → turn_passes s [] (waiting_walk word h) value ≡ true
  value-passes word value h o plain = rw (plain.0, plain.1, plain.2) refl

  option-settles : (word value : Text) (h : Held) (o : TakesOption s.rules word) → has_row word (settled s.rules h).rows ≡ false
      → settle_passes s.rules s.args_override_self (valued_held word value h) ≡ true
  option-settles word value h o new = rw (o.by_id, new) refl

-- ---- the words

module _ (s : Shape) where
  -- where the walk ends, from what is held before the words
  abbrev end_of : Held → List Text → Walk
  end_of h words = fold (walked s.rules []) (walk_from h) words

  -- the walk over words that are these items
  pub record Walks (h : Held) (words : List Text) (items : List Item) : Type 0 where
    pub rows : (settled s.rules (end_of h words).held).rows ≡ (settled s.rules h).rows ++ map item_row items
    pub settles : settle_passes s.rules s.args_override_self (end_of h words).held ≡ true
    pub stopped : (end_of h words).stopped ≡ None
    pub passes : walk_passes s [] (walk_from h) words ≡ true

  abbrev pub Walking : List Text → List Item → Type 0
  Walking words items = (h : Held) → settle_passes s.rules s.args_override_self h ≡ true → AreNew (settled s.rules h).rows items → Walks h words items

  walks-none : Walking [] []
  unfolding walk_passes
  walks-none h settles new = record { rows = sym (append-nil (settled s.rules h).rows); settles = settles; stopped = refl; passes = refl }

  walks-flag : (word : Text) (rest : List Text) (items : List Item) → TakesFlag s.rules word → Walking rest items → Walking (word ∷ rest) (record { name = word; value = None } ∷ items)
  unfolding walk_passes
  walks-flag word rest items f on h settles new =
      let item : Item = record { name = word; value = None } in
      let after = reacted s.rules (built_flag word f.name) [] h in
      let grown = flag-rows s word h f new.0 in
      let step = walked-flag s word h f in
      let left = on after refl (subst (λ rows. AreNew rows items) (sym grown) new.1) in
      record {
        rows = ap (λ (w : Walk). (settled s.rules (fold (walked s.rules []) w rest).held).rows) step
            ∙ left.rows ∙ ap (λ rows. rows ++ map item_row items) grown ∙ append_assoc (settled s.rules h).rows (item_row item ∷ []) (map item_row items);
        settles = ap (λ (w : Walk). settle_passes s.rules s.args_override_self (fold (walked s.rules []) w rest).held) step ∙ left.settles;
        stopped = ap (λ (w : Walk). (fold (walked s.rules []) w rest).stopped) step ∙ left.stopped;
        passes = ap (λ b. b && walk_passes s [] (walked s.rules [] (walk_from h) word) rest) (flag-passes s word h f new.0 settles)
            ∙ ap (λ (w : Walk). walk_passes s [] w rest) step ∙ left.passes;
      }

  walks-option : (word value : Text) (rest : List Text) (items : List Item) → TakesOption s.rules word → is_value_word value ≡ true → Walking rest items
      → Walking (word ∷ value ∷ rest) (record { name = word; value = Some value } ∷ items)
  unfolding walk_passes
  walks-option word value rest items o valued on h settles new =
      let item : Item = record { name = word; value = Some value } in
      let plain = plain_word_of value valued in
      let after = valued_held s word value h in
      let grown = option-rows s word value h o new.0 in
      let first = walked-option s word h o in
      let step = ap (λ (w : Walk). walked s.rules [] w value) first ∙ walked-value s word value h o plain in
      let left = on after (option-settles s word value h o new.0) (subst (λ rows. AreNew rows items) (sym grown) new.1) in
      record {
        rows = ap (λ (w : Walk). (settled s.rules (fold (walked s.rules []) w rest).held).rows) step
            ∙ left.rows ∙ ap (λ rows. rows ++ map item_row items) grown ∙ append_assoc (settled s.rules h).rows (item_row item ∷ []) (map item_row items);
        settles = ap (λ (w : Walk). settle_passes s.rules s.args_override_self (fold (walked s.rules []) w rest).held) step ∙ left.settles;
        stopped = ap (λ (w : Walk). (fold (walked s.rules []) w rest).stopped) step ∙ left.stopped;
        passes = ap (λ b. b && walk_passes s [] (walked s.rules [] (walk_from h) word) (value ∷ rest)) (option-passes s word h o settles)
            ∙ ap (λ (w : Walk). walk_passes s [] w (value ∷ rest)) first
            ∙ ap (λ b. b && walk_passes s [] (walked s.rules [] (waiting_walk s word h) value) rest) (value-passes s word value h o plain)
            ∙ ap (λ (w : Walk). walk_passes s [] w rest) (walked-value s word value h o plain) ∙ left.passes;
      }

  pub walks-items : (known : KnownNames) → Knows s.rules known → (words : List Text) (items : List Item) → items_of known words ≡ Some items → Walking words items
  walks-items known knows = by_items known Walking (record {
    none = walks-none;
    flag = λ word rest items holds on. walks-flag word rest items (knows.flags word holds) on;
    option = λ word next rest items none among holds on. walks-option word next rest items (knows.options word among) holds on;
  })
