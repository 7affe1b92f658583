-- What the builder of a command makes of what `clap` found is what it makes of the items of the words.
use Rattle.std.proofs.Common.{◌≡◌, ℕ, Bool, true, false, ◌||◌, List, [], ◌∷◌, Option, Some, None, Result, Ok, Err, is_some, refl, sym, ap, subst, ◌∙◌, inl, inr, codes}
use Rattle.std.specs.Option.{ok_or, option_and_then, option_or}
use Rattle.std.specs.Result.{IsErrAnd}
use Rattle.std.specs.Str.{bytes_eq}
use Rattle.std.specs.List.{list_all}
use Rattle.std.proofs.lemmas.Bool.{true≢false}
use Rattle.std.proofs.lemmas.Slice.Eq.{bytes_eq-Decides}
use Rattle.clap.specs.Matches.{found_of, one_text}
use Rattle.clap.specs.Simple.{App, HasMatchesOf, Shape, argument_words, built, is_simple, matches_of}
use Rattle.clap.specs.Takes.{default_passes, is_valid, takes}
use Rattle.clap.specs.Walk.{Rule, Text, first_of, one_of, row_text, rows_after}
use Rattle.clap.specs.declared.parser.matches.ArgMatches.{ArgMatches}
use Rattle.clap.proofs.WalkLemmas.{first_value-rows, one_text-rows}
use Rattle.bats_words.specs.Answer.{IsAnswer}
use Rattle.bats_words.specs.WordItems.{KnownNames, Item, is_among, read_items, value_of, is_there}
use Rattle.bats_words.specs.WordValues.{number_in}
use Rattle.bats_words.specs.Words.{read_by, read_or, source_of, source_names, relay_of, relay_names, sink_of, sink_names, replay_of, replay_names, check_of, check_names, show_of, trial_of, trial_names, help_of}
use Rattle.bats_words.specs.steps.Matched.{IsFlag, is_set, value_in, source_given, sink_given, replay_given, check_given, trial_given}
use Rattle.bats_words.specs.steps.Rules.{source_app, relay_app, sink_app, replay_app, check_app, trial_app}
use Rattle.bats_words.specs.declared.command.Command.{Command}
use Rattle.bats_words.specs.declared.command.Command.TheVariants.{Show, Help}
use Rattle.bats_words.specs.declared.words_end.WordsEnd.{WordsEnd}
use Rattle.bats_words.specs.declared.words_end.WordsEnd.TheVariants as ends
use Rattle.bats_words.proofs.WordLookups.{some_of, none_of, items_of-read, come_once-read}
use Rattle.bats_words.proofs.ClapWalk.{Knows, TakesOption, TakesFlag}
use Rattle.bats_words.proofs.ClapMatches.{default_of, first_value_of, flag_text, takes-items, option-found, flag-found}

-- ---- every command

-- what makes a command of two look-ups
abbrev pub Builder : Type 0
Builder = (List ℕ → Option (List ℕ)) → (List ℕ → Bool) → Option Command

abbrev pub of_items : Builder → List Item → Option Command
of_items build items = build (λ name. value_of name items) (λ name. is_there name items)

pub read_by-none : (known : KnownNames) (build : Builder) (words : List Text) → is_some (read_items known words) ≡ false → read_by known build words ≡ None
read_by-none known build words lost = ap (option_and_then (of_items build)) (none_of (read_items known words) lost)

pub read_by-items : (known : KnownNames) (build : Builder) (words : List Text) (items : List Item) → read_items known words ≡ Some items → read_by known build words ≡ of_items build items
read_by-items known build words items e = ap (option_and_then (of_items build)) e

-- the command that `clap` is given knows these names, and is built to the shape s
pub record Fits (known : KnownNames) (app : App) (s : Shape) : Type 0 where
  pub simple : is_simple app ≡ true
  pub whole : (words : List Text) → argument_words app words ≡ words
  pub built_to : built app ≡ record { top = s; subs = [] }
  pub knows : Knows s.rules known
  pub defaults : list_all default_passes s.rules ≡ true
  pub valid : (rows : _) → is_valid s rows false ≡ true

-- what was found is what stands among the items, or a default
pub record Finds (known : KnownNames) (rules : List Rule) (items : List Item) (matches : ArgMatches) : Type 0 where
  pub options : (name : Text) → is_among known.flags name ≡ false → value_in matches name ≡ option_or (value_of name items) (first_value_of (default_of name rules))
  pub flags : (name : Text) → is_among known.options name ≡ false → option_and_then row_text (default_of name rules) ≡ Some (codes "false")
      → one_text (found_of matches) name ≡ Some (flag_text (is_there name items))

module _ (known : KnownNames) (app : App) (s : Shape) (fits : Fits known app s) (words : List Text) where
  takes-read : (items : List Item) → read_items known words ≡ Some items → takes app words ≡ true
  takes-read items e =
      rw (fits.simple, fits.whole words, fits.built_to)
      (takes-items known s fits.knows words items (items_of-read known words items e) (come_once-read known words items e) fits.defaults fits.valid)

  -- a parse of words that were read fails only for want of memory
  pub takes-words : is_some (read_items known words) ≡ true → takes app words ≡ true
  takes-words found =
      let r = some_of (read_items known words) found in
      takes-read r.0 r.1

  rows_are : matches_of app words ≡ rows_after s.rules [] words
  rows_are = rw (fits.built_to, fits.whole words) refl

  pub finds-items : (items : List Item) → read_items known words ≡ Some items → (matches : ArgMatches) → HasMatchesOf app words matches → Finds known s.rules items matches
  finds-items items e matches has =
      let are = items_of-read known words items e in
      let once = come_once-read known words items e in
      let same = (has fits.simple).0 ∙ rows_are in
      record {
        options = λ name only. first_value-rows (found_of matches) name ∙ ap (first_of name) same ∙ option-found known s fits.knows words items are once name only;
        flags = λ name only off. one_text-rows (found_of matches) name ∙ ap (one_of name) same ∙ flag-found known s fits.knows words items are once name only off;
      }

-- an option with no default
required_at : (known : KnownNames) (rules : List Rule) (items : List Item) (matches : ArgMatches) → Finds known rules items matches → (name : Text) → is_among known.flags name ≡ false
    → first_value_of (default_of name rules) ≡ None → value_in matches name ≡ value_of name items
required_at known rules items matches finds name only none = finds.options name only ∙ ap (option_or (value_of name items)) none ∙ go (value_of name items)
  where
    go : (o : Option Text) → option_or o None ≡ o
    go None = refl
    go (Some text) = refl

-- an option with a default
default_at : (known : KnownNames) (rules : List Rule) (items : List Item) (matches : ArgMatches) → Finds known rules items matches → (name : Text) → is_among known.flags name ≡ false
    → (text : Text) (default : ℕ) (read : Text → Option ℕ) → first_value_of (default_of name rules) ≡ Some text → read text ≡ Some default
    → option_and_then read (value_in matches name) ≡ read_or default read (value_of name items)
default_at known rules items matches finds name only text default read is reads =
    ap (option_and_then read) (finds.options name only ∙ ap (option_or (value_of name items)) is) ∙ go (value_of name items)
  where
    go : (o : Option Text) → option_and_then read (option_or o (Some text)) ≡ read_or default read o
    go None = reads
    go (Some word) = refl

-- a flag
flag_at : (known : KnownNames) (rules : List Rule) (items : List Item) (matches : ArgMatches) → Finds known rules items matches → (name : Text) → is_among known.options name ≡ false
    → option_and_then row_text (default_of name rules) ≡ Some (codes "false") → is_set matches name ≡ is_there name items
flag_at known rules items matches finds name only off = rw (finds.flags name only off) (go (is_there name items))
  where
    go : (b : Bool) → bytes_eq (flag_text b) (codes "true") ≡ b
    go true = refl
    go false = refl

is_flag_at : (known : KnownNames) (rules : List Rule) (items : List Item) (matches : ArgMatches) → Finds known rules items matches → (name : Text) → is_among known.options name ≡ false
    → option_and_then row_text (default_of name rules) ≡ Some (codes "false") → IsFlag matches name
is_flag_at known rules items matches finds name only off = go (is_there name items) (finds.flags name only off)
  where
    go : (b : Bool) → one_text (found_of matches) name ≡ Some (flag_text b) → IsFlag matches name
    go true e = inl e
    go false e = inr e

-- ---- each of them

abbrev AllOf : (Text → Type 0) → List Text → Type 0
AllOf P [] = Unit {0}
AllOf P (name ∷ names) = P name × AllOf P names

among_all : (P : Text → Type 0) (names : List Text) → AllOf P names → (word : Text) → is_among names word ≡ true → P word
among_all P [] all word e = absurd (true≢false (sym e))
among_all P (name ∷ names) all word e = go (bytes_eq name word) refl e (among_all P names all.1 word)
  where
    go : (b : Bool) → bytes_eq name word ≡ b → (b || is_among names word) ≡ true → (is_among names word ≡ true → P word) → P word
    go true same e others = subst P ((bytes_eq-Decides name word).0 same) all.0
    go false same e others = others e

abbrev pub source_shape : Shape
source_shape = (built source_app).top

source-knows : Knows source_shape.rules source_names
source-knows = record {
  options = among_all (TakesOption source_shape.rules) source_names.options (
    record { name = codes "m"; defaults = []; not_dashes = refl; long = refl; by_long = refl; by_id = refl },
    (
      record { name = codes "t"; defaults = []; not_dashes = refl; long = refl; by_long = refl; by_id = refl },
      (
        record { name = codes "seed"; defaults = []; not_dashes = refl; long = refl; by_long = refl; by_id = refl },
        (
          record { name = codes "batches"; defaults = []; not_dashes = refl; long = refl; by_long = refl; by_id = refl },
          (
            record { name = codes "table"; defaults = codes "0" ∷ []; not_dashes = refl; long = refl; by_long = refl; by_id = refl },
            (record { name = codes "from"; defaults = codes "0" ∷ []; not_dashes = refl; long = refl; by_long = refl; by_id = refl }, tt),
          ),
        ),
      ),
    ),
  );
  flags = among_all (TakesFlag source_shape.rules) source_names.flags (record { name = codes "systematic"; not_dashes = refl; long = refl; by_long = refl }, tt);
}

pub source-fits : Fits source_names source_app source_shape
source-fits = record { simple = refl; whole = λ words. refl; built_to = refl; knows = source-knows; defaults = refl; valid = λ rows. refl }

pub source_of-items : (matches : ArgMatches) (items : List Item) → Finds source_names source_shape.rules items matches → source_given (value_in matches) (is_set matches) ≡ of_items source_of items
unfolding source_of source_given number_in
source_of-items matches items finds =
    rw (
      required_at source_names source_shape.rules items matches finds (codes "--m") refl refl,
      required_at source_names source_shape.rules items matches finds (codes "--t") refl refl,
      required_at source_names source_shape.rules items matches finds (codes "--seed") refl refl,
      required_at source_names source_shape.rules items matches finds (codes "--batches") refl refl,
      default_at source_names source_shape.rules items matches finds (codes "--table") refl (codes "0") 0 (number_in 0 1) refl refl,
      default_at source_names source_shape.rules items matches finds (codes "--from") refl (codes "0") 0 (number_in 0 4000000000) refl refl,
      flag_at source_names source_shape.rules items matches finds (codes "--systematic") refl refl,
    ) refl

pub source-systematic : (matches : ArgMatches) (items : List Item) → Finds source_names source_shape.rules items matches → IsFlag matches (codes "--systematic")
source-systematic matches items finds = is_flag_at source_names source_shape.rules items matches finds (codes "--systematic") refl refl

abbrev pub relay_shape : Shape
relay_shape = (built relay_app).top

relay-knows : Knows relay_shape.rules relay_names
relay-knows = record {
  options = among_all (TakesOption relay_shape.rules) relay_names.options (
    record { name = codes "seed"; defaults = []; not_dashes = refl; long = refl; by_long = refl; by_id = refl },
    (
      record { name = codes "rule"; defaults = []; not_dashes = refl; long = refl; by_long = refl; by_id = refl },
      (record { name = codes "count"; defaults = []; not_dashes = refl; long = refl; by_long = refl; by_id = refl }, tt),
    ),
  );
  flags = among_all (TakesFlag relay_shape.rules) [] tt;
}

pub relay-fits : Fits relay_names relay_app relay_shape
relay-fits = record { simple = refl; whole = λ words. refl; built_to = refl; knows = relay-knows; defaults = refl; valid = λ rows. refl }

pub relay_of-items : (matches : ArgMatches) (items : List Item) → Finds relay_names relay_shape.rules items matches → relay_of (value_in matches) (is_set matches) ≡ of_items relay_of items
unfolding relay_of number_in
relay_of-items matches items finds =
    rw (
      required_at relay_names relay_shape.rules items matches finds (codes "--seed") refl refl,
      required_at relay_names relay_shape.rules items matches finds (codes "--rule") refl refl,
      required_at relay_names relay_shape.rules items matches finds (codes "--count") refl refl,
    ) refl

abbrev pub sink_shape : Shape
sink_shape = (built sink_app).top

sink-knows : Knows sink_shape.rules sink_names
sink-knows = record {
  options = among_all (TakesOption sink_shape.rules) sink_names.options (
    record { name = codes "workers"; defaults = codes "1" ∷ []; not_dashes = refl; long = refl; by_long = refl; by_id = refl },
    tt,
  );
  flags = among_all (TakesFlag sink_shape.rules) sink_names.flags (record { name = codes "both"; not_dashes = refl; long = refl; by_long = refl }, tt);
}

pub sink-fits : Fits sink_names sink_app sink_shape
sink-fits = record { simple = refl; whole = λ words. refl; built_to = refl; knows = sink-knows; defaults = refl; valid = λ rows. refl }

pub sink_of-items : (matches : ArgMatches) (items : List Item) → Finds sink_names sink_shape.rules items matches → sink_given (value_in matches) (is_set matches) ≡ of_items sink_of items
unfolding sink_of sink_given number_in
sink_of-items matches items finds =
    rw (
      default_at sink_names sink_shape.rules items matches finds (codes "--workers") refl (codes "1") 1 (number_in 1 64) refl refl,
      flag_at sink_names sink_shape.rules items matches finds (codes "--both") refl refl,
    ) refl

pub sink-both : (matches : ArgMatches) (items : List Item) → Finds sink_names sink_shape.rules items matches → IsFlag matches (codes "--both")
sink-both matches items finds = is_flag_at sink_names sink_shape.rules items matches finds (codes "--both") refl refl

abbrev pub replay_shape : Shape
replay_shape = (built replay_app).top

replay-knows : Knows replay_shape.rules replay_names
replay-knows = record {
  options = among_all (TakesOption replay_shape.rules) replay_names.options (
    record { name = codes "workers"; defaults = codes "1" ∷ []; not_dashes = refl; long = refl; by_long = refl; by_id = refl },
    tt,
  );
  flags = among_all (TakesFlag replay_shape.rules) replay_names.flags (
    record { name = codes "both"; not_dashes = refl; long = refl; by_long = refl },
    (record { name = codes "pool"; not_dashes = refl; long = refl; by_long = refl }, tt),
  );
}

pub replay-fits : Fits replay_names replay_app replay_shape
replay-fits = record { simple = refl; whole = λ words. refl; built_to = refl; knows = replay-knows; defaults = refl; valid = λ rows. refl }

pub replay_of-items : (matches : ArgMatches) (items : List Item) → Finds replay_names replay_shape.rules items matches → replay_given (value_in matches) (is_set matches) ≡ of_items replay_of items
unfolding replay_of replay_given number_in
replay_of-items matches items finds =
    rw (
      default_at replay_names replay_shape.rules items matches finds (codes "--workers") refl (codes "1") 1 (number_in 1 64) refl refl,
      flag_at replay_names replay_shape.rules items matches finds (codes "--both") refl refl,
      flag_at replay_names replay_shape.rules items matches finds (codes "--pool") refl refl,
    ) refl

pub replay-both : (matches : ArgMatches) (items : List Item) → Finds replay_names replay_shape.rules items matches → IsFlag matches (codes "--both")
replay-both matches items finds = is_flag_at replay_names replay_shape.rules items matches finds (codes "--both") refl refl

pub replay-pool : (matches : ArgMatches) (items : List Item) → Finds replay_names replay_shape.rules items matches → IsFlag matches (codes "--pool")
replay-pool matches items finds = is_flag_at replay_names replay_shape.rules items matches finds (codes "--pool") refl refl

abbrev pub check_shape : Shape
check_shape = (built check_app).top

check-knows : Knows check_shape.rules check_names
check-knows = record {
  options = among_all (TakesOption check_shape.rules) check_names.options (
    record { name = codes "workers"; defaults = codes "1" ∷ []; not_dashes = refl; long = refl; by_long = refl; by_id = refl },
    tt,
  );
  flags = among_all (TakesFlag check_shape.rules) [] tt;
}

pub check-fits : Fits check_names check_app check_shape
check-fits = record { simple = refl; whole = λ words. refl; built_to = refl; knows = check-knows; defaults = refl; valid = λ rows. refl }

pub check_of-items : (matches : ArgMatches) (items : List Item) → Finds check_names check_shape.rules items matches → check_given (value_in matches) (is_set matches) ≡ of_items check_of items
unfolding check_of check_given number_in
check_of-items matches items finds =
    rw (default_at check_names check_shape.rules items matches finds (codes "--workers") refl (codes "1") 1 (number_in 1 64) refl refl) refl

pub show_of-items : (items : List Item) → of_items show_of items ≡ Some Show
unfolding show_of
show_of-items items = refl

abbrev pub trial_shape : Shape
trial_shape = (built trial_app).top

trial-knows : Knows trial_shape.rules trial_names
trial-knows = record {
  options = among_all (TakesOption trial_shape.rules) trial_names.options (
    record { name = codes "number"; defaults = []; not_dashes = refl; long = refl; by_long = refl; by_id = refl },
    (
      record { name = codes "m"; defaults = []; not_dashes = refl; long = refl; by_long = refl; by_id = refl },
      (
        record { name = codes "t"; defaults = []; not_dashes = refl; long = refl; by_long = refl; by_id = refl },
        (
          record { name = codes "length"; defaults = []; not_dashes = refl; long = refl; by_long = refl; by_id = refl },
          (
            record { name = codes "batches"; defaults = []; not_dashes = refl; long = refl; by_long = refl; by_id = refl },
            (
              record { name = codes "relays"; defaults = []; not_dashes = refl; long = refl; by_long = refl; by_id = refl },
              (
                record { name = codes "loss"; defaults = []; not_dashes = refl; long = refl; by_long = refl; by_id = refl },
                (
                  record { name = codes "table"; defaults = codes "0" ∷ []; not_dashes = refl; long = refl; by_long = refl; by_id = refl },
                  (record { name = codes "workers"; defaults = codes "1" ∷ []; not_dashes = refl; long = refl; by_long = refl; by_id = refl }, tt),
                ),
              ),
            ),
          ),
        ),
      ),
    ),
  );
  flags = among_all (TakesFlag trial_shape.rules) [] tt;
}

pub trial-fits : Fits trial_names trial_app trial_shape
trial-fits = record { simple = refl; whole = λ words. refl; built_to = refl; knows = trial-knows; defaults = refl; valid = λ rows. refl }

pub trial_of-items : (matches : ArgMatches) (items : List Item) → Finds trial_names trial_shape.rules items matches → trial_given (value_in matches) (is_set matches) ≡ of_items trial_of items
unfolding trial_of trial_given number_in
trial_of-items matches items finds =
    rw (
      required_at trial_names trial_shape.rules items matches finds (codes "--number") refl refl,
      required_at trial_names trial_shape.rules items matches finds (codes "--m") refl refl,
      required_at trial_names trial_shape.rules items matches finds (codes "--t") refl refl,
      required_at trial_names trial_shape.rules items matches finds (codes "--length") refl refl,
      required_at trial_names trial_shape.rules items matches finds (codes "--batches") refl refl,
      required_at trial_names trial_shape.rules items matches finds (codes "--relays") refl refl,
      required_at trial_names trial_shape.rules items matches finds (codes "--loss") refl refl,
      default_at trial_names trial_shape.rules items matches finds (codes "--table") refl (codes "0") 0 (number_in 0 1) refl refl,
      default_at trial_names trial_shape.rules items matches finds (codes "--workers") refl (codes "1") 1 (number_in 1 64) refl refl,
    ) refl

pub help_of-items : (items : List Item) → of_items help_of items ≡ Some Help
unfolding help_of
help_of-items items = refl

-- ---- answers

-- an error that has a cause in memory, where it is so
pub memory_answer : (command : Option Command) (r : Result Command WordsEnd) (P : Type 0) → P → IsErrAnd r (λ end. P → end ≡ ends.Memory) → IsAnswer command r
memory_answer command (Ok answer) P p h = absurd h
memory_answer command (Err ends.Memory) P p h = tt
memory_answer command (Err ends.Usage) P p h = let same : ends.Usage ≡ ends.Memory = h p in absurd cc

pub given_answer : (command given : Option Command) → command ≡ given → IsAnswer command (ok_or given ends.Usage)
given_answer command None e = e
given_answer command (Some answer) e = e

-- a command with no names, which is the same for all its words
pub named_answer : (known : KnownNames) (build : Builder) (command : Command) → ((items : List Item) → of_items build items ≡ Some command)
    → (words : List Text) → is_some (read_items known words) ≡ true → read_by known build words ≡ Some command
named_answer known build command same words found =
    let r = some_of (read_items known words) found in
    read_by-items known build words r.0 r.1 ∙ same r.0
