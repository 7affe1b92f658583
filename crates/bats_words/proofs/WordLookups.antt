-- What is found among the words is what is found among their items.
use Rattle.std.proofs.Common.{◌≡◌, ℕ, ◌+◌, Bool, true, false, not, cond, ◌&&◌, nat_le, List, [], ◌∷◌, ◌++◌, Option, Some, None, is_some, refl, zero-add, sym, ap, subst, ◌∙◌, ⊎_elim}
use Rattle.std.specs.List.{list_all}
use Rattle.std.specs.Option.{option_and_then}
use Rattle.std.specs.Str.{bytes_eq}
use Rattle.std.proofs.lemmas.Bool.{cases_Bool, and_parts, not-true, false≢true, true≢false}
use Rattle.std.proofs.lemmas.List.Sums.{sum_by-cons}
use Rattle.std.proofs.lemmas.Slice.Eq.{bytes_eq-Decides}
use Rattle.bats_words.specs.WordItems.{KnownNames, Item, is_among, is_value_word, items_of, with_item, read_items, come_once, times_named}
use Rattle.bats_words.specs.WordLookup.{are_names, times}
use Rattle.bats_words.proofs.ListTests.{list_all-append, list_all-same}
use Rattle.bats_words.proofs.WordSplits.{items_of-flag, items_of-option, items_of-last, items_of-refused, items_of-nil}

-- ---- an induction along the items

-- what holds of no words, and of words with one more item in front, holds of all words that are items
pub record ByItems (known : KnownNames) (P : List (List ℕ) → List Item → Type 0) : Type 0 where
  pub none : P [] []
  pub flag : (word : List ℕ) (rest : List (List ℕ)) (items : List Item) → is_among known.flags word ≡ true → P rest items → P (word ∷ rest) (record { name = word; value = None } ∷ items)
  pub option : (word next : List ℕ) (rest : List (List ℕ)) (items : List Item) → is_among known.flags word ≡ false → is_among known.options word ≡ true → is_value_word next ≡ true → P rest items → P (word ∷ next ∷ rest) (record { name = word; value = Some next } ∷ items)

-- what stands behind the item in front
behind : (name : List ℕ) (value : Option (List ℕ)) (given : Option (List Item)) (items : List Item) → with_item name value given ≡ Some items → (rest : List Item) × (given ≡ Some rest) × (record { name = name; value = value } ∷ rest ≡ items)
behind name value None items e = absurd cc
behind name value (Some rest) items e = (rest, refl, cc)

along-flag : (known : KnownNames) (P : List (List ℕ) → List Item → Type 0) (steps : ByItems known P) (word : List ℕ) (rest : List (List ℕ)) (items : List Item) → ((kept : List Item) → items_of known rest ≡ Some kept → P rest kept) → is_among known.flags word ≡ true → items_of known (word ∷ rest) ≡ Some items → P (word ∷ rest) items
along-flag known P steps word rest items on holds e =
    let b = behind word None (items_of known rest) items (sym (items_of-flag known word rest holds) ∙ e) in
    subst (λ (found : List Item). P (word ∷ rest) found) b.2 (steps.flag word rest b.0 holds (on b.0 b.1))

along-option : (known : KnownNames) (P : List (List ℕ) → List Item → Type 0) (steps : ByItems known P) (word next : List ℕ) (rest : List (List ℕ)) (items : List Item) → ((kept : List Item) → items_of known rest ≡ Some kept → P rest kept) → is_among known.flags word ≡ false → (is_among known.options word && is_value_word next) ≡ true → items_of known (word ∷ next ∷ rest) ≡ Some items → P (word ∷ next ∷ rest) items
along-option known P steps word next rest items on fails holds e =
    let parts = and_parts (is_among known.options word) (is_value_word next) holds in
    let b = behind word (Some next) (items_of known rest) items (sym (items_of-option known word next rest fails parts.0 parts.1) ∙ e) in
    subst (λ (found : List Item). P (word ∷ next ∷ rest) found) b.2 (steps.option word next rest b.0 fails parts.0 parts.1 (on b.0 b.1))

nothing : {items : List Item} (o : Option (List Item)) → o ≡ None → o ≡ Some items → ⊥
nothing o e d = cc

pub by_items : (known : KnownNames) (P : List (List ℕ) → List Item → Type 0) (steps : ByItems known P) (words : List (List ℕ)) (items : List Item) → items_of known words ≡ Some items → P words items
by_items known P steps [] items e =
    let same : [] ≡ items = cc (items_of-nil known, e) in
    subst (λ (found : List Item). P [] found) same steps.none
by_items known P steps (word ∷ []) items e =
    ⊎_elim
    (λ holds. along-flag known P steps word [] items (by_items known P steps []) holds e)
    (λ fails. absurd (nothing _ (items_of-last known word fails) e))
    (cases_Bool (is_among known.flags word))
by_items known P steps (word ∷ next ∷ rest) items e =
    ⊎_elim
    (λ holds. along-flag known P steps word (next ∷ rest) items (by_items known P steps (next ∷ rest)) holds e)
    (λ fails.
    ⊎_elim
    (λ holds. along-option known P steps word next rest items (by_items known P steps rest) fails holds e)
    (λ neither. absurd (nothing _ (items_of-refused known word next rest fails neither) e))
    (cases_Bool (is_among known.options word && is_value_word next)))
    (cases_Bool (is_among known.flags word))

-- ---- the lookups

-- a value word is none of the names
value_is_none : (name next : List ℕ) → is_value_word name ≡ false → is_value_word next ≡ true → bytes_eq next name ≡ false
value_is_none name next fails holds =
    ⊎_elim
    (λ same. absurd (true≢false (sym holds ∙ ap is_value_word ((bytes_eq-Decides next name).0 same) ∙ fails)))
    (λ e. e)
    (cases_Bool (bytes_eq next name))

times-cons : (name word : List ℕ) (words : List (List ℕ)) → times name (word ∷ words) ≡ cond (bytes_eq word name) 1 0 + times name words
times-cons name word words = sum_by-cons (λ word. cond (bytes_eq word name) 1 0) word words

pub times_named-cons : (name : List ℕ) (item : Item) (items : List Item) → times_named name (item ∷ items) ≡ cond (bytes_eq item.name name) 1 0 + times_named name items
times_named-cons name item items = sum_by-cons (λ (item : Item). cond (bytes_eq item.name name) 1 0) item items

pub times-items : (known : KnownNames) (name : List ℕ) → is_value_word name ≡ false → (words : List (List ℕ)) (items : List Item) → items_of known words ≡ Some items → times name words ≡ times_named name items
times-items known name fails = by_items known (λ words items. times name words ≡ times_named name items) (record {
  none = refl;
  flag = λ word rest items holds on.
      times-cons name word rest ∙ ap (λ n. cond (bytes_eq word name) 1 0 + n) on
      ∙ sym (times_named-cons name (record { name = word; value = None }) items);
  option = λ word next rest items none among holds on.
      times-cons name word (next ∷ rest)
      ∙ ap (λ n. cond (bytes_eq word name) 1 0 + n) (times-cons name next rest ∙ ap (λ b. cond b 1 0 + times name rest) (value_is_none name next fails holds) ∙ zero-add (times name rest) ∙ on)
      ∙ sym (times_named-cons name (record { name = word; value = Some next }) items);
})

-- a flag is no option
pub flag_is_other : (known : KnownNames) (name word : List ℕ) → is_among known.flags name ≡ false → is_among known.flags word ≡ true → bytes_eq word name ≡ false
flag_is_other known name word only flag =
    ⊎_elim
    (λ same. absurd (true≢false (sym flag ∙ ap (is_among known.flags) ((bytes_eq-Decides word name).0 same) ∙ only)))
    (λ e. e)
    (cases_Bool (bytes_eq word name))

-- ---- no name twice

pub come_once-items : (known : KnownNames) (words : List (List ℕ)) (items : List Item) → are_names known ≡ true → items_of known words ≡ Some items → list_all (λ name. nat_le (times name words) 1) (known.options ++ known.flags) ≡ come_once known items
come_once-items known words items named e =
    list_all-same (λ name. nat_le (times name words) 1) (λ name. nat_le (times_named name items) 1) (λ name. not (is_value_word name)) (known.options ++ known.flags) (λ name valid. ap (λ n. nat_le n 1) (times-items known name (not-true _ valid) words items e)) named

is_some-if : (b : Bool) (items : List Item) → is_some (cond b (Some items) None) ≡ b
is_some-if true items = refl
is_some-if false items = refl

pub some_of : {A : Type 0} (o : Option A) → is_some o ≡ true → (x : A) × (o ≡ Some x)
some_of None e = absurd (false≢true e)
some_of (Some x) e = (x, refl)

pub none_of : {A : Type 0} (o : Option A) → is_some o ≡ false → o ≡ None
none_of None e = refl
none_of (Some x) e = absurd (true≢false e)

-- what the code tests
pub read_items-some : (known : KnownNames) (words : List (List ℕ)) → are_names known ≡ true → is_some (items_of known words) ≡ true → (list_all (λ name. nat_le (times name words) 1) known.options && list_all (λ name. nat_le (times name words) 1) known.flags) ≡ is_some (read_items known words)
unfolding read_items
read_items-some known words named found =
    let s = some_of (items_of known words) found in
    sym (list_all-append (λ name. nat_le (times name words) 1) known.options known.flags)
    ∙ come_once-items known words s.0 named s.1
    ∙ sym (is_some-if (come_once known s.0) s.0)
    ∙ ap (λ (o : Option (List Item)). is_some (option_and_then (λ items. cond (come_once known items) (Some items) None) o)) (sym s.1)

pub read_items-none : (known : KnownNames) (words : List (List ℕ)) → is_some (items_of known words) ≡ false → false ≡ is_some (read_items known words)
unfolding read_items
read_items-none known words lost = rw (none_of (items_of known words) lost)

if_some : (b : Bool) (found items : List Item) → cond b (Some found) None ≡ Some items → Some found ≡ Some items
if_some true found items e = e
if_some false found items e = absurd cc

kept : (known : KnownNames) (o : Option (List Item)) (items : List Item) → option_and_then (λ found. cond (come_once known found) (Some found) None) o ≡ Some items → o ≡ Some items
kept known None items e = absurd cc
kept known (Some found) items e = if_some (come_once known found) found items e

-- the items that were read are those that the words are
pub items_of-read : (known : KnownNames) (words : List (List ℕ)) (items : List Item) → read_items known words ≡ Some items → items_of known words ≡ Some items
unfolding read_items
items_of-read known words items e = kept known (items_of known words) items e

-- and none of them comes twice
once_if : (known : KnownNames) (found : List Item) (items : List Item) → cond (come_once known found) (Some found) None ≡ Some items → come_once known items ≡ true
once_if known found items e = go (come_once known found) refl e
  where
    go : (b : Bool) → come_once known found ≡ b → cond b (Some found) None ≡ Some items → come_once known items ≡ true
    go true is e = let same : found ≡ items = cc in ap (come_once known) (sym same) ∙ is
    go false is e = absurd cc

once_of : (known : KnownNames) (o : Option (List Item)) (items : List Item) → option_and_then (λ found. cond (come_once known found) (Some found) None) o ≡ Some items → come_once known items ≡ true
once_of known None items e = absurd cc
once_of known (Some found) items e = once_if known found items e

pub come_once-read : (known : KnownNames) (words : List (List ℕ)) (items : List Item) → read_items known words ≡ Some items → come_once known items ≡ true
unfolding read_items
come_once-read known words items e = once_of known (items_of known words) items e
