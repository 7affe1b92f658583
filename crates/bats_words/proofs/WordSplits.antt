-- The items of words, one word on.
use Rattle.std.proofs.Common.{◌≡◌, ℕ, Bool, true, false, ◌&&◌, List, [], ◌∷◌, Option, Some, None, is_some, map, length, ◌⊎◌, ⊎_elim, refl, sym, ap, ◌∙◌}
use Rattle.std.proofs.lemmas.List.{nil_from_length}
use Rattle.bats_words.specs.WordItems.{KnownNames, Item, is_among, is_value_word, items_of, with_item}

pub is_some-with_item : (name : List ℕ) (value : Option (List ℕ)) (items : Option (List Item)) → is_some (with_item name value items) ≡ is_some items
is_some-with_item name value None = refl
is_some-with_item name value (Some items) = refl

-- after a flag
pub items_of-flag : (known : KnownNames) (word : List ℕ) (rest : List (List ℕ)) → is_among known.flags word ≡ true → items_of known (word ∷ rest) ≡ with_item word None (items_of known rest)
unfolding items_of
items_of-flag known word [] flag = rw flag
items_of-flag known word (next ∷ rest) flag = rw flag

-- after an option and its value
pub items_of-option : (known : KnownNames) (word next : List ℕ) (rest : List (List ℕ)) → is_among known.flags word ≡ false → is_among known.options word ≡ true → is_value_word next ≡ true → items_of known (word ∷ next ∷ rest) ≡ with_item word (Some next) (items_of known rest)
unfolding items_of
items_of-option known word next rest no_flag option value = rw (no_flag, option, value)

-- a last word that is no flag
pub items_of-last : (known : KnownNames) (word : List ℕ) → is_among known.flags word ≡ false → items_of known (word ∷ []) ≡ None
unfolding items_of
items_of-last known word no_flag = rw no_flag

-- a word that is neither
pub items_of-refused : (known : KnownNames) (word next : List ℕ) (rest : List (List ℕ)) → is_among known.flags word ≡ false → (is_among known.options word && is_value_word next) ≡ false → items_of known (word ∷ next ∷ rest) ≡ None
unfolding items_of
items_of-refused known word next rest no_flag neither = rw (no_flag, neither)

pub items_of-nil : (known : KnownNames) → items_of known [] ≡ Some []
unfolding items_of
items_of-nil known = refl

-- ---- the steps of the loop, where f reads a word: the words that are left are items where those before the step were

pub after_flag : {X : Type 0} (f : X → List ℕ) (known : KnownNames) (left rest : List X) (word : X) (text : List ℕ) → left ≡ word ∷ rest → text ≡ f word → is_among known.flags text ≡ true → is_some (items_of known (map f rest)) ≡ is_some (items_of known (map f left))
after_flag f known left rest word text e same flag =
    let here : is_among known.flags (f word) ≡ true = ap (is_among known.flags) (sym same) ∙ flag in
    rw e (sym (ap is_some (items_of-flag known (f word) (map f rest) here) ∙ is_some-with_item (f word) None (items_of known (map f rest))))

pub after_option : {X : Type 0} (f : X → List ℕ) (known : KnownNames) (left middle rest : List X) (word value : X) (text again next : List ℕ) → left ≡ word ∷ middle → middle ≡ value ∷ rest → text ≡ f word → again ≡ f word → next ≡ f value → is_among known.flags text ≡ false → is_among known.options again ≡ true → is_value_word next ≡ true → is_some (items_of known (map f rest)) ≡ is_some (items_of known (map f left))
after_option f known left middle rest word value text again next e d same too there no_flag option valued =
    let no : is_among known.flags (f word) ≡ false = ap (is_among known.flags) (sym same) ∙ no_flag in
    let here : is_among known.options (f word) ≡ true = ap (is_among known.options) (sym too) ∙ option in
    let valid : is_value_word (f value) ≡ true = ap is_value_word (sym there) ∙ valued in
    rw (e, d) (sym (ap is_some (items_of-option known (f word) (f value) (map f rest) no here valid) ∙ is_some-with_item (f word) (Some (f value)) (items_of known (map f rest))))

pub at_last : {X : Type 0} (f : X → List ℕ) (known : KnownNames) (left rest : List X) (word : X) (text : List ℕ) → left ≡ word ∷ rest → length rest ≡ 0 → text ≡ f word → is_among known.flags text ≡ false → false ≡ is_some (items_of known (map f left))
at_last f known left rest word text e none same no_flag =
    let no : is_among known.flags (f word) ≡ false = ap (is_among known.flags) (sym same) ∙ no_flag in
    rw (e, nil_from_length rest none) (sym (ap is_some (items_of-last known (f word) no)))

either_false : (a b : Bool) → (a ≡ false) ⊎ (b ≡ false) → (a && b) ≡ false
either_false true true h = ⊎_elim (λ e. e) (λ e. e) h
either_false true false h = refl
either_false false b h = refl

pub at_refused : {X : Type 0} (f : X → List ℕ) (known : KnownNames) (left middle rest : List X) (word value : X) (text : List ℕ) → left ≡ word ∷ middle → middle ≡ value ∷ rest → text ≡ f word → is_among known.flags text ≡ false → (is_among known.options (f word) ≡ false) ⊎ (is_value_word (f value) ≡ false) → false ≡ is_some (items_of known (map f left))
at_refused f known left middle rest word value text e d same no_flag neither =
    let no : is_among known.flags (f word) ≡ false = ap (is_among known.flags) (sym same) ∙ no_flag in
    rw (e, d) (sym (ap is_some (items_of-refused known (f word) (f value) (map f rest) no (either_false _ _ neither))))

pub at_end : {X : Type 0} (f : X → List ℕ) (known : KnownNames) (left : List X) → length left ≡ 0 → true ≡ is_some (items_of known (map f left))
at_end f known left none = rw (nil_from_length left none) (sym (ap is_some (items_of-nil known)))
