-- What the code tests of the words themselves. Where they are items, it is what holds of the items.
use Rattle.std.specs.Prelude.{ℕ, List, ◌++◌, map, Bool, not, nat_le, count_by}
use Rattle.std.specs.Str.{bytes_eq}
use Rattle.std.specs.List.{list_all}
use denote.Ref.{Bor}
use Rattle.bats_words.specs.WordItems.{KnownNames, is_value_word}
use Rattle.bats_words.specs.declared.words.items.Names.{Names}

-- the texts that references point to
abbrev pub texts_of : List (Bor (List ℕ)) → List (List ℕ)
texts_of names = map (λ name. name.now) names

-- the names that the code knows, as the definitions take them
abbrev pub known_names : Names → KnownNames
known_names names = record { options = texts_of names.options.now; flags = texts_of names.flags.now }

-- whether no known name may be taken for a value word
abbrev pub are_names : KnownNames → Bool
are_names known = list_all (λ name. not (is_value_word name)) (known.options ++ known.flags)

-- how many of the words are the name
abbrev pub times : List ℕ → List (List ℕ) → ℕ
times name words = count_by (λ word. bytes_eq word name) words

-- whether no name stands twice among the words
abbrev pub come_once_among : List (List ℕ) → List (List ℕ) → Bool
come_once_among names words = list_all (λ name. nat_le (times name words) 1) names
