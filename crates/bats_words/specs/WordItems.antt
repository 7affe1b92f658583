-- How the words after a command's name are split into options and flags.
use Rattle.std.specs.Prelude.{ℕ, ◌==◌, ◌&&◌, nat_le, Bool, false, not, if◌then◌else◌, List, [], ◌∷◌, ◌++◌, Option, Some, None, option_map, option_and_then, count_by}
use Rattle.std.specs.List.{list_any, list_all}
use Rattle.std.specs.Str.{bytes_eq}

-- the names that a command knows: each option is followed by a value word, and each flag stands alone
pub record KnownNames : Type 0 where
  pub options : List (List ℕ)
  pub flags : List (List ℕ)

-- an option with its value word, or a flag, which has none
pub record Item : Type 0 where
  pub name : List ℕ
  pub value : Option (List ℕ)

-- whether the word is one of the names
abbrev pub is_among : List (List ℕ) → List ℕ → Bool
is_among names word = list_any (λ name. bytes_eq name word) names

-- whether the word may be an option's value: it is not empty and does not begin with `-`, whose code is 45
abbrev pub is_value_word : List ℕ → Bool
is_value_word [] = false
is_value_word (c ∷ rest) = not (c == 45)

-- one more item in front, where there are items
abbrev pub with_item : List ℕ → Option (List ℕ) → Option (List Item) → Option (List Item)
with_item name value items = option_map (λ rest. record { name = name; value = value } ∷ rest) items

-- The items that the words are, each a flag, or an option followed by its value word. Any other word refuses them all:
-- a name that is not known, a value word with no option before it, an option with no value word behind it.
unfoldable pub items_of : KnownNames → List (List ℕ) → Option (List Item)
items_of known [] = Some []
items_of known (word ∷ []) = if is_among known.flags word then with_item word None (Some []) else None
items_of known (word ∷ next ∷ rest) =
    if is_among known.flags word then with_item word None (items_of known (next ∷ rest))
    else if is_among known.options word && is_value_word next then with_item word (Some next) (items_of known rest)
    else None

-- how many of the items have the name
abbrev pub times_named : List ℕ → List Item → ℕ
times_named name items = count_by (λ item. bytes_eq item.name name) items

-- whether no option and no flag comes twice
abbrev pub come_once : KnownNames → List Item → Bool
come_once known items = list_all (λ name. nat_le (times_named name items) 1) (known.options ++ known.flags)

-- the items that the words are, where none comes twice
unfoldable pub read_items : KnownNames → List (List ℕ) → Option (List Item)
read_items known words =
    option_and_then (λ items. if come_once known items then Some items else None) (items_of known words)

-- the value of the option of this name, if it is there
unfoldable pub value_of : List ℕ → List Item → Option (List ℕ)
value_of name [] = None
value_of name (item ∷ items) = if bytes_eq item.name name then item.value else value_of name items

-- whether the flag of this name is there
abbrev pub is_there : List ℕ → List Item → Bool
is_there name items = list_any (λ item. bytes_eq item.name name) items
