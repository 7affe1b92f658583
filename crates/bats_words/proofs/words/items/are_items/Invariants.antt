use Rattle.std.proofs.Common.{◌≡◌, map, is_some, string_bytes, length}
use Rattle.std.specs.Slice.Iter.{iter_rest}
use Rattle.bats_words.specs.WordItems.{items_of}
use Rattle.bats_words.specs.WordLookup.{known_names}
use Rattle.bats_words.proofs.words.items.are_items.Given as goal

-- the words that are left are items where all of them are
abbrev pub invariant-loop-word : goal.invariant-loop-word
invariant-loop-word l =
    is_some (items_of (known_names l.names) (map string_bytes (iter_rest l.left)))
    ≡ is_some (items_of (known_names l.names) (map string_bytes (iter_rest l.initial.left)))

abbrev pub decreases-loop-word : goal.decreases-loop-word
decreases-loop-word l = length (iter_rest l.left)
