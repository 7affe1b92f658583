-- The kinds of values that an option may have.
use Rattle.std.specs.Prelude.{ℕ, nat_le, ◌&&◌, Bool, true, false, List, length, Option, Some, None, if◌then◌else◌, codes}
use Rattle.std.specs.Char.{is_ascii_digit}
use Rattle.std.specs.List.{list_all}
use Rattle.std.specs.Result.{result_ok}
use Rattle.std.specs.Str.{bytes_eq}
use Rattle.std.specs.Str.Parse.{digits_value}
use Rattle.hex.specs.Hex.{decode_sized}

-- a word of 1 to 20 decimal digits, which may begin with zeros and have no sign
abbrev pub is_number_word : List ℕ → Bool
is_number_word word = nat_le 1 (length word) && nat_le (length word) 20 && list_all is_ascii_digit word

-- the number that the word is, if it is from low to high
unfoldable pub number_in : ℕ → ℕ → List ℕ → Option ℕ
number_in low high word =
    if is_number_word word && nat_le low (digits_value 10 word) && nat_le (digits_value 10 word) high
    then Some (digits_value 10 word)
    else None

-- whether the word of a rule is `extra`; else it is `fixed`
unfoldable pub rule_of : List ℕ → Option Bool
rule_of word =
    if bytes_eq word (codes "extra") then Some true
    else if bytes_eq word (codes "fixed") then Some false
    else None

-- the 16 bytes that a word of 32 hexadecimal digits of either case is
unfoldable pub seed_of : List ℕ → Option (List ℕ)
seed_of word = result_ok (decode_sized word 16)
