-- What `parse` answers at a word of digits, in the words of `number_in`.
use Rattle.std.proofs.Common.{◌≡◌, ℕ, ◌<◌, ◌^◌, true, false, cond, ◌&&◌, nat_le, List, length, Option, Some, None, Result, Ok, Err, ⊎_elim, rules, arith}
use Rattle.std.specs.Char.{is_ascii_digit}
use Rattle.std.specs.List.{list_all}
use Rattle.std.specs.Option.{option_and_then}
use Rattle.std.specs.Result.{result_ok, OkIff}
use Rattle.std.specs.Str.Parse.{digits_value, ParsesUnsigned}
use Rattle.std.proofs.lemmas.Bool.{and_parts, cases_lt}
use Rattle.std.proofs.lemmas.Bool.Decides.{nat_tests}
use Rattle.std.proofs.lemmas.Str.Parse.{IsNumeralModel, numerals_by_value, parse_digits}
use Rattle.bats_words.specs.WordValues.{is_number_word, number_in}

own : IsNumeralModel (λ ds. list_all is_ascii_digit ds ≡ true) (digits_value 10)
own = numerals_by_value _ (search rules)

-- a number within the range
abbrev pub within : ℕ → ℕ → ℕ → Option ℕ
within low high n = cond (nat_le low n && nat_le n high) (Some n) None

pub number_in-none : (low high : ℕ) (word : List ℕ) → is_number_word word ≡ false → None ≡ number_in low high word
unfolding number_in
number_in-none low high word odd = rw odd

pub list_all-of_word : (word : List ℕ) → is_number_word word ≡ true → (list_all is_ascii_digit word ≡ true) × (0 < length word)
list_all-of_word word digits =
    let parts = and_parts (nat_le 1 (length word) && nat_le (length word) 20) (list_all is_ascii_digit word) digits in
    let longer = (and_parts (nat_le 1 (length word)) (nat_le (length word) 20) parts.0).0 in
    (parts.1, grind (arith, nat_tests))

above : {n high : ℕ} → high < 2 ^ 64 → ¬ (n < 2 ^ 64) → high < n
above {n} {high} small large = ⊎_elim (λ l. l) (λ g. absurd (large (omega arith))) (cases_lt high n)

over_range : (low high n : ℕ) → high < n → None ≡ within low high n
over_range low high n large = grind (arith, nat_tests)

number_in-cases : {E : Type 0} (low high : ℕ) (word : List ℕ) (r : Result ℕ E) → high < 2 ^ 64 → is_number_word word ≡ true → OkIff r ((0 < length word) × (digits_value 10 word < 2 ^ 64)) (digits_value 10 word) → option_and_then (within low high) (result_ok r) ≡ number_in low high word
unfolding number_in
number_in-cases low high word (Ok n) small digits h = rw (digits, h.1)
number_in-cases low high word (Err e) small digits h = rw digits (over_range low high (digits_value 10 word) (above small (λ small. h ((list_all-of_word word digits).1, small))))

pub number_in-parsed : {E : Type 0} (low high : ℕ) (word : List ℕ) (r : Result ℕ E) → high < 2 ^ 64 → is_number_word word ≡ true → ParsesUnsigned 64 10 word r → option_and_then (within low high) (result_ok r) ≡ number_in low high word
number_in-parsed low high word r small digits h =
    number_in-cases low high word r small digits (parse_digits own 64 word r h (list_all-of_word word digits).0)
