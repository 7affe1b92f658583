use Rattle.std.proofs.Common.{◌≡◌, None, ◌∙◌, arith, sym, ap}
use Rattle.std.proofs.lemmas.Bool.Decides.{nat_tests}
use Rattle.std.specs.Option.{option_and_then}
use Rattle.std.specs.Result.{result_ok}
use Rattle.bats_words.proofs.WordNumbers.{number_in-none, number_in-parsed, within}
use Rattle.bats_words.proofs.words.values.number_in.Goals as goal
use Rattle.bats_words.proofs.words.values.number_in.Goals.{then-low-number, else-low-number}

pub returns-then-not-is_number_word-clause-value : goal.returns-then-not-is_number_word-clause-value
returns-then-not-is_number_word-clause-value c =
    number_in-none _ _ _ (sym c.is_number_word.ensures ∙ c.if-not-is_number_word.true)

pub returns-in_err-number-clause-value : goal.returns-in_err-number-clause-value
returns-in_err-number-clause-value c =
    let digits = sym c.is_number_word.ensures ∙ c.if-not-is_number_word.false in
    let parsed = number_in-parsed c.args.low c.args.high c.args.word.now c.parse.result c.ranges.high.fits digits c.parse.ensures.value.0 in
    let none : option_and_then (within c.args.low c.args.high) (result_ok c.parse.result) ≡ None =
    ap (option_and_then (within c.args.low c.args.high)) (sym c.ok.ensures.value ∙ c.in_err-number.was) in
    c.from_residual.ensures ∙ sym none ∙ parsed

pub returns-clause-value : goal.returns-clause-value
returns-clause-value c =
    let digits = sym c.is_number_word.ensures ∙ c.if-not-is_number_word.false in
    let parsed = number_in-parsed c.args.low c.args.high c.args.word.now c.parse.result c.ranges.high.fits digits c.parse.ensures.value.0 in
    let some : option_and_then (within c.args.low c.args.high) (result_ok c.parse.result) ≡ within c.args.low c.args.high c.in_ok-number.number =
    ap (option_and_then (within c.args.low c.args.high)) (sym c.ok.ensures.value ∙ c.in_ok-number.was) in
    let same : c.then_some.result ≡ within c.args.low c.args.high c.in_ok-number.number =
    elim c.if-low-number.branch [ then-low-number w ↦ grind (arith, nat_tests) | else-low-number w ↦ grind (arith, nat_tests) ] in
    same ∙ sym some ∙ parsed
