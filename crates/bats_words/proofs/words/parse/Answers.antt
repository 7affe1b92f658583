use Rattle.std.proofs.Common.{◌≡◌, ◌∷◌, map, string_bytes, sym, ap, subst, ◌∙◌}
use Rattle.std.specs.Option.{option_and_then}
use Rattle.bats_words.specs.Answer.{IsAnswer}
use Rattle.bats_words.specs.Words.{command_of}
use Rattle.bats_words.specs.steps.Named.{named}
use Rattle.bats_words.proofs.CommandRanges.{command_of-within}
use Rattle.bats_words.proofs.words.parse.Goals as goal

pub returns : goal.returns
returns c =
    let rest = map string_bytes c.in-Some.rest.now in
    let is : command_of (map string_bytes c.args.words.now.items) ≡ named c.in-Some-name_of.name rest =
    ap (λ words. command_of (map string_bytes words)) (sym c.deref.ensures.value ∙ c.in-Some.ensures.cases.0)
    ∙ ap (λ name. command_of (name ∷ rest)) (sym c.as_str.ensures.value)
    ∙ c.name_of.ensures rest
    ∙ ap (option_and_then (λ name. named name rest)) c.in-Some-name_of.is in
    let answer = subst (λ command. IsAnswer command c.named.result) (sym is) c.named.ensures in
    record { value = answer; ranges = command_of-within _ c.named.result answer }
