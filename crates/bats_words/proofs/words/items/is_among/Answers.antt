use Rattle.std.proofs.Common.{List, ℕ, ◌∙◌, Bor, rules, tests}
use Rattle.std.specs.Str.{bytes_eq}
use Rattle.std.proofs.lemmas.Iterator.{YieldsList-from_slice}
use Rattle.std.proofs.lemmas.Iterator.Search.{any_from_yields_List}
use Rattle.bats_words.proofs.ListTests.{list_any-map}
use Rattle.bats_words.proofs.words.items.is_among.Goals as goal

pub returns : goal.returns
returns c =
    let word = c.args.word.now in
    any_from_yields_List (λ (name : Bor (List ℕ)). bytes_eq name.now word) _ _ _ c.any.ensures.ran (YieldsList-from_slice c.args.names.now cc) (λ x b q k. search (rules, tests))
    ∙ list_any-map (λ name. bytes_eq name word) (λ (name : Bor (List ℕ)). name.now) c.args.names.now
