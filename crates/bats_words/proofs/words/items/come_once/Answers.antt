use Rattle.std.proofs.Common.{List, ℕ, nat_le, map, string_bytes, ◌∙◌, Bor, rules, tests}
use Rattle.std.proofs.lemmas.Iterator.{YieldsList-from_slice}
use Rattle.std.proofs.lemmas.Iterator.Search.{all_from_yields_List}
use Rattle.bats_words.specs.WordLookup.{times}
use Rattle.bats_words.proofs.ListTests.{list_all-map}
use Rattle.bats_words.proofs.words.items.come_once.Goals as goal

pub returns : goal.returns
returns c =
    let words = map string_bytes c.args.words.now in
    all_from_yields_List (λ (name : Bor (List ℕ)). nat_le (times name.now words) 1) _ _ _ c.all.ensures.ran (YieldsList-from_slice c.args.names.now cc) (λ x b q k. search (rules, tests))
    ∙ list_all-map (λ name. nat_le (times name words) 1) (λ (name : Bor (List ℕ)). name.now) c.args.names.now
