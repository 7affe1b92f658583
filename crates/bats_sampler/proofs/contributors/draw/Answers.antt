use Rattle.std.proofs.Common.{◌+◌, ◌∙◌, ◌++◌, ◌∷◌, [], ap, sym, arith, subst}
use Rattle.std.proofs.lemmas.List.Sorted.{length_permutation}
use Rattle.bats_sampler.specs.Contributors.{Parts}
use Rattle.bats_sampler.proofs.SortedNumbers.{AreSorted-more, unchosen-of_sorted}
use Rattle.bats_sampler.proofs.contributors.draw.Goals as goal

pub passed-index-requires-clause-fits : goal.passed-index-requires-clause-fits
passed-index-requires-clause-fits c =
    let same = length_permutation _ _ c.requires.sorted.same in omega arith

pub overflow_add-number : goal.overflow_add-number
overflow_add-number c =
    let same = length_permutation _ _ c.requires.sorted.same in
    let within = c.passed-index.ensures.within in omega arith

pub returns-clause-drawn : goal.returns-clause-drawn
returns-clause-drawn c =
    let same = length_permutation _ _ c.requires.sorted.same in
    let within = c.passed-index.ensures.within in
    let parts : Parts c.args.sorted.now.items c.passed-index.result (c.args.place + c.passed-index.result) =
    subst (λ xs. Parts xs c.passed-index.result (c.args.place + c.passed-index.result)) c.deref.ensures.value
    c.passed-index.ensures in
    c.in_ok-push.ensures.items
    ∙ ap (λ x. c.args.drawn.now.items ++ x ∷ [])
    (sym (unchosen-of_sorted c.args.symbols c.args.place c.passed-index.result c.args.drawn.now.items
    c.args.sorted.now.items c.requires.sorted parts (omega arith)))

pub returns-clause-sorted : goal.returns-clause-sorted
returns-clause-sorted c =
    let parts : Parts c.args.sorted.now.items c.passed-index.result (c.args.place + c.passed-index.result) =
    subst (λ xs. Parts xs c.passed-index.result (c.args.place + c.passed-index.result)) c.deref.ensures.value
    c.passed-index.ensures in
    let more = AreSorted-more c.args.drawn.now.items c.args.sorted.now.items c.passed-index.result
    (c.args.place + c.passed-index.result) c.requires.sorted parts in
    rw (c.in_ok-push.ensures.items, c.in_ok-insert.ensures.items) more
