use Rattle.std.proofs.Common.{ℕ, ◌≡◌, ◌<◌, ◌≤◌, ◌+◌, ◌∙◌, eqb, List, length, take, get_or, refl, ap, subst, arith, take_all}
use Rattle.std.specs.List.{list_any}
use Rattle.std.proofs.lemmas.List.{length-set, get_or_read}
use Rattle.bats_peel.proofs.Counting.{hit, AreCounted, counted-none, counted-fresh, counted-write}
use Rattle.bats_peel.proofs.counts.count_batch.Goals as goal

pub loop-k-init : goal.loop-k-init
loop-k-init c = record {
  size = refl;
  count = λ most room few distinct s low. counted-none c.args.counts.now.items s low;
}

pub loop-k-preserved : goal.loop-k-preserved
loop-k-preserved c =
    let old : List ℕ = c.args.counts.now.items in
    let now : List ℕ = c.loop-k.counts.items in
    let symbols : List ℕ = c.args.local.now.batch.contributors in
    let k : ℕ = c.loop-k.k in
    let at : ℕ = c.contributor-symbol.result in
    let within : k < length symbols = omega (arith, c.degree-k-end.ensures.value) in
    let below : get_or symbols k 0 < length old = c.requires.below k within in
    let place : at ≡ get_or symbols k 0 = c.contributor-symbol.ensures in
    let read : c.index.result.now ≡ get_or now at 0 =
    get_or_read now at c.index.result.now (omega (arith, place, below, c.loop-k.invariant.size)) c.index.ensures 0 in
    record {
      size = length-set now at c.saturating_add.result ∙ c.loop-k.invariant.size;
      count = λ most room few distinct.
          let counted : AreCounted old now (take k symbols) = c.loop-k.invariant.count most room few distinct in
          let was : get_or now at 0 ≡ get_or old (get_or symbols k 0) 0 =
          ap (λ a. get_or now a 0) place ∙ counted-fresh old now symbols k distinct within below counted in
          let small : get_or old (get_or symbols k 0) 0 ≤ most = few (get_or symbols k 0) 0 below in
          counted-write old now symbols k at c.saturating_add.result c.loop-k.invariant.size distinct within below place
          (omega (arith, c.saturating_add.ensures, read, was, small, room)) counted;
    }

pub returns-clause-count : goal.returns-clause-count
returns-clause-count c = λ most room few distinct s low.
    let symbols : List ℕ = c.args.local.now.batch.contributors in
    let all : take c.loop-k.k symbols ≡ symbols = take_all c.loop-k.k symbols (omega (arith, c.degree-k-end.ensures.value)) in
    subst (λ (some : List ℕ). get_or c.loop-k.counts.items s 0 ≡ get_or c.args.counts.now.items s 0 + hit (list_any (λ u. eqb u s) some)) all
    (c.loop-k.invariant.count most room few distinct s low)
