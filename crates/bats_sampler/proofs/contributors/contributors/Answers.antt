use Rattle.std.proofs.Common.{◌≡◌, ◌<◌, ◌+◌, ◌-◌, ◌∙◌, ap, arith, refl, length}
use Rattle.bats_model.specs.Key.{key_word, pick}
use Rattle.bats_model.specs.Batch.{drawn}
use Rattle.bats_sampler.specs.Words.{KeyPlace}
use Rattle.bats_sampler.proofs.SortedNumbers.{AreSorted-none}
use Rattle.bats_sampler.proofs.KeyLemmas.{pick-below}
use Rattle.bats_sampler.proofs.DistinctContributors.{drawn-more, length-drawn}
use Rattle.bats_sampler.proofs.contributors.contributors.Goals as goal

pub loop-i-init : goal.loop-i-init
unfolding drawn
loop-i-init c = record {
  key = refl;
  place = c.requires.first;
  so_far = c.in_ok-numbers.ensures.items;
  sorted = rw (c.in_ok-numbers.ensures.items, c.in_ok-sorted.ensures.items) AreSorted-none;
}

pub draw-requires-clause-place : goal.draw-requires-clause-place
draw-requires-clause-place c =
    let low : pick c.next_word.result (c.args.symbols - c.loop-i.i) < c.args.symbols - c.loop-i.i =
    pick-below c.next_word.result (c.args.symbols - c.loop-i.i) c.next_word.type_inv (omega arith) in
    let long : length c.loop-i.numbers.items ≡ c.loop-i.i =
    ap length c.loop-i.invariant.so_far ∙ length-drawn c.args.words.now.key c.args.symbols c.loop-i.i in
    let place : c.pick_below-place.result < c.args.symbols - c.loop-i.i = rw c.pick_below-place.ensures low in
    omega arith

pub loop-i-preserved : goal.loop-i-preserved
loop-i-preserved c =
    let word : c.next_word.result ≡ key_word c.args.words.now.key (1 + c.loop-i.i) =
    c.next_word.ensures.value ∙ ap (λ key. key_word key c.loop-i.words.place) c.loop-i.invariant.key
    ∙ ap (λ place. key_word c.args.words.now.key place) c.loop-i.invariant.place in
    record {
      key = ap (λ (w : KeyPlace). w.key) c.next_word.ensures.after ∙ c.loop-i.invariant.key;
      place = let next = ap (λ (w : KeyPlace). w.place) c.next_word.ensures.after in omega arith;
      so_far = drawn-more c.args.words.now.key c.args.symbols c.loop-i.i c.pick_below-place.result
          c.loop-i.numbers.items c.draw.new.drawn.items c.loop-i.invariant.so_far
          (c.pick_below-place.ensures ∙ ap (λ w. pick w (c.args.symbols - c.loop-i.i)) word)
          c.in_ok-draw.ensures.drawn;
      sorted = c.in_ok-draw.ensures.sorted;
    }
