use Rattle.std.proofs.Common.{◌≡◌, ◌+◌}
use Rattle.bats_model.specs.Batch.{drawn}
use Rattle.bats_sampler.specs.Contributors.{AreSorted}
use Rattle.bats_sampler.proofs.contributors.contributors.Given as goal

abbrev pub invariant-loop-i : goal.invariant-loop-i
invariant-loop-i l = record {
  key : l.words.key ≡ l.fn.words.key;
  place : l.words.place ≡ 1 + l.i;
  so_far : l.numbers.items ≡ drawn l.fn.words.key l.symbols l.i;
  sorted : AreSorted l.numbers.items l.sorted.items;
}
