use Rattle.std.proofs.Common.{◌+◌, arith}
use Rattle.bats_sampler.proofs.SortedNumbers.{Parts-here}
use Rattle.bats_sampler.proofs.contributors.passed.Goals as goal

pub returns-else-sorted-index : goal.returns-else-sorted-index
returns-else-sorted-index c =
    Parts-here c.args.sorted.now c.loop-index.index (c.args.place + c.loop-index.index) c.requires.rises
    c.loop-index.invariant.within
    (λ k lt. let low = c.loop-index.invariant.so_far k lt in omega arith) (omega arith)
