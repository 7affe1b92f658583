-- Each held batch has a kept packet, and the numbers rise.
use Rattle.std.proofs.Common.{subst, arith}
use Rattle.bats_batch.specs.Held.{HeldData, HaveRisingNumbers}
use Rattle.bats_batch.proofs.Offers.{slots-le}
use Rattle.bats_batch.proofs.held.Held.batches.Goals as goal

pub overflow_cast-result : goal.overflow_cast-result
overflow_cast-result c =
    omega (arith, c.len.ensures, slots-le c.self.inside.session c.self.inside.slots.items c.self.inside.rows c.self.invariant)

pub returns-clause-limit : goal.returns-clause-limit
returns-clause-limit c =
    omega (arith, c.len.ensures, slots-le c.self.inside.session c.self.inside.slots.items c.self.inside.rows c.self.invariant)

pub returns-clause-rising : goal.returns-clause-rising
returns-clause-rising c = subst (λ (h : HeldData). HaveRisingNumbers h.batches) c.self.view_is c.self.invariant.are.rising
