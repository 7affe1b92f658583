use Rattle.std.proofs.Common.{◌≡◌, ap, arith}
use Rattle.bats_batch.specs.Basis.{BasisData}
use Rattle.bats_batch.proofs.Offering.{AreEntries-count}
use Rattle.bats_batch.proofs.basis.Basis.rank.Goals as goal

pub overflow_cast-result : goal.overflow_cast-result
overflow_cast-result c =
    let few = AreEntries-count c.self.inside.m c.self.inside.t c.self.inside.entries.items c.self.invariant in
    omega (arith, few)

pub returns-clause-within : goal.returns-clause-within
returns-clause-within c =
    let few = AreEntries-count c.self.inside.m c.self.inside.t c.self.inside.entries.items c.self.invariant in
    let size : c.self.inside.m ≡ c.args.self.now.m = ap (λ (d : BasisData). d.m) c.self.view_is in
    omega (arith, few, size)
