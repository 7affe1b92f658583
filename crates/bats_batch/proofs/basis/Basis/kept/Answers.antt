-- Each kept packet has the basis's sizes.
use Rattle.std.proofs.Common.{◌<◌, List, length, get_or, ap, sym, subst, arith}
use Rattle.std.proofs.lemmas.List.{length-map, get_or-map}
use Rattle.bats_batch.specs.Basis.{BasisData, IsSized}
use Rattle.bats_batch.specs.declared.entry.Entry.{Entry}
use Rattle.bats_batch.proofs.basis.Basis.kept.Goals as goal

pub returns-clause-sized : goal.returns-clause-sized
returns-clause-sized c =
    let entries : List Entry = c.self.inside.entries.items in
    let found : Entry = c.index.result.now in
    let as_many = length-map entries (λ (entry : Entry). entry.packet) in
    let within : c.args.i < length entries =
    omega (arith, c.requires, ap (λ (d : BasisData). length d.kept) c.self.view_is, as_many) in
    let size : IsSized c.self.inside.m c.self.inside.t (get_or entries c.args.i found).packet =
    subst (IsSized c.self.inside.m c.self.inside.t)
    (get_or-map (λ (entry : Entry). entry.packet) entries c.args.i found found.packet within)
    (c.self.invariant.sizes c.args.i found.packet (omega (arith, within, as_many))) in
    subst (λ (d : BasisData). IsSized d.m d.t found.packet) c.self.view_is
    (subst (λ (entry : Entry). IsSized c.self.inside.m c.self.inside.t entry.packet) (sym c.index.ensures) size)
