use Rattle.std.proofs.Common.{◌∙◌, ap}
use Rattle.bats_batch.specs.Held.{HeldData, row_count}
use Rattle.bats_batch.proofs.Offers.{row_count-stands}
use Rattle.bats_batch.proofs.held.Held.rows.Goals as goal

pub returns-clause-kept : goal.returns-clause-kept
returns-clause-kept c packets stands =
    c.self.invariant.count ∙ ap (λ (h : HeldData). row_count h.batches) c.self.view_is
    ∙ row_count-stands packets c.args.self.now stands
