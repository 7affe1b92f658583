use Rattle.std.proofs.Common.{List, ap}
use Rattle.bats_batch.specs.declared.entry.Entry.{Entry}
use Rattle.bats_batch.specs.steps.Entries.{offered_packets}
use Rattle.bats_batch.proofs.Offering.{basis_of}
use Rattle.bats_batch.proofs.KeptOfBatches.{StandsForBatch-none}
use Rattle.bats_batch.proofs.basis.Basis.new.Goals as goal

pub returns-clause-stands : goal.returns-clause-stands
returns-clause-stands c batch =
    StandsForBatch-none batch (basis_of c.args.m c.args.t c.new.result.items)
    (ap (λ (entries : List Entry). offered_packets entries) c.new.ensures.items)
