-- The packets that are kept after one that was offered.
use Rattle.std.proofs.Common.{List}
use Rattle.std.specs.Prelude.{All}
use Rattle.std.proofs.lemmas.List.Elements.{All-push}
use Rattle.bats_model.specs.declared.packet.Packet.{Packet}
use Rattle.bats_model.specs.declared.taken.Taken.{Taken}
use Rattle.bats_model.specs.declared.taken.Taken.TheVariants.{Kept, Dependent, Contradiction}
use Rattle.bats_batch.specs.Basis.{kept_with}

-- what holds of the kept packets and of the one that is offered holds of those that are kept after it
pub All-kept_with : (P : Packet → Type 0) (kept : List Packet) (packet : Packet) (taken : Taken) → All P kept → P packet → All P (kept_with kept packet taken)
All-kept_with P kept packet Kept all here = All-push P kept packet all here
All-kept_with P kept packet Dependent all here = all
All-kept_with P kept packet Contradiction all here = all
