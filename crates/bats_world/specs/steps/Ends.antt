-- How a holder's refusal is told.
use Rattle.bats_batch.specs.declared.held.HeldEnd.{HeldEnd}
use Rattle.bats_batch.specs.declared.held.HeldEnd.TheVariants.{Memory, Full}
use Rattle.bats_world.specs.declared.event.WorldEnd.{WorldEnd}
use Rattle.bats_world.specs.declared.event.WorldEnd.TheVariants as causes

abbrev pub end_of : HeldEnd → WorldEnd
end_of Memory = causes.Memory
end_of Full = causes.Full
