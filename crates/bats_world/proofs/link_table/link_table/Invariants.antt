use Rattle.std.proofs.Common.{take}
use Rattle.bats_world.specs.Standing.{IsTableOf}
use Rattle.bats_world.proofs.link_table.link_table.Given as goal

abbrev pub invariant-links : goal.invariant-links
invariant-links l = IsTableOf (take l.link-index l.links) l.table.items
