use Rattle.std.proofs.Common.{◌≡◌, ◌/◌, ◌%◌, map}
use Rattle.std.specs.List.{range_with_len}
use Rattle.bats_model.specs.Batch.{identity_entry}
use Rattle.bats_model.proofs.systematic.identity_entries.Given as goal

abbrev pub invariant-loop-place : goal.invariant-loop-place
invariant-loop-place l =
    l.entries.items ≡ map (λ place. identity_entry (place / l.columns) (place % l.columns)) (range_with_len 0 l.place)
