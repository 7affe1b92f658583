use Rattle.std.proofs.Common.{◌≡◌, not, take, count_by}
use Rattle.bats_model.specs.Peeling.{is_in}
use Rattle.bats_peel.proofs.counts.unknown_count.Given as goal

abbrev pub invariant-contributors : goal.invariant-contributors
invariant-contributors l = l.count ≡ count_by (λ s. not (is_in l.known s)) (take l.k l.local.batch.contributors)
