use Rattle.std.proofs.Common.{◌*◌}
use Rattle.bats_encoder.specs.Terms.{HasTerms}
use Rattle.bats_encoder.proofs.encoder.add_groups.Given as goal

abbrev pub invariant-loop-group : goal.invariant-loop-group
invariant-loop-group l = HasTerms l.payload l.session l.file l.batch l.j (l.group * 4)
