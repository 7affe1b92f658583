use Rattle.bats_encoder.specs.Terms.{HasTerms}
use Rattle.bats_encoder.proofs.encoder.add_one_by_one.Given as goal

abbrev pub invariant-loop-k : goal.invariant-loop-k
invariant-loop-k l = HasTerms l.payload l.session l.file l.batch l.j l.k
