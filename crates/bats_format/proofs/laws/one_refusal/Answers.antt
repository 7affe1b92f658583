use Rattle.bats_format.proofs.Refusals.{refused_once, no_file_refused}
use Rattle.bats_format.proofs.laws.one_refusal.Goals as goal

pub returns-clause-once : goal.returns-clause-once
returns-clause-once c = refused_once

pub returns-clause-no_file : goal.returns-clause-no_file
returns-clause-no_file c = no_file_refused
