use Rattle.bats_cert.proofs.ContributorRows.{contributor-entry, other-entry}
use Rattle.bats_cert.proofs.laws.rows_by_contributors.Goals as goal

pub returns-clause-contributors : goal.returns-clause-contributors
returns-clause-contributors c = contributor-entry

pub returns-clause-others : goal.returns-clause-others
returns-clause-others c = other-entry
