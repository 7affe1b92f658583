use Rattle.bats_format.proofs.EachInput.{file_or_refused}
use Rattle.bats_format.proofs.laws.each_input.Goals as goal

pub returns : goal.returns
returns c = file_or_refused
