use Rattle.bats_model.proofs.EachList.{answer-exists}
use Rattle.bats_model.proofs.laws.each_list_has_an_answer.Goals as goal

pub returns : goal.returns
returns c = answer-exists
