use Rattle.std.proofs.Common.{◌∙◌, ap}
use Rattle.std.specs.Result.{result_ok}
use Rattle.bats_words.specs.WordValues.{seed_of}
use Rattle.bats_words.proofs.words.values.seed_of.Goals as goal

pub returns : goal.returns
unfolding seed_of
returns c = c.ok.ensures.value ∙ ap result_ok c.from_hex.ensures
