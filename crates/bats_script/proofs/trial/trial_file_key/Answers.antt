use Rattle.bats_script.proofs.TrialKeys.{trial_file_key-bytes}
use Rattle.bats_script.proofs.trial.trial_file_key.Goals as goal

pub returns : goal.returns
returns c = trial_file_key-bytes c.args.number c.to_be_bytes-n.result c.to_be_bytes-n.ensures
