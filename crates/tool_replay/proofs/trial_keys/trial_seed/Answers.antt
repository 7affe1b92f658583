use Rattle.tool_replay.proofs.TrialSeeds.{trial_seed-bytes}
use Rattle.tool_replay.proofs.trial_keys.trial_seed.Goals as goal

pub returns : goal.returns
returns c = trial_seed-bytes c.args.number c.to_be_bytes-n.result c.to_be_bytes-n.ensures
