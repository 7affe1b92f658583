use Rattle.tool_replay.proofs.TrialSeeds.{loss_key-bytes}
use Rattle.tool_replay.proofs.trial_keys.loss_key.Goals as goal

pub returns : goal.returns
returns c =
    loss_key-bytes c.args.number c.args.hop c.to_be_bytes-n.result c.to_be_bytes-h.result c.to_be_bytes-n.ensures c.to_be_bytes-h.ensures
