use Rattle.tool_replay.proofs.TrialSeeds.{relay_seed-bytes}
use Rattle.tool_replay.proofs.trial_keys.relay_seed.Goals as goal

pub returns : goal.returns
returns c =
    relay_seed-bytes c.args.number c.args.relay c.to_be_bytes-n.result c.to_be_bytes-r.result c.to_be_bytes-n.ensures c.to_be_bytes-r.ensures
