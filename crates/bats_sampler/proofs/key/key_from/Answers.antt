use Rattle.bats_sampler.proofs.KeyLemmas.{seeded_key-parts}
use Rattle.bats_sampler.proofs.key.key_from.Goals as goal

pub returns : goal.returns
returns c =
    seeded_key-parts c.copy_from_slice.new.self c.args.seed c.to_be_bytes-a.result c.to_be_bytes-b.result
    c.args.first c.args.kind c.args.second c.copy_from_slice.ensures.after c.to_be_bytes-a.ensures
    c.to_be_bytes-b.ensures
