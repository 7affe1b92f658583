use Rattle.std.proofs.Common.{◌<◌, arith}
use Rattle.std.proofs.lemmas.List.Elements.{All-from_get_or}
use Rattle.bats_model.proofs.session.bytes_of.Goals as goal

pub returns-clause-bytes : goal.returns-clause-bytes
returns-clause-bytes c =
    All-from_get_or (λ item. item < 256) c.args.seed.now 0 (λ k h. omega (arith, c.fits-seed k))
