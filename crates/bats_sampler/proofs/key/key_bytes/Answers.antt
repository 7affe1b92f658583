use Rattle.std.proofs.Common.{◌*◌, ◌∙◌, ap}
use Rattle.bats_sampler.specs.Words.{KeyPlace, bytes_from}
use Rattle.bats_sampler.proofs.KeyLemmas.{bytes_from-start}
use Rattle.bats_sampler.proofs.key.key_bytes.Goals as goal

pub returns : goal.returns
returns c =
    c.from.ensures ∙ c.in_ok-next_bytes.ensures.bytes
    ∙ ap (λ (w : KeyPlace). bytes_from w.key (4 * w.place) c.args.count) c.new-words.ensures
    ∙ bytes_from-start c.args.key.now c.args.count
