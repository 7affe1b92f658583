use Rattle.std.proofs.Common.{List, ℕ, ◌∙◌, ap, map}
use Rattle.std.specs.List.{range_with_len}
use Rattle.bats_model.specs.Key.{relay_key, key_byte}
use Rattle.bats_sampler.proofs.mix.mix_bytes.Goals as goal

pub returns : goal.returns
unfolding relay_key
returns c =
    c.in_ok-key_bytes.ensures ∙ ap (λ (key : List ℕ). map (λ i. key_byte key i) (range_with_len 0 c.from.result)) c.key_from-key.ensures
    ∙ ap (λ (n : ℕ). map (λ i. key_byte (relay_key c.args.relay_seed.now c.args.batch c.args.output) i) (range_with_len 0 n)) c.from.ensures
