use Rattle.std.proofs.Common.{List, ℕ, ◌∙◌, ap, map}
use Rattle.std.specs.List.{range_with_len}
use Rattle.bats_model.specs.Key.{key_byte}
use Rattle.bats_script.specs.Trial.{trial_file}
use Rattle.bats_script.proofs.trial.trial_file.Goals as goal

pub returns : goal.returns
unfolding trial_file
returns c =
    c.in_ok-key_bytes.ensures ∙ ap (λ (key : List ℕ). map (λ i. key_byte key i) (range_with_len 0 c.args.length)) c.trial_file_key.ensures
