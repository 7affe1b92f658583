use Rattle.std.proofs.Common.{ℕ, ◌∙◌, drop, arith}
use Rattle.std.proofs.lemmas.List.{take_all, length-drop}
use Rattle.bats_format.proofs.header.seed.Goals as goal

pub returns : goal.returns
returns c =
    c.copy_from_slice.ensures.after
    ∙ take_all 16 (drop 16 c.args.bytes.now) (omega (arith, length-drop {A = ℕ}))
