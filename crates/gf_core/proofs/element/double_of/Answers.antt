use Rattle.std.proofs.Common.{◌∙◌, sym}
use Rattle.std.proofs.lemmas.Nat.Bits.{shr_and_one}
use Rattle.gf_core.proofs.DoubleLemmas.{double_of_clear, double_of_set}
use Rattle.gf_core.proofs.element.double_of.Goals as goal

pub returns-then-byte-eq1 : goal.returns-then-byte-eq1
returns-then-byte-eq1 c = sym (double_of_set c.args.byte (sym (shr_and_one c.args.byte 7) ∙ c.if-byte-eq1.true))

pub returns-else-byte-eq1 : goal.returns-else-byte-eq1
returns-else-byte-eq1 c =
    sym (double_of_clear c.args.byte (λ set. c.if-byte-eq1.false (shr_and_one c.args.byte 7 ∙ set)))
