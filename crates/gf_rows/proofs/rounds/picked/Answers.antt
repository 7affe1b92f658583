use Rattle.std.proofs.Common.{◌≡◌, ◌/◌, ◌^◌, ◌∙◌, ◌==◌, if◌then◌else◌, map, bit_and, ap}
use Rattle.std.specs.Int.{bit_at}
use Rattle.std.proofs.lemmas.Nat.Bits.{shr_and_one}
use Rattle.gf_rows.proofs.RoundLemmas.{picked_lanes}
use Rattle.gf_rows.proofs.rounds.picked.Goals as goal

pub returns : goal.returns
returns c =
    let bit = bit_and (c.byte.result / 2 ^ c.args.place) 1 in
    let is : bit ≡ bit_at c.args.c c.args.place = shr_and_one c.byte.result c.args.place ∙ ap (λ factor. bit_at factor c.args.place) c.byte.ensures in
    picked_lanes 16 (bit == 1) c.args.v c.fits-v.0 ∙ ap (λ b. map (λ x. if b == 1 then x else 0) c.args.v) is
