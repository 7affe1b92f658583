use Rattle.std.proofs.Common.{◌≡◌, ◌∙◌, List, ℕ, map, replicate, ap, arith}
use Rattle.gf_core.specs.Field.{double, doubled}
use Rattle.gf_rows.proofs.HalfLemmas.{AreProducts-of_doubles}
use Rattle.gf_rows.proofs.halves.Halves.of.Goals as goal

pub returns : goal.returns
unfolding doubled
returns c =
    let f = c.args.factor in
    let all : ℕ → List ℕ = replicate 32 in
    let by_1 : all c.byte-by_1.result ≡ all f = ap all c.byte-by_1.ensures in
    let by_2 : c.doubled-by_2.result ≡ all (doubled 1 f) = c.doubled-by_2.ensures ∙ ap (map double) by_1 in
    let by_4 : c.doubled-by_4.result ≡ all (doubled 2 f) = c.doubled-by_4.ensures ∙ ap (map double) by_2 in
    let by_8 : c.doubled-by_8.result ≡ all (doubled 3 f) = c.doubled-by_8.ensures ∙ ap (map double) by_4 in
    let by_16 : c.doubled-by_16.result ≡ all (doubled 4 f) = c.doubled-by_16.ensures ∙ ap (map double) by_8 in
    let by_32 : c.doubled-by_32.result ≡ all (doubled 5 f) = c.doubled-by_32.ensures ∙ ap (map double) by_16 in
    let by_64 : c.doubled-by_64.result ≡ all (doubled 6 f) = c.doubled-by_64.ensures ∙ ap (map double) by_32 in
    let by_128 : c.doubled-by_128.result ≡ all (doubled 7 f) = c.doubled-by_128.ensures ∙ ap (map double) by_64 in
    rw (c.sums_of_four-low.ensures f (doubled 1 f) (doubled 2 f) (doubled 3 f) by_1 by_2 by_4 by_8, c.sums_of_four-high.ensures (doubled 4 f) (doubled 5 f) (doubled 6 f) (doubled 7 f) by_16 by_32 by_64 by_128)
    (AreProducts-of_doubles f (omega arith))
