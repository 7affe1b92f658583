use Rattle.std.proofs.Common.{◌≡◌, ◌+◌, ◌∙◌, sym, subst, length, arith}
use Rattle.gf_core.specs.Rows.{add_scaled_row}
use Rattle.gf_core.proofs.RowLemmas.{length-add_scaled_row}
use Rattle.bats_encoder.specs.Terms.{HasTerms}
use Rattle.bats_encoder.proofs.TermLemmas.{HasTerms-more}
use Rattle.bats_encoder.proofs.encoder.add_four_contributors.Goals as goal

pub returns : goal.returns
returns c =
    let session = c.args.session.now in
    let file = c.args.file.now in
    let batch = c.args.batch.now in
    let j = c.args.j in
    let n = c.args.first in
    let a = c.multiple_of-a in
    let b = c.multiple_of-b in
    let third = c.multiple_of-c in
    let d = c.multiple_of-d in
    let row = c.args.payload.now in
    let row_1 = add_scaled_row row a.result.factor a.result.row.now in
    let row_2 = add_scaled_row row_1 b.result.factor b.result.row.now in
    let row_3 = add_scaled_row row_2 third.result.factor third.result.row.now in
    let row_4 = add_scaled_row row_3 d.result.factor d.result.row.now in
    let long_1 : length row_1 ≡ session.t = length-add_scaled_row row a.result.factor a.result.row.now ∙ c.requires.length in
    let long_2 : length row_2 ≡ session.t = length-add_scaled_row row_1 b.result.factor b.result.row.now ∙ long_1 in
    let long_3 : length row_3 ≡ session.t = length-add_scaled_row row_2 third.result.factor third.result.row.now ∙ long_2 in
    let one : HasTerms row_1 session file batch j (n + 1) = HasTerms-more row session file batch j n a.result.factor a.result.row.now c.requires.length a.ensures.factor a.ensures.bytes c.requires.before in
    let two : HasTerms row_2 session file batch j (n + 1 + 1) = HasTerms-more row_1 session file batch j (n + 1) b.result.factor b.result.row.now long_1 b.ensures.factor b.ensures.bytes one in
    let two_at : n + 1 + 1 ≡ n + 2 = omega arith in
    let three : HasTerms row_3 session file batch j (n + 2 + 1) = HasTerms-more row_2 session file batch j (n + 2) third.result.factor third.result.row.now long_2 third.ensures.factor third.ensures.bytes (subst (HasTerms row_2 session file batch j) two_at two) in
    let three_at : n + 2 + 1 ≡ n + 3 = omega arith in
    let four : HasTerms row_4 session file batch j (n + 3 + 1) = HasTerms-more row_3 session file batch j (n + 3) d.result.factor d.result.row.now long_3 d.ensures.factor d.ensures.bytes (subst (HasTerms row_3 session file batch j) three_at three) in
    let four_at : n + 3 + 1 ≡ n + 4 = omega arith in
    subst (λ r. HasTerms r session file batch j (n + 4)) (sym c.add_four_symbols.ensures) (subst (HasTerms row_4 session file batch j) four_at four)
