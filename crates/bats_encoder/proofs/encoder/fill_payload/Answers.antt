use Rattle.std.proofs.Common.{◌≡◌, ◌∙◌, ap, length, arith}
use Rattle.std.proofs.lemmas.List.FromFn.{fill_by_all}
use Rattle.gf_core.specs.Field.{gf_sum}
use Rattle.bats_model.specs.Coded.{coded_byte, coded_payload}
use Rattle.bats_model.specs.Values.{coded_value, coded_term}
use Rattle.bats_model.specs.Symbol.{symbol_byte}
use Rattle.bats_encoder.proofs.TermLemmas.{HasTerms-none}
use Rattle.bats_encoder.proofs.encoder.fill_payload.Goals as goal

pub add_groups-requires-clause-zeros : goal.add_groups-requires-clause-zeros
add_groups-requires-clause-zeros c =
    HasTerms-none c.args.payload.now c.args.session.now c.args.file.now c.args.batch.now c.args.j c.requires.zeros

pub returns : goal.returns
unfolding coded_payload coded_value
returns c =
    let all : c.degree-degree.result ≡ length c.args.batch.now.contributors = omega arith in
    let long : length c.add_one_by_one.new.payload ≡ c.args.session.now.t = omega arith in
    fill_by_all (coded_byte c.args.session.now c.args.file.now c.args.batch.now c.args.j) c.add_one_by_one.new.payload c.args.session.now.t 0 long
    (λ i h. c.add_one_by_one.ensures.each i h ∙ ap (λ n. gf_sum n (coded_term c.args.batch.now c.args.j (λ s. symbol_byte c.args.session.now c.args.file.now s i))) all)
