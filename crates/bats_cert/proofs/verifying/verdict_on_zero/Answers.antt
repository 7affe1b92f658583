use Rattle.std.proofs.Common.{ℕ, ◌≡◌, ◌∙◌, List, [], length, get_or, sym, ap}
use Rattle.gf_core.specs.Field.{gf_mul, gf_sum}
use Rattle.gf_core.specs.Combinations.{combination}
use Rattle.gf_core.proofs.CombinationLemmas.{length-combination}
use Rattle.gf_rows.specs.Matrix.{Grid}
use Rattle.bats_model.specs.Relay.{payloads_of}
use Rattle.bats_model.specs.declared.packet.Packet.{Packet}
use Rattle.bats_cert.specs.Sums.{symbol_sums, payload_sums}
use Rattle.bats_cert.specs.Shown.{GivesNothing}
use Rattle.bats_cert.proofs.SymbolSums.{payload-sum}
use Rattle.bats_cert.proofs.verifying.verdict_on_zero.Goals as goal

pub says_nothing-requires : goal.says_nothing-requires
says_nothing-requires c =
    let said : Grid = c.args.said.now in
    ap (λ (r : List ℕ). length r) (c.deref.ensures.value ∙ c.in_ok-sum.ensures) ∙ length-combination said.cols c.as_slice.result.now said.rows
    ∙ ap (λ (m : Grid). m.cols) c.requires.said

pub returns-then-byte-eq0 : goal.returns-then-byte-eq0
returns-then-byte-eq0 c =
    let said : Grid = c.args.said.now in
    let packets : List Packet = c.args.packets.now in
    let factors : List ℕ = c.args.factors.now in
    let sum : c.deref.result.now ≡ symbol_sums c.args.session.now packets factors =
    c.deref.ensures.value ∙ c.in_ok-sum.ensures ∙ ap (λ (fs : List ℕ). combination said.cols fs said.rows) c.as_slice.ensures.value
    ∙ ap (λ (m : Grid). combination m.cols factors m.rows) c.requires.said in
    let is : c.payload_byte.result ≡ gf_sum (length packets) (λ i. gf_mul (get_or c.as_slice-2.result.now i 0) (get_or (get_or (payloads_of packets) i []) c.from.result 0)) =
    c.payload_byte.ensures in
    let byte : c.byte.result ≡ get_or (payload_sums c.args.session.now packets factors) c.args.column 0 =
    c.byte.ensures ∙ is
    ∙ ap (λ (fs : List ℕ). gf_sum (length packets) (λ i. gf_mul (get_or fs i 0) (get_or (get_or (payloads_of packets) i []) c.from.result 0))) c.as_slice-2.ensures.value
    ∙ ap (λ (k : ℕ). gf_sum (length packets) (λ i. gf_mul (get_or factors i 0) (get_or (get_or (payloads_of packets) i []) k 0))) c.from.ensures
    ∙ payload-sum c.args.session.now packets factors c.args.column c.requires.fit.0 in
    let nothing : GivesNothing c.args.session.now packets c.args.column factors = record {
      each = λ s below inside. sym (ap (λ (r : List ℕ). get_or r s 0) sum) ∙ c.says_nothing.ensures.0 c.if-not-says_nothing.false s below inside;
    } in
    (nothing, sym byte ∙ c.if-byte-eq0.true)

pub returns : goal.returns
returns c =
    let said : Grid = c.args.said.now in
    let packets : List Packet = c.args.packets.now in
    let factors : List ℕ = c.args.factors.now in
    let sum : c.deref.result.now ≡ symbol_sums c.args.session.now packets factors =
    c.deref.ensures.value ∙ c.in_ok-sum.ensures ∙ ap (λ (fs : List ℕ). combination said.cols fs said.rows) c.as_slice.ensures.value
    ∙ ap (λ (m : Grid). combination m.cols factors m.rows) c.requires.said in
    let is : c.payload_byte.result ≡ gf_sum (length packets) (λ i. gf_mul (get_or c.as_slice-2.result.now i 0) (get_or (get_or (payloads_of packets) i []) c.from.result 0)) =
    c.payload_byte.ensures in
    let byte : c.byte.result ≡ get_or (payload_sums c.args.session.now packets factors) c.args.column 0 =
    c.byte.ensures ∙ is
    ∙ ap (λ (fs : List ℕ). gf_sum (length packets) (λ i. gf_mul (get_or fs i 0) (get_or (get_or (payloads_of packets) i []) c.from.result 0))) c.as_slice-2.ensures.value
    ∙ ap (λ (k : ℕ). gf_sum (length packets) (λ i. gf_mul (get_or factors i 0) (get_or (get_or (payloads_of packets) i []) k 0))) c.from.ensures
    ∙ payload-sum c.args.session.now packets factors c.args.column c.requires.fit.0 in
    record {
      within = c.requires.fit.0;
      nothing = record {
        each = λ s below inside. sym (ap (λ (r : List ℕ). get_or r s 0) sum) ∙ c.says_nothing.ensures.0 c.if-not-says_nothing.false s below inside;
      };
      byte = λ none. c.if-byte-eq0.false (byte ∙ none);
    }
