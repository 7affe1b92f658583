use Rattle.std.proofs.Common.{ℕ, ◌≡◌, ◌≤◌, ◌∙◌, ◌-◌, List, Option, Some, None, length, take, drop, ap, sym, subst, arith}
use Rattle.std.specs.Prelude.{All, MatchOption}
use Rattle.std.proofs.lemmas.Bool.{false≢true}
use Rattle.std.proofs.lemmas.List.{length-drop, take_rest}
use Rattle.gf_core.specs.Combinations.{combination}
use Rattle.gf_core.specs.Triangular.{AreRows}
use Rattle.bats_model.specs.Relay.{payloads_of}
use Rattle.bats_batch.specs.steps.Entries.{offered_packets}
use Rattle.bats_batch.specs.steps.Reduction.{IsLeading}
use Rattle.bats_batch.proofs.PayloadSums.{AreRows-payloads}
use Rattle.bats_batch.proofs.Offering.{IsLeft, AreEntries-count, left-new, left-follows, left-contradicts}
use Rattle.bats_batch.proofs.judged.judge_packet.Goals as goal

left : (p q : Option ℕ) (row : List ℕ) → p ≡ q → MatchOption p (All (λ byte. byte ≡ 0) row) (IsLeading row) → MatchOption q (All (λ byte. byte ≡ 0) row) (IsLeading row)
left p q row e is = subst (λ (r : Option ℕ). MatchOption r (All (λ byte. byte ≡ 0) row) (IsLeading row)) e is

-- the factors as they are lent
factors-are : (m start : ℕ) (lent row : List ℕ) → start ≡ m → lent ≡ row → take (length lent - start) (drop start lent) ≡ drop m row
factors-are m start lent row at same = take_rest lent start ∙ ap (λ (n : ℕ). drop n lent) at ∙ ap (drop m) same

abbrev IsSum : List (List ℕ) → List ℕ → List ℕ → Type 0
IsSum rows factors payload = combination (length payload) factors rows ≡ payload

sum-as : (rows : List (List ℕ)) (lent factors seen payload : List ℕ) → lent ≡ factors → seen ≡ payload → IsSum rows lent seen → IsSum rows factors payload
sum-as rows lent factors seen payload e f is = subst (λ (p : List ℕ). IsSum rows factors p) f (subst (λ (fs : List ℕ). IsSum rows fs seen) e is)

pub returns-in-Some-clause-sized : goal.returns-in-Some-clause-sized
returns-in-Some-clause-sized g c = record {
  coefs = c.requires.coefs;
  payload = λ i. length c.args.packet.now.payload;
  coef_bytes = c.in_ok-place.ensures.coef_bytes;
  payload_bytes = c.as_slice-payload.ensures.bytes;
}

pub returns-in-Some-clause-judged : goal.returns-in-Some-clause-judged
returns-in-Some-clause-judged g c =
    let is : IsLeft c.args.m (length c.args.packet.now.payload) c.args.entries.now c.args.packet.now c.reduce_packet.new.row.items = record {
      basis = c.requires.basis;
      size = record {
        coefs = c.requires.coefs;
        payload = λ i. length c.args.packet.now.payload;
        coef_bytes = c.in_ok-place.ensures.coef_bytes;
        payload_bytes = c.as_slice-payload.ensures.bytes;
      };
      reduces = c.in_ok-place.ensures.reduced;
    } in
    left-new c.args.m (length c.args.packet.now.payload) c.args.entries.now c.args.packet.now c.reduce_packet.new.row.items is c.in-Some.place
    (left c.in_ok-place.place (Some c.in-Some.place) (take c.args.m c.reduce_packet.new.row.items) c.in-Some.is c.in_ok-place.ensures.place)

pub is_combined-requires-clause-few : goal.is_combined-requires-clause-few
is_combined-requires-clause-few g c =
    let few : length c.args.entries.now ≤ c.args.m = AreEntries-count c.args.m (length c.args.packet.now.payload) c.args.entries.now c.requires.basis in
    let factors = factors-are c.args.m c.from.result c.deref.result.now c.reduce_packet.new.row.items c.from.ensures c.deref.ensures.value in
    omega (
      arith,
      few,
      ap (λ (fs : List ℕ). length fs) factors,
      length-drop c.args.m c.reduce_packet.new.row.items,
      c.in_ok-place.ensures.reduced.size,
    )

pub is_combined-requires-clause-sizes : goal.is_combined-requires-clause-sizes
is_combined-requires-clause-sizes g c =
    subst (λ (payload : List ℕ). AreRows (length payload) (payloads_of (offered_packets c.args.entries.now))) (sym c.as_slice-payload.ensures.value)
    (AreRows-payloads c.args.m (length c.args.packet.now.payload) (offered_packets c.args.entries.now) c.requires.basis.sizes)

pub returns-then-branch-clause-judged : goal.returns-then-branch-clause-judged
returns-then-branch-clause-judged g c =
    let is : IsLeft c.args.m (length c.args.packet.now.payload) c.args.entries.now c.args.packet.now c.reduce_packet.new.row.items = record {
      basis = c.requires.basis;
      size = record {
        coefs = c.requires.coefs;
        payload = λ i. length c.args.packet.now.payload;
        coef_bytes = c.in_ok-place.ensures.coef_bytes;
        payload_bytes = c.as_slice-payload.ensures.bytes;
      };
      reduces = c.in_ok-place.ensures.reduced;
    } in
    left-follows c.args.m (length c.args.packet.now.payload) c.args.entries.now c.args.packet.now c.reduce_packet.new.row.items is
    (left c.in_ok-place.place None (take c.args.m c.reduce_packet.new.row.items) c.in_default.is c.in_ok-place.ensures.place)
    (sum-as (payloads_of (offered_packets c.args.entries.now)) _ (drop c.args.m c.reduce_packet.new.row.items) c.as_slice-payload.result.now c.args.packet.now.payload
    (factors-are c.args.m c.from.result c.deref.result.now c.reduce_packet.new.row.items c.from.ensures c.deref.ensures.value) c.as_slice-payload.ensures.value
    (c.in_ok-is_combined.ensures.same.0 c.if-branch.true))

pub returns-clause-judged : goal.returns-clause-judged
returns-clause-judged g c =
    let is : IsLeft c.args.m (length c.args.packet.now.payload) c.args.entries.now c.args.packet.now c.reduce_packet.new.row.items = record {
      basis = c.requires.basis;
      size = record {
        coefs = c.requires.coefs;
        payload = λ i. length c.args.packet.now.payload;
        coef_bytes = c.in_ok-place.ensures.coef_bytes;
        payload_bytes = c.as_slice-payload.ensures.bytes;
      };
      reduces = c.in_ok-place.ensures.reduced;
    } in
    let factors = factors-are c.args.m c.from.result c.deref.result.now c.reduce_packet.new.row.items c.from.ensures c.deref.ensures.value in
    left-contradicts c.args.m (length c.args.packet.now.payload) c.args.entries.now c.args.packet.now c.reduce_packet.new.row.items is
    (left c.in_ok-place.place None (take c.args.m c.reduce_packet.new.row.items) c.in_default.is c.in_ok-place.ensures.place)
    (λ equal. false≢true (sym c.if-branch.false ∙ c.in_ok-is_combined.ensures.same.1
    (sum-as (payloads_of (offered_packets c.args.entries.now)) (drop c.args.m c.reduce_packet.new.row.items) _ c.args.packet.now.payload c.as_slice-payload.result.now
    (sym factors) (sym c.as_slice-payload.ensures.value) equal)))
