use Rattle.std.proofs.Common.{◌<◌, ◌∙◌, ℕ, List, [], length, get_or, ap, sym, arith}
use Rattle.gf_core.specs.Rows.{add_scaled_row}
use Rattle.gf_core.proofs.CombinationLemmas.{length-combination}
use Rattle.bats_model.specs.Relay.{payloads_of}
use Rattle.bats_batch.specs.steps.Entries.{offered_packets}
use Rattle.bats_batch.proofs.PayloadSums.{payload-at, length-payloads, combination-none, combination-more, combination-all}
use Rattle.bats_batch.proofs.combining.add_payloads.Goals as goal

pub loop-i-init : goal.loop-i-init
loop-i-init g c = record {
  sum = c.requires.zeros ∙ sym (combination-none (length c.args.sum.now) _);
  steps = omega arith;
  steps_rise = omega arith;
}

pub add_payload-requires : goal.add_payload-requires
add_payload-requires g c =
    let entries = c.args.entries.now in
    let inside : c.loop-i.i < length entries = omega arith in
    record {
      length =
          ap length c.loop-i.invariant.sum
          ∙ length-combination (length c.args.sum.now) _ _
          ∙ sym (c.requires.sizes.widths c.loop-i.i [] (omega (arith, length-payloads entries)))
          ∙ ap length (payload-at entries c.loop-i.i c.index-entries-i.result inside)
          ∙ ap length (sym c.as_slice.ensures.value);
    }

pub loop-i-preserved : goal.loop-i-preserved
loop-i-preserved g c =
    let entries = c.args.entries.now in
    let rows = payloads_of (offered_packets entries) in
    let inside : c.loop-i.i < length entries = omega arith in
    record {
      sum =
          c.add_payload.ensures.row
          ∙ ap (λ (row : List ℕ). add_scaled_row c.loop-i.sum (get_or c.args.factors.now c.loop-i.i 0) row)
          (c.as_slice.ensures.value ∙ sym (payload-at entries c.loop-i.i c.index-entries-i.result inside))
          ∙ ap (λ (sum : List ℕ). add_scaled_row sum (get_or c.args.factors.now c.loop-i.i 0) (get_or rows c.loop-i.i [])) c.loop-i.invariant.sum
          ∙ sym (combination-more (length c.args.sum.now) c.args.factors.now rows c.loop-i.i c.requires.sizes (omega (arith, length-payloads entries, c.requires.few)) (omega (arith, length-payloads entries)));
      steps = omega arith;
      steps_rise = omega arith;
    }

pub returns-clause-sum : goal.returns-clause-sum
returns-clause-sum g c =
    let entries = c.args.entries.now in
    c.loop-i.invariant.sum
    ∙ combination-all (length c.args.sum.now) c.args.factors.now (payloads_of (offered_packets entries)) c.loop-i.i
    (omega (arith, length-payloads entries, c.requires.few)) (omega (arith, length-payloads entries))
