use Rattle.std.proofs.Common.{◌≡◌, ◌≤◌, ◌+◌, length, take}
use Rattle.gf_core.specs.Combinations.{combination}
use Rattle.bats_model.specs.Relay.{payloads_of}
use Rattle.bats_batch.specs.steps.Entries.{offered_packets}
use Rattle.bats_batch.proofs.combining.add_payloads.Given as goal

abbrev pub invariant-loop-i : goal.invariant-loop-i
invariant-loop-i g l = record {
  sum : l.sum ≡ combination (length l.fn.sum) (take l.i l.factors) (take l.i (payloads_of (offered_packets l.entries)));
  steps : l.steps ≤ l.fn.steps + l.i;
  steps_rise : l.fn.steps ≤ l.steps;
}
