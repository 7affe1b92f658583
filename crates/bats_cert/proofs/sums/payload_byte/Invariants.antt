use Rattle.std.proofs.Common.{◌≡◌, [], slice_index, slice_index_or}
use Rattle.gf_core.specs.Field.{gf_mul, gf_sum}
use Rattle.bats_model.specs.Relay.{payloads_of}
use Rattle.bats_cert.proofs.sums.payload_byte.Given as goal

abbrev pub invariant-packets : goal.invariant-packets
invariant-packets l =
    l.sum ≡ gf_sum l.i (λ i. gf_mul (slice_index l.factors i) (slice_index (slice_index_or (payloads_of l.packets) i []) l.column))
