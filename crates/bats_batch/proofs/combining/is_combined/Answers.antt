use Rattle.std.proofs.Common.{◌≡◌, ◌∙◌, ℕ, length, ap, sym, arith}
use Rattle.std.specs.Bool.{Decides}
use Rattle.std.proofs.lemmas.Bool.Decides.{Decides-eqb}
use Rattle.std.proofs.lemmas.List.{with_items_is}
use Rattle.std.proofs.lemmas.Slice.Eq.{slice_eq-Decides}
use Rattle.gf_core.specs.Combinations.{combination}
use Rattle.gf_core.proofs.CombinationLemmas.{length-combination}
use Rattle.bats_model.specs.Relay.{payloads_of}
use Rattle.bats_batch.specs.steps.Entries.{offered_packets}
use Rattle.bats_batch.proofs.combining.is_combined.Goals as goal

pub returns-clause-same : goal.returns-clause-same
returns-clause-same g c =
    let rows = payloads_of (offered_packets c.args.entries.now) in
    let long : length c.deref_mut.result.now ≡ length c.args.payload.now = omega (arith, c.in_ok-resize.ensures.len, c.deref_mut.ensures.len) in
    let same_length : length c.add_payloads.new.sum ≡ c.resize.new.self.len =
    ap length c.add_payloads.ensures.sum ∙ length-combination (length c.deref_mut.result.now) c.args.factors.now rows ∙ omega (arith, c.in_ok-resize.ensures.len, c.deref_mut.ensures.len) in
    let sum : c.as_slice.result.now ≡ combination (length c.args.payload.now) c.args.factors.now rows =
    c.as_slice.ensures.value ∙ with_items_is c.resize.new.self c.add_payloads.new.sum same_length
    ∙ c.add_payloads.ensures.sum ∙ ap (λ (n : ℕ). combination n c.args.factors.now rows) long in
    let decides : Decides c.eq.result (c.as_slice.result.now ≡ c.args.payload.now) =
    slice_eq-Decides Decides-eqb c.as_slice.result.now c.args.payload.now c.eq.result c.eq.ensures in
    ((λ equal. sym sum ∙ decides.0 equal), (λ equal. decides.1 (sum ∙ equal)))
