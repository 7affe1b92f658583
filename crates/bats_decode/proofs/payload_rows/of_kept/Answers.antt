use Rattle.std.proofs.Common.{ℕ, ◌≡◌, ◌+◌, ◌∙◌, ◌<◌, ◌++◌, ap, sym, subst, refl, List, length, take, replicate, arith}
use Rattle.std.proofs.lemmas.List.{length-replicate}
use Rattle.bats_model.specs.Session.{SessionData}
use Rattle.gf_rows.specs.Matrix.{Grid}
use Rattle.bats_model.specs.declared.packet.Packet.{Packet}
use Rattle.bats_batch.specs.Basis.{BasisData}
use Rattle.bats_batch.specs.Held.{HeldBatch, batch_at}
use Rattle.bats_model.specs.Relay.{payloads_of}
use Rattle.bats_decode.proofs.PayloadLemmas.{kept_packets-none, row_count-more, row_count-within, written-batch}
use Rattle.bats_decode.proofs.payload_rows.of_kept.Goals as goal

pub batches-init : goal.batches-init
batches-init c = (
  refl,
  ap (λ (m : Grid). m.cols) c.in_ok-rows.ensures ∙ c.t.ensures.value ∙ ap (λ (s : SessionData). s.t) (sym c.requires.session),
  ap (λ (m : Grid). length m.rows) c.in_ok-rows.ensures ∙ length-replicate c.rows.result (replicate c.t.result 0) ∙ c.rows.ensures.value,
  ap payloads_of (sym kept_packets-none),
)

pub write_batch-requires-clause-room : goal.write_batch-requires-clause-room
write_batch-requires-clause-room c =
    let within : c.batches.i < length c.args.held.batches = subst (λ (n : ℕ). c.batches.i < n) c.batches-i-end.ensures.value c.batches-test.true in
    let own : length c.basis_at-basis.result.now.kept ≡ length (batch_at c.args.held.batches c.batches.i).kept =
    ap (λ (b : BasisData). length b.kept) c.basis_at-basis.ensures.value in
    omega (arith, own, c.batches.invariant.0, c.batches.invariant.2, row_count-within c.args.held.batches c.batches.i within)

pub batches-preserved : goal.batches-preserved
batches-preserved c =
    let batches : List HeldBatch = c.args.held.batches in
    let i : ℕ = c.batches.i in
    let kept : List Packet = (batch_at batches i).kept in
    let within : i < length batches = subst (λ (n : ℕ). i < n) c.batches-i-end.ensures.value c.batches-test.true in
    let own : c.basis_at-basis.result.now.kept ≡ kept = ap (λ (b : BasisData). b.kept) c.basis_at-basis.ensures.value in
    let rank : c.rank-first.result ≡ length kept = c.rank-first.ensures.value ∙ ap (λ (ps : List Packet). length ps) own in
    let end : c.batches.first + c.rank-first.result ≡ c.batches.first + length kept = ap (λ (n : ℕ). c.batches.first + n) rank in
    let written : take (c.batches.first + length kept) c.write_batch.new.rows.rows
    ≡ take c.batches.first c.batches.rows.rows ++ payloads_of kept =
    subst (λ (ps : List Packet). take (c.batches.first + length ps) c.write_batch.new.rows.rows ≡ take c.batches.first c.batches.rows.rows ++ payloads_of ps)
    own c.write_batch.ensures.written in (
      end ∙ ap (λ (n : ℕ). n + length kept) c.batches.invariant.0 ∙ sym (row_count-more batches i within),
      c.write_batch.ensures.cols ∙ c.batches.invariant.1,
      c.write_batch.ensures.count ∙ c.batches.invariant.2,
      ap (λ (n : ℕ). take n c.write_batch.new.rows.rows) end
          ∙ written-batch c.batches.first i batches c.batches.rows.rows c.write_batch.new.rows.rows within c.batches.invariant.3 written,
    )
