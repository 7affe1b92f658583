use Rattle.std.proofs.Common.{ℕ, ◌≡◌, ◌+◌, ◌∙◌, ap, List, length, take, set, arith, length-set}
use Rattle.gf_rows.specs.Matrix.{Grid}
use Rattle.bats_decode.proofs.PayloadLemmas.{written-packet}
use Rattle.bats_decode.proofs.payload_rows.write_batch.Goals as goal

pub packets-preserved : goal.packets-preserved
packets-preserved c =
    let rows : List (List ℕ) = c.packets.rows.rows in
    let place : ℕ = c.args.first + c.packets.i in
    let now : c.put_row.new.self.rows ≡ set rows place c.kept.result.now.payload =
    ap (λ (m : Grid). m.rows) c.put_row.ensures ∙ ap (set rows place) c.as_slice.ensures.value in (
      ap (λ (m : Grid). m.cols) c.put_row.ensures ∙ c.packets.invariant.0,
      ap (λ (rs : List (List ℕ)). length rs) now ∙ length-set rows place c.kept.result.now.payload ∙ c.packets.invariant.1,
      ap (take (c.args.first + (c.packets.i + 1))) now
          ∙ written-packet c.args.first c.packets.i c.args.rows.now.rows rows c.args.basis.now.kept c.kept.result.now
          (omega (arith, c.packets-test.true, c.rank-i-end.ensures.value, c.requires.room, c.packets.invariant.1)) c.kept.ensures.value c.packets.invariant.2,
    )
