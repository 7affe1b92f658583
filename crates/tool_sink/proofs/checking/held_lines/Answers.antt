use Rattle.std.proofs.Common.{ℕ, ◌≡◌, ◌++◌, ◌∙◌, List, length, sym, ap, arith}
use Rattle.tool_sink.specs.steps.Lines.{line_at}
use Rattle.tool_sink.proofs.CheckLines.{lines_before, lines_before-more}
use Rattle.tool_sink.proofs.checking.held_lines.Goals as goal

pub batches-preserved : goal.batches-preserved
batches-preserved c =
    let session = c.args.session.now in
    let batches = c.args.held.now.batches in
    c.in_ok-add_line.ensures
    ∙ ap (λ (lines : List ℕ). lines ++ line_at session batches c.batches.place) c.batches.invariant
    ∙ sym (lines_before-more session batches c.batches.place)

pub returns : goal.returns
returns c =
    let all : c.batches.place ≡ length c.args.held.now.batches = omega (
      arith,
      c.batches-test.false,
      c.batches.auto.place-end,
      c.batches-place-end.ensures.value,
    ) in
    c.batches.invariant ∙ ap (lines_before c.args.session.now c.args.held.now.batches) all
