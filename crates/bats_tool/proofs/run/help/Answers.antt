use Rattle.std.proofs.Common.{◌≡◌, refl, sym, ◌∙◌}
use Rattle.tool_run.proofs.Unread.{Unread-cut, Unread-whole}
use Rattle.tool_run.proofs.Writing.{Writes-same}
use Rattle.bats_tool.specs.Promises.{help_ending}
use Rattle.bats_tool.proofs.run.help.Goals as goal

pub returns-in_err-write_bytes : goal.returns-in_err-write_bytes
returns-in_err-write_bytes g c = λ input a b.
    Unread-cut (λ ending. ending ≡ help_ending) help_ending refl input _ _ a b c.in_err-write_bytes.field-0.0 _ c.from_residual.ensures.1
    (Writes-same (sym (c.as_bytes.ensures.value ∙ c.help_text.ensures)) c.in_err-write_bytes.ensures)

pub returns : goal.returns
returns g c = λ input a b.
    Unread-whole (λ ending. ending ≡ help_ending) help_ending refl input _ _ a b _ refl tt c.new.ensures.bytes refl tt
    (Writes-same (sym (c.as_bytes.ensures.value ∙ c.help_text.ensures)) c.in_ok-write_bytes.ensures)
