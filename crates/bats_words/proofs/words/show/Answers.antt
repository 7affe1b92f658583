use Rattle.std.proofs.Common.{string_bytes, map, sym, ◌∙◌}
use Rattle.bats_words.specs.Words.{show_of, show_names}
use Rattle.bats_words.specs.declared.command.Command.TheVariants.{Show}
use Rattle.bats_words.proofs.CommandWords.{show_of-items, named_answer, read_by-none}
use Rattle.bats_words.proofs.words.show.Goals as goal

pub returns-then-not-are_read : goal.returns-then-not-are_read
returns-then-not-are_read c = read_by-none show_names show_of (map string_bytes c.args.words.now) (sym c.are_read.ensures ∙ c.if-not-are_read.true)

pub returns : goal.returns
returns c = named_answer show_names show_of Show show_of-items (map string_bytes c.args.words.now) (sym c.are_read.ensures ∙ c.if-not-are_read.false)
