use Rattle.std.proofs.Common.{string_bytes, map, sym, ◌∙◌}
use Rattle.bats_words.specs.Words.{help_of, help_names}
use Rattle.bats_words.specs.declared.command.Command.TheVariants.{Help}
use Rattle.bats_words.proofs.CommandWords.{help_of-items, named_answer, read_by-none}
use Rattle.bats_words.proofs.words.help.Goals as goal

pub returns-then-not-are_read : goal.returns-then-not-are_read
returns-then-not-are_read c = read_by-none help_names help_of (map string_bytes c.args.words.now) (sym c.are_read.ensures ∙ c.if-not-are_read.true)

pub returns : goal.returns
returns c = named_answer help_names help_of Help help_of-items (map string_bytes c.args.words.now) (sym c.are_read.ensures ∙ c.if-not-are_read.false)
