-- What the reading of words answers.
use Rattle.std.specs.Prelude.{◌≡◌, Option, Some, None, Result, Ok, Err}
use Rattle.bats_words.specs.declared.command.Command.{Command}
use Rattle.bats_words.specs.declared.words_end.WordsEnd.{WordsEnd}
use Rattle.bats_words.specs.declared.words_end.WordsEnd.TheVariants as ends

-- the words are this command, or no command; or memory ran out, whatever they are
abbrev pub IsAnswer : Option Command → Result Command WordsEnd → Type 0
IsAnswer command (Ok answer) = command ≡ Some answer
IsAnswer command (Err ends.Usage) = command ≡ None
IsAnswer command (Err ends.Memory) = Unit {0}
