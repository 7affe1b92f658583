-- What `help` writes.
use Rattle.std.specs.Prelude.{ℕ, List, ◌++◌, codes}

-- a line for each command: its name, its options and its flags, those in brackets may be left out
abbrev pub help_text : List ℕ
help_text =
    codes "bats source --m N --t N --seed HEX --batches N [--table N] [--from N] [--systematic]\n"
    ++ (codes "bats relay --seed HEX --rule fixed|extra --count N\n"
    ++ (codes "bats sink [--workers N] [--both]\n"
    ++ (codes "bats replay [--workers N] [--both | --pool]\n"
    ++ (codes "bats show\n"
    ++ (codes "bats check [--workers N]\n"
    ++ (codes "bats trial --number N --m N --t N --length N --batches N --relays N --loss N [--table N] [--workers N]\n"
    ++ codes "bats help\n"))))))
