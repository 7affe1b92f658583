-- The commands that `clap` is given, by what it reads of them: one for each command with options or flags.
use Rattle.std.specs.Prelude.{◌≡◌, List, [], ◌∷◌, Some, true, false, codes}
use Rattle.clap.specs.Simple.{App, new_app, new_rule, on_top, with_rule}
use Rattle.clap.specs.Walk.{Rule, Text, rule_of}
use Rattle.clap.specs.declared.builder.action.ArgAction.TheVariants.{SetTrue}
use Rattle.clap.specs.declared.builder.arg.Arg.{Arg}

-- an option `--name` that is read back by its word, with these defaults
abbrev pub option_rule : Text → Text → List Text → Rule
option_rule word name defaults = record (new_rule word) { long = Some name; defaults = defaults }

-- a flag `--name` that is read back by its word
abbrev pub flag_rule : Text → Text → Rule
flag_rule word name = record (new_rule word) { long = Some name; action = Some SetTrue }

-- the argument has this rule, and is the command's own
abbrev pub HasRule : Rule → Arg → Type 0
HasRule rule arg = (rule_of arg ≡ rule) × (arg.global ≡ false)

-- a command with no arguments: the words begin with none for the program, and none asks for help
abbrev pub bare_app : Text → App
bare_app name = on_top (λ s. record s { no_binary_name = true; disable_help_flag = true }) (new_app name)

abbrev pub source_app : App
source_app =
    with_rule (with_rule (with_rule (with_rule (with_rule (with_rule (with_rule (bare_app (codes "source"))
    (option_rule (codes "--m") (codes "m") []))
    (option_rule (codes "--t") (codes "t") []))
    (option_rule (codes "--seed") (codes "seed") []))
    (option_rule (codes "--batches") (codes "batches") []))
    (option_rule (codes "--table") (codes "table") (codes "0" ∷ [])))
    (option_rule (codes "--from") (codes "from") (codes "0" ∷ [])))
    (flag_rule (codes "--systematic") (codes "systematic"))

abbrev pub relay_app : App
relay_app =
    with_rule (with_rule (with_rule (bare_app (codes "relay"))
    (option_rule (codes "--seed") (codes "seed") []))
    (option_rule (codes "--rule") (codes "rule") []))
    (option_rule (codes "--count") (codes "count") [])

abbrev pub sink_app : App
sink_app =
    with_rule (with_rule (bare_app (codes "sink"))
    (option_rule (codes "--workers") (codes "workers") (codes "1" ∷ [])))
    (flag_rule (codes "--both") (codes "both"))

abbrev pub replay_app : App
replay_app =
    with_rule (with_rule (with_rule (bare_app (codes "replay"))
    (option_rule (codes "--workers") (codes "workers") (codes "1" ∷ [])))
    (flag_rule (codes "--both") (codes "both")))
    (flag_rule (codes "--pool") (codes "pool"))

abbrev pub check_app : App
check_app =
    with_rule (bare_app (codes "check"))
    (option_rule (codes "--workers") (codes "workers") (codes "1" ∷ []))

abbrev pub trial_app : App
trial_app =
    with_rule (with_rule (with_rule (with_rule (with_rule (with_rule (with_rule (with_rule (with_rule (bare_app (codes "trial"))
    (option_rule (codes "--number") (codes "number") []))
    (option_rule (codes "--m") (codes "m") []))
    (option_rule (codes "--t") (codes "t") []))
    (option_rule (codes "--length") (codes "length") []))
    (option_rule (codes "--batches") (codes "batches") []))
    (option_rule (codes "--relays") (codes "relays") []))
    (option_rule (codes "--loss") (codes "loss") []))
    (option_rule (codes "--table") (codes "table") (codes "0" ∷ [])))
    (option_rule (codes "--workers") (codes "workers") (codes "1" ∷ []))
