-- Worked examples of what a text is read as, computed.
use Rattle.std.proofs.Common.{◌≡◌, [], ◌∷◌, codes, true, Ok, Err, refl}
use Rattle.std.specs.Prelude.{replicate}
use Rattle.toml.proofs.OnLiterals.{toml_on_literals}
use Rattle.hex.proofs.OnLiterals.{hex_on_literals}
use Rattle.bats_script.specs.ScriptValues.{among, within, number_between, hex_bytes, seed_of, seeds_of, two_in, two_numbers, links_of, event_in, event_of, events_of}
use Rattle.bats_script.specs.Script.{is_known, ◌>>=◌, needs, events_at, known, parameters_of, session_of, whole, script_of, script_of_text}
use Rattle.bats_world.specs.declared.event.Event.TheVariants.{Send, Give}
use Rattle.bats_script.specs.declared.script_end.ScriptKey.TheVariants as keys
use Rattle.bats_script.specs.declared.script_end.ScriptEnd.TheVariants.{Key}

no_links : script_of_text (codes "m = 1\nt = 1\ntable = 0\nsystematic = true\nseed = \"00000000000000000000000000000000\"\nfile = \"\"\nrelays = []\n") ≡ Err (Key keys.Links)
unfolding toml_on_literals hex_on_literals among within number_between hex_bytes seed_of seeds_of two_in two_numbers links_of event_in event_of events_of is_known ◌>>=◌ needs events_at known parameters_of session_of whole script_of script_of_text
no_links = refl

sent_and_given : script_of_text (codes "m = 2\nt = 2\ntable = 0\nsystematic = true\nseed = \"00000000000000000000000000000000\"\nfile = \"01020304\"\nrelays = []\nlinks = [[0, 1]]\nevent = [ { send = [0, 1] }, { give = [0, 1] } ]\n")
    ≡ Ok (record {
      session = record { m = 2; t = 2; file_length = 4; table = 0; systematic = true; seed = replicate 16 0 };
      file = 1 ∷ 2 ∷ 3 ∷ 4 ∷ [];
      relay_seeds = [];
      links = (0, 1) ∷ [];
      events = Send 0 1 ∷ Give 0 1 ∷ [];
    })
unfolding toml_on_literals hex_on_literals among within number_between hex_bytes seed_of seeds_of two_in two_numbers links_of event_in event_of events_of is_known ◌>>=◌ needs events_at known parameters_of session_of whole script_of script_of_text
sent_and_given = refl
