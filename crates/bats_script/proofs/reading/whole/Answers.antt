use Rattle.std.proofs.Common.{sym, ap, ◌∙◌}
use Rattle.bats_script.specs.Script.{session_of}
use Rattle.bats_script.proofs.ScriptLemmas.{whole-some, whole-none}
use Rattle.bats_script.proofs.reading.whole.Goals as goal

pub returns-in-Some : goal.returns-in-Some
returns-in-Some c =
    whole-some c.args.parameters.now c.args.file c.args.relay_seeds c.args.links c.args.events c.in-Some.session
    (sym c.in-Some.is ∙ c.session_of.ensures ∙ ap (session_of c.args.parameters.now) c.len.ensures)

pub returns-in-None : goal.returns-in-None
returns-in-None c =
    whole-none c.args.parameters.now c.args.file c.args.relay_seeds c.args.links c.args.events
    (sym c.in-None.is ∙ c.session_of.ensures ∙ ap (session_of c.args.parameters.now) c.len.ensures)
