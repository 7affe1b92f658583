use Rattle.std.proofs.Common.{◌∙◌}
use Rattle.bats_script.proofs.ScriptLemmas.{session_of-new}
use Rattle.bats_script.proofs.parameters.session_of.Goals as goal

pub returns : goal.returns
returns c =
    let new = c.new.ensures in
    c.ok.ensures.value ∙ session_of-new c.args.parameters.now c.args.length c.new.result c.requires
    new.ok new.within new.batch_size new.symbol_size new.table new.too_long
