use Rattle.std.proofs.Common.{◌∙◌, ap}
use Rattle.gf_core.specs.Field.{gf_add}
use Rattle.bats_peel.proofs.PartLemmas.{Sets-add_entry}
use Rattle.bats_peel.proofs.terms.add_entry.Goals as goal

pub returns : goal.returns
returns c =
    Sets-add_entry c.args.matrix.now c.set.new.self c.args.row c.args.column c.args.factor c.add-entry.result c.requires.matrix c.set.ensures.matrix
    c.requires.row c.requires.column (c.add-entry.ensures ∙ ap (λ entry. gf_add entry c.args.factor) c.get.ensures.value) c.set.ensures.row
