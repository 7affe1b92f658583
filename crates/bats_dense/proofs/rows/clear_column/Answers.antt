use Rattle.std.proofs.Common.{◌<◌, ◌∙◌, get_or, sym, subst}
use Rattle.gf_rows.proofs.SolutionLemmas.{length-performed}
use Rattle.bats_dense.proofs.ClearLemmas.{Clears-pivot_one}
use Rattle.bats_dense.proofs.ColumnLemmas.{earlier_of, later_of, rows_within, earlier_apart, later_apart, others_apart, earlier_within, later_within, ClearsColumn-done}
use Rattle.bats_dense.proofs.rows.clear_column.Goals as goal

pub clear_rows-requires-clause-rows : goal.clear_rows-requires-clause-rows
clear_rows-requires-clause-rows g c =
    rows_within c.args.matrix.now c.make_one.new.matrix (earlier_of c.args.eqs.now c.args.place) (length-performed c.in_ok-make_one.ensures.normalizes.performed)
    (earlier_within c.args.matrix.now c.args.eqs.now c.args.others.now c.args.place c.requires.targets c.requires.place)

pub clear_rows-requires-clause-apart : goal.clear_rows-requires-clause-apart
clear_rows-requires-clause-apart g c = earlier_apart c.args.matrix.now c.args.eqs.now c.args.others.now c.args.place c.requires.targets c.requires.place

pub clear_rows-requires-2-clause-pivot : goal.clear_rows-requires-2-clause-pivot
clear_rows-requires-2-clause-pivot g c =
    subst (λ n. get_or c.args.eqs.now c.args.place 0 < n)
    (sym (length-performed c.in_ok-clear_rows.ensures.clears.performed ∙ length-performed c.in_ok-make_one.ensures.normalizes.performed))
    (c.requires.targets.eqs_within c.args.place 0 c.requires.place)

pub clear_rows-requires-2-clause-rows : goal.clear_rows-requires-2-clause-rows
clear_rows-requires-2-clause-rows g c =
    rows_within c.args.matrix.now c.clear_rows.new.matrix (later_of c.args.eqs.now c.args.place)
    (length-performed c.in_ok-clear_rows.ensures.clears.performed ∙ length-performed c.in_ok-make_one.ensures.normalizes.performed)
    (later_within c.args.matrix.now c.args.eqs.now c.args.others.now c.args.place c.requires.targets c.requires.place)

pub clear_rows-requires-2-clause-apart : goal.clear_rows-requires-2-clause-apart
clear_rows-requires-2-clause-apart g c = later_apart c.args.matrix.now c.args.eqs.now c.args.others.now c.args.place c.requires.targets c.requires.place

pub clear_rows-requires-2-clause-one : goal.clear_rows-requires-2-clause-one
clear_rows-requires-2-clause-one g c =
    Clears-pivot_one (get_or c.args.eqs.now c.args.place 0) c.args.column (earlier_of c.args.eqs.now c.args.place) c.make_one.new.matrix c.clear_rows.new.matrix c.make_one.new.plan c.clear_rows.new.plan
    c.in_ok-clear_rows.ensures.clears (earlier_apart c.args.matrix.now c.args.eqs.now c.args.others.now c.args.place c.requires.targets c.requires.place)
    c.in_ok-make_one.ensures.normalizes.one

pub clear_rows-requires-3-clause-pivot : goal.clear_rows-requires-3-clause-pivot
clear_rows-requires-3-clause-pivot g c =
    subst (λ n. get_or c.args.eqs.now c.args.place 0 < n)
    (sym (length-performed c.in_ok-clear_rows-2.ensures.clears.performed ∙ (length-performed c.in_ok-clear_rows.ensures.clears.performed ∙ length-performed c.in_ok-make_one.ensures.normalizes.performed)))
    (c.requires.targets.eqs_within c.args.place 0 c.requires.place)

pub clear_rows-requires-3-clause-rows : goal.clear_rows-requires-3-clause-rows
clear_rows-requires-3-clause-rows g c =
    rows_within c.args.matrix.now c.clear_rows-2.new.matrix c.args.others.now
    (length-performed c.in_ok-clear_rows-2.ensures.clears.performed ∙ (length-performed c.in_ok-clear_rows.ensures.clears.performed ∙ length-performed c.in_ok-make_one.ensures.normalizes.performed))
    c.requires.targets.others_within

pub clear_rows-requires-3-clause-apart : goal.clear_rows-requires-3-clause-apart
clear_rows-requires-3-clause-apart g c = others_apart c.args.matrix.now c.args.eqs.now c.args.others.now c.args.place c.requires.targets c.requires.place

pub clear_rows-requires-3-clause-one : goal.clear_rows-requires-3-clause-one
clear_rows-requires-3-clause-one g c =
    Clears-pivot_one (get_or c.args.eqs.now c.args.place 0) c.args.column (later_of c.args.eqs.now c.args.place) c.clear_rows.new.matrix c.clear_rows-2.new.matrix c.clear_rows.new.plan c.clear_rows-2.new.plan
    c.in_ok-clear_rows-2.ensures.clears (later_apart c.args.matrix.now c.args.eqs.now c.args.others.now c.args.place c.requires.targets c.requires.place)
    (Clears-pivot_one (get_or c.args.eqs.now c.args.place 0) c.args.column (earlier_of c.args.eqs.now c.args.place) c.make_one.new.matrix c.clear_rows.new.matrix c.make_one.new.plan c.clear_rows.new.plan
    c.in_ok-clear_rows.ensures.clears (earlier_apart c.args.matrix.now c.args.eqs.now c.args.others.now c.args.place c.requires.targets c.requires.place)
    c.in_ok-make_one.ensures.normalizes.one)

pub returns-clause-clears : goal.returns-clause-clears
returns-clause-clears g c =
    ClearsColumn-done c.args.eqs.now c.args.others.now c.args.place c.args.column
    c.args.matrix.now c.make_one.new.matrix c.clear_rows.new.matrix c.clear_rows-2.new.matrix c.clear_rows-3.new.matrix
    c.args.plan.now c.make_one.new.plan c.clear_rows.new.plan c.clear_rows-2.new.plan c.clear_rows-3.new.plan
    c.requires.targets c.requires.place c.in_ok-make_one.ensures.normalizes c.in_ok-clear_rows.ensures.clears c.in_ok-clear_rows-2.ensures.clears c.in_ok-clear_rows-3.ensures.clears
