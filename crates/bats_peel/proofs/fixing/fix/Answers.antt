use Rattle.std.proofs.Common.{ℕ, ◌≡◌, ◌<◌, ◌≤◌, ◌∙◌, inl, inr, List, All, length, sym, ap, subst, arith}
use Rattle.std.specs.List.{range_with_len}
use Rattle.bats_model.specs.Batch.{degree_of}
use Rattle.bats_peel.specs.steps.Fixing.{HasColumns}
use Rattle.bats_peel.proofs.FixingLemmas.{places_within, places_few, none_outside, too_few_rows, AreTargets-all, steps-of_degree, HasColumns-read, FixesIn-reduced, IsFixing-reduced, not_FixesIn-reduced}
use Rattle.bats_peel.proofs.fixing.fix.Goals as goal
use Rattle.bats_peel.proofs.fixing.fix.Goals.{then-count-eq0-via-then-count-eq0, then-count-eq0-via-else-count-eq0+then-count-rows}

pub overflow_cast-count : goal.overflow_cast-count
overflow_cast-count g c =
    let few : length c.in_ok-places.places ≤ degree_of c.args.local.now.batch =
    places_few c.args.local.now c.args.known.now c.in_ok-places.places c.in_ok-places.ensures c.requires.cols c.requires.matrix in
    omega (arith, few, c.requires.batch.degree)

pub returns-then-count-eq0-clause-found : goal.returns-then-count-eq0-clause-found
returns-then-count-eq0-clause-found g c = elim c.then-count-eq0.branch [
  | then-count-eq0-via-then-count-eq0 w ↦
      inl (none_outside c.args.local.now c.args.known.now c.in_ok-places.places c.in_ok-places.ensures c.requires.cols c.requires.matrix (omega arith))
  | then-count-eq0-via-else-count-eq0+then-count-rows w ↦
      inr (too_few_rows c.args.local.now c.args.known.now c.in_ok-places.places c.in_ok-places.ensures c.requires.cols c.requires.matrix (omega arith))
]

pub columns_at-requires-clause-within : goal.columns_at-requires-clause-within
columns_at-requires-clause-within g c =
    subst (All (λ k. k < c.args.local.now.matrix.cols)) (sym c.as_slice.ensures)
    (places_within c.args.local.now c.args.known.now c.in_ok-places.places c.in_ok-places.ensures c.requires.cols c.requires.matrix)

pub columns_at-requires-clause-few : goal.columns_at-requires-clause-few
columns_at-requires-clause-few g c =
    let few : length c.in_ok-places.places ≤ degree_of c.args.local.now.batch =
    places_few c.args.local.now c.args.known.now c.in_ok-places.places c.in_ok-places.ensures c.requires.cols c.requires.matrix in
    omega (arith, few, c.requires.batch.degree, ap (λ (xs : List ℕ). length xs) c.as_slice.ensures)

pub reduce-requires-clause-targets : goal.reduce-requires-clause-targets
reduce-requires-clause-targets g c =
    AreTargets-all c.in_ok-columns.columns (length c.args.local.now.matrix.rows) c.in_ok-rows.rows c.new.result
    (c.in_ok-rows.ensures ∙ ap (range_with_len 0) c.rows-2.ensures.count) c.new.ensures c.in_ok-columns.ensures.rows

pub returns-in_err-dense-clause-coef_steps : goal.returns-in_err-dense-clause-coef_steps
returns-in_err-dense-clause-coef_steps g c =
    steps-of_degree c.args.local.now c.reduce.new.coef_steps c.args.coef_steps.now c.in_ok-columns.columns.cols c.in_ok-rows.rows c.new.result
    c.in_ok-places.places (c.in_ok-rows.ensures ∙ ap (range_with_len 0) c.rows-2.ensures.count) c.new.ensures
    (c.in_ok-columns.ensures.cols ∙ ap (λ (xs : List ℕ). length xs) c.as_slice.ensures)
    (places_few c.args.local.now c.args.known.now c.in_ok-places.places c.in_ok-places.ensures c.requires.cols c.requires.matrix)
    c.reduce.ensures.coef_steps.within

pub returns-then-len-gt0-clause-found : goal.returns-then-len-gt0-clause-found
returns-then-len-gt0-clause-found g c =
    inr (not_FixesIn-reduced c.args.local.now c.args.known.now c.in_ok-places.places c.in_ok-places.ensures c.requires.cols c.requires.matrix
    c.in_ok-columns.columns c.in_ok-rows.rows c.new.result c.new-2.result c.in_ok-dense.dense
    (HasColumns-read c.args.local.now.matrix c.as_slice.result.now c.in_ok-places.places c.in_ok-columns.columns c.as_slice.ensures c.in_ok-columns.ensures)
    (c.in_ok-rows.ensures ∙ ap (range_with_len 0) c.rows-2.ensures.count) c.new-2.ensures
    c.in_ok-dense.ensures.reduced c.in_ok-dense.ensures.performed c.in_ok-dense.ensures.solutions (omega arith))

pub returns-then-len-gt0-clause-coef_steps : goal.returns-then-len-gt0-clause-coef_steps
returns-then-len-gt0-clause-coef_steps g c =
    steps-of_degree c.args.local.now c.reduce.new.coef_steps c.args.coef_steps.now c.in_ok-columns.columns.cols c.in_ok-rows.rows c.new.result
    c.in_ok-places.places (c.in_ok-rows.ensures ∙ ap (range_with_len 0) c.rows-2.ensures.count) c.new.ensures
    (c.in_ok-columns.ensures.cols ∙ ap (λ (xs : List ℕ). length xs) c.as_slice.ensures)
    (places_few c.args.local.now c.args.known.now c.in_ok-places.places c.in_ok-places.ensures c.requires.cols c.requires.matrix)
    c.reduce.ensures.coef_steps.within

pub returns-clause-found : goal.returns-clause-found
returns-clause-found g c =
    let columns : HasColumns c.args.local.now.matrix c.in_ok-places.places (length c.args.local.now.matrix.rows) c.in_ok-columns.columns =
    HasColumns-read c.args.local.now.matrix c.as_slice.result.now c.in_ok-places.places c.in_ok-columns.columns c.as_slice.ensures c.in_ok-columns.ensures in
    let rows : c.in_ok-rows.rows ≡ range_with_len 0 (length c.args.local.now.matrix.rows) =
    c.in_ok-rows.ensures ∙ ap (range_with_len 0) c.rows-2.ensures.count in
    let no_free : length c.in_ok-dense.dense.free ≡ 0 = omega arith in (
      omega arith,
      (
        FixesIn-reduced c.args.local.now c.args.known.now c.in_ok-places.places c.in_ok-places.ensures c.requires.cols c.requires.matrix
            c.in_ok-columns.columns c.in_ok-rows.rows c.new.result c.new-2.result c.in_ok-dense.dense columns rows c.new-2.ensures
            c.in_ok-dense.ensures.reduced c.in_ok-dense.ensures.performed c.in_ok-dense.ensures.solutions no_free,
        IsFixing-reduced c.args.local.now c.args.known.now c.in_ok-places.places c.in_ok-places.ensures c.requires.cols c.requires.matrix
            c.in_ok-columns.columns c.in_ok-rows.rows c.new.result c.new-2.result c.in_ok-dense.dense columns rows c.new-2.ensures
            c.in_ok-dense.ensures.reduced c.in_ok-dense.ensures.performed c.in_ok-dense.ensures.solutions no_free
            c.args.coef_steps.now c.reduce.new.coef_steps c.new.ensures c.in_ok-dense.ensures.fits c.in_ok-dense.ensures.counted c.reduce.ensures.coef_steps.within,
      ),
    )

pub returns-clause-coef_steps : goal.returns-clause-coef_steps
returns-clause-coef_steps g c =
    steps-of_degree c.args.local.now c.reduce.new.coef_steps c.args.coef_steps.now c.in_ok-columns.columns.cols c.in_ok-rows.rows c.new.result
    c.in_ok-places.places (c.in_ok-rows.ensures ∙ ap (range_with_len 0) c.rows-2.ensures.count) c.new.ensures
    (c.in_ok-columns.ensures.cols ∙ ap (λ (xs : List ℕ). length xs) c.as_slice.ensures)
    (places_few c.args.local.now c.args.known.now c.in_ok-places.places c.in_ok-places.ensures c.requires.cols c.requires.matrix)
    c.reduce.ensures.coef_steps.within
