use Rattle.std.proofs.Common.{ℕ, List, ◌∙◌, arith, ap, length, false, replicate, get_or, take, drop, ◌++◌}
use Rattle.bats_peel.specs.declared.peeled.Place.TheVariants.{Row, Column}
use Rattle.bats_peel.specs.steps.Work.{GivesPlaces}
use Rattle.bats_model.specs.Session.{symbols_of}
use Rattle.bats_peel.proofs.PeeledLemmas.{IsWork-begun, few_below, set_of-given, begun_at}
use Rattle.bats_peel.proofs.work.begin.Goals as goal

pub place_columns-requires-clause-few : goal.place_columns-requires-clause-few
place_columns-requires-clause-few c =
    omega (
      arith,
      few_below (symbols_of c.args.session.now) c.args.columns c.requires.below c.requires.once,
      ap (λ (xs : List ℕ). length xs) c.as_slice.ensures,
      c.symbols.ensures.value,
      c.symbols.type_inv,
    )

pub overflow_cast-len : goal.overflow_cast-len
overflow_cast-len c =
    omega (
      arith,
      few_below (symbols_of c.args.session.now) c.args.columns c.requires.below c.requires.once,
      c.len.ensures,
      c.symbols.ensures.value,
      c.symbols.type_inv,
    )

pub returns-clause-work : goal.returns-clause-work
returns-clause-work c =
    let gives : GivesPlaces (length c.args.columns) (λ j. get_or c.args.columns j 0) (λ j. Column j) (replicate (symbols_of c.args.session.now) (Row 0))
    (replicate (symbols_of c.args.session.now) false)
    (take c.in_ok-places.places.len (c.place_columns.new.places ++ drop (length c.place_columns.new.places) c.in_ok-places.places.items))
    (take c.in_ok-known.known.len (c.place_columns.new.known ++ drop (length c.place_columns.new.known) c.in_ok-known.known.items)) =
    begun_at c.args.session.now c.args.columns c.as_slice.result.now c.in_ok-places.places.len c.in_ok-known.known.len c.symbols.result c.symbols-2.result
    c.in_ok-places.places.items c.deref_mut.result.now c.place_columns.new.places c.in_ok-known.known.items c.deref_mut-2.result.now
    c.place_columns.new.known c.as_slice.ensures c.in_ok-places.places.ok.0 c.in_ok-known.known.ok.0 c.deref_mut.ensures.value c.deref_mut-2.ensures.value
    (c.in_ok-places.ensures.items_if_clones_equal (λ y same. same)) c.symbols.ensures.value
    (c.in_ok-known.ensures.items_if_clones_equal (λ y same. same)) c.symbols-2.ensures.value c.place_columns.ensures in
    IsWork-begun c.args.session.now c.args.held.now.batches _ c.rows.result c.rows.ensures.value (omega (arith, c.rows.ensures.value, c.rows.ensures.limit))
    c.requires.below gives
    (c.in_ok-matrix.ensures ∙ ap (λ (n : ℕ). record { cols = n; rows = replicate c.rows.result (replicate n 0) }) c.len.ensures)
    c.new.ensures c.new-2.ensures
    (c.in_ok-taken.ensures.items_if_clones_equal (λ y same. same) ∙ ap (λ (n : ℕ). replicate n false) c.batches.ensures.value)

pub returns-clause-known : goal.returns-clause-known
returns-clause-known c =
    let gives : GivesPlaces (length c.args.columns) (λ j. get_or c.args.columns j 0) (λ j. Column j) (replicate (symbols_of c.args.session.now) (Row 0))
    (replicate (symbols_of c.args.session.now) false)
    (take c.in_ok-places.places.len (c.place_columns.new.places ++ drop (length c.place_columns.new.places) c.in_ok-places.places.items))
    (take c.in_ok-known.known.len (c.place_columns.new.known ++ drop (length c.place_columns.new.known) c.in_ok-known.known.items)) =
    begun_at c.args.session.now c.args.columns c.as_slice.result.now c.in_ok-places.places.len c.in_ok-known.known.len c.symbols.result c.symbols-2.result
    c.in_ok-places.places.items c.deref_mut.result.now c.place_columns.new.places c.in_ok-known.known.items c.deref_mut-2.result.now
    c.place_columns.new.known c.as_slice.ensures c.in_ok-places.places.ok.0 c.in_ok-known.known.ok.0 c.deref_mut.ensures.value c.deref_mut-2.ensures.value
    (c.in_ok-places.ensures.items_if_clones_equal (λ y same. same)) c.symbols.ensures.value
    (c.in_ok-known.ensures.items_if_clones_equal (λ y same. same)) c.symbols-2.ensures.value c.place_columns.ensures in
    set_of-given c.args.session.now c.args.columns (λ j. Column j) (replicate (symbols_of c.args.session.now) (Row 0)) _ _ gives
