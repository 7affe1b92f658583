use Rattle.std.proofs.Common.{ℕ, ◌≡◌, ◌<◌, ◌∙◌, List, [], length, get_or, sym, ap, subst, arith}
use Rattle.std.proofs.lemmas.List.{length-map, get_or-map}
use Rattle.std.proofs.lemmas.List.Elements.{All-from_get_or}
use Rattle.gf_core.specs.Rows.{add_scaled_row}
use Rattle.gf_core.proofs.CombinationLemmas.{pivot-lt}
use Rattle.bats_batch.specs.declared.entry.Entry.{Entry}
use Rattle.bats_batch.specs.steps.Entries.{pivots_of, rows_of}
use Rattle.bats_batch.specs.steps.Reduction.{Reduces}
use Rattle.bats_batch.proofs.Reducing.{Reduces-none, Reduces-more}
use Rattle.bats_batch.proofs.reduction.reduce_by.Goals as goal

pivot-at : (entries : List Entry) (i : ℕ) (entry : Entry) → i < length entries → entry ≡ get_or entries i entry → get_or (pivots_of entries) i 0 ≡ entry.pivot
pivot-at entries i entry h is = get_or-map (λ e. e.pivot) entries i entry 0 h ∙ ap (λ (e : Entry). e.pivot) (sym is)

row-at : (entries : List Entry) (i : ℕ) (entry : Entry) → i < length entries → entry ≡ get_or entries i entry → get_or (rows_of entries) i [] ≡ entry.row.items
row-at entries i entry h is = get_or-map (λ e. e.row.items) entries i entry [] h ∙ ap (λ (e : Entry). e.row.items) (sym is)

inside : (entries : List Entry) (i : ℕ) → i < length entries → i < length (rows_of entries)
inside entries i h = subst (λ n. i < n) (sym (length-map entries (λ e. e.row.items))) h

pub loop-entry-init : goal.loop-entry-init
loop-entry-init g c = record {
  reduced = Reduces-none (rows_of c.args.entries.now) c.args.row.now (All-from_get_or (λ byte. byte < 256) c.args.row.now 0 (λ k h. omega (arith, c.type_inv.row k)));
  coef_steps = omega arith;
  coef_steps_rise = omega arith;
}

pub clear_pivot-requires-clause-length : goal.clear_pivot-requires-clause-length
clear_pivot-requires-clause-length g c =
    let entries = c.args.entries.now in
    let i = c.loop-entry.entry-index in
    let h : i < length entries = omega arith in
    c.loop-entry.invariant.reduced.size
    ∙ sym (c.requires.rows.widths i [] (inside entries i h))
    ∙ ap (λ (row : List ℕ). length row) (row-at entries i c.entry-item.result h c.entry-item.is)
    ∙ ap (λ (row : List ℕ). length row) (sym c.deref.ensures.value)

pub clear_pivot-requires-clause-pivot : goal.clear_pivot-requires-clause-pivot
clear_pivot-requires-clause-pivot g c =
    let entries = c.args.entries.now in
    let i = c.loop-entry.entry-index in
    let h : i < length entries = omega arith in
    let p : get_or (pivots_of entries) i 0 < length (get_or (rows_of entries) i []) =
    pivot-lt (pivots_of entries) (rows_of entries) i c.requires.triangular (inside entries i h) in
    let w = c.requires.rows.widths i [] (inside entries i h) in
    let e = pivot-at entries i c.entry-item.result h c.entry-item.is in
    omega (arith, p, w, e, c.loop-entry.invariant.reduced.size)

pub loop-entry-preserved : goal.loop-entry-preserved
loop-entry-preserved g c =
    let entries = c.args.entries.now in
    let i = c.loop-entry.entry-index in
    let row = c.loop-entry.row in
    let h : i < length entries = omega arith in
    let pivot = pivot-at entries i c.entry-item.result h c.entry-item.is in
    let source = row-at entries i c.entry-item.result h c.entry-item.is in
    let step : c.clear_pivot.new.row ≡ add_scaled_row row (get_or row (get_or (pivots_of entries) i 0) 0) (get_or (rows_of entries) i []) =
    c.clear_pivot.ensures.row
    ∙ ap (λ (p : ℕ). add_scaled_row row (get_or row p 0) c.deref.result.now) (sym pivot)
    ∙ ap (add_scaled_row row (get_or row (get_or (pivots_of entries) i 0) 0)) (c.deref.ensures.value ∙ sym source) in
    record {
      reduced = subst (Reduces (length c.args.row.now) (rows_of entries) _ c.args.row.now) (sym step)
          (Reduces-more (length c.args.row.now) (rows_of entries) (pivots_of entries) c.args.row.now row i c.requires.rows c.requires.triangular
          (λ k. length c.args.row.now) (inside entries i h) c.loop-entry.invariant.reduced);
      coef_steps = omega arith;
      coef_steps_rise = omega arith;
    }
