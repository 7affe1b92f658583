use Rattle.std.proofs.Common.{ℕ, ◌≡◌, ◌*◌, ◌%◌, ◌∙◌, List, length, ap, sym, subst, arith}
use Rattle.std.specs.Prelude.{All}
use Rattle.std.proofs.Math.Nat.{mul-mod_left}
use Rattle.std.proofs.lemmas.List.{with_items_is}
use Rattle.gf_rows.specs.Operation.{FitsRows}
use Rattle.bats_stripes.specs.Columns.{IsReplayed}
use Rattle.bats_stripes.specs.steps.Stripes.{AreRun, IsStriped}
use Rattle.bats_stripes.proofs.StripedRows.{striped_grid, count_of_striped}
use Rattle.bats_stripes.proofs.Runs.{replayed_run, replayed_none}
use Rattle.bats_stripes.proofs.payload.Payload.replay.Goals as goal

pub returns-then-self-eq0-clause-replayed : goal.returns-then-self-eq0-clause-replayed
returns-then-self-eq0-clause-replayed g c =
    let l = c.self.inside.layout in
    let items = c.self.inside.bytes.items in
    let none : l.rows ≡ 0 = omega (arith, c.if-self-eq0.true) in
    replayed_none c.args.plan.now l.cols l.width l.stride items c.args.self.now
    (subst (λ (n : ℕ). striped_grid n l.cols l.width l.stride items ≡ c.args.self.now) none c.self.view_is)

pub run_stripes-requires-clause-whole : goal.run_stripes-requires-clause-whole
run_stripes-requires-clause-whole g c κs lives =
    let l = c.self.inside.layout in
    let is = c.self.invariant.0 in
    let size : length c.as_mut_slice.result.now ≡ l.stripes * (l.rows * l.stride) = ap length c.as_mut_slice.ensures.value ∙ (sym c.self.inside.bytes.ok.0 ∙ is.bytes) in
    ap (λ (n : ℕ). n % (l.rows * l.stride)) size ∙ mul-mod_left l.stripes (l.rows * l.stride)

pub run_stripes-requires-clause-fits : goal.run_stripes-requires-clause-fits
run_stripes-requires-clause-fits g c κs lives =
    let l = c.self.inside.layout in
    subst (λ (n : ℕ). All (FitsRows n) c.args.plan.now) (sym (count_of_striped l.rows l.cols l.width l.stride c.self.inside.bytes.items c.args.self.now c.self.view_is)) c.requires

pub returns-clause-replayed : goal.returns-clause-replayed
returns-clause-replayed g c =
    let l = c.self.inside.layout in
    let items = c.self.inside.bytes.items in
    let plan = c.args.plan.now in
    let is : IsStriped l.rows l.cols l.width l.stride l.stripes (length items) = subst (λ (n : ℕ). IsStriped l.rows l.cols l.width l.stride l.stripes n) c.self.inside.bytes.ok.0 c.self.invariant.0 in
    let run : AreRun plan l.rows l.stride items c.run_stripes.new.buffer =
    subst (λ (xs : List ℕ). AreRun plan l.rows l.stride xs c.run_stripes.new.buffer) c.as_mut_slice.ensures.value c.run_stripes.ensures in
    let written = with_items_is c.self.inside.bytes c.run_stripes.new.buffer (run.size ∙ sym c.self.inside.bytes.ok.0) in
    subst (λ (xs : List ℕ). IsReplayed plan c.args.self.now (striped_grid l.rows l.cols l.width l.stride xs)) (sym written)
    (replayed_run plan l.rows l.cols l.width l.stride l.stripes items c.run_stripes.new.buffer c.args.self.now c.self.view_is is (omega (arith, c.if-self-eq0.false))
    (subst (λ (n : ℕ). All (FitsRows n) plan) (sym (count_of_striped l.rows l.cols l.width l.stride items c.args.self.now c.self.view_is)) c.requires) run)
