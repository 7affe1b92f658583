use Rattle.std.proofs.Common.{ℕ, ◌<◌, ◌≤◌, ◌+◌, ◌∙◌, eqb, List, All, length, take, sym, ap, subst, arith}
use Rattle.std.specs.List.{list_any}
use Rattle.std.proofs.lemmas.List.Elements.{All-from_get_or}
use Rattle.bats_peel.specs.declared.local.Local.{Local}
use Rattle.bats_peel.specs.steps.Search.{AreDistinct, local_count}
use Rattle.bats_peel.proofs.Counting.{hit, local_count-more, local_count-le}
use Rattle.bats_peel.proofs.counts.batch_counts.Goals as goal

pub locals-preserved : goal.locals-preserved
locals-preserved c =
    let locals : List Local = c.args.locals.now in
    let i : ℕ = c.locals.local-index in
    let local : Local = c.local-item.result in
    let old : List ℕ = c.locals.counts.items in
    let within : i < length locals = omega arith in
    record {
      size = c.count_batch.ensures.size ∙ c.locals.invariant.size;
      counts = λ distinct s low.
          let below : s < length old = omega (arith, low, c.count_batch.ensures.size) in
          let own : AreDistinct local = subst AreDistinct (sym c.local-item.is) (distinct i local within) in
          let few : All (λ count. count ≤ i) old =
          All-from_get_or (λ count. count ≤ i) old 0
          (λ u h. omega (arith, c.locals.invariant.counts distinct u h, local_count-le locals i u (omega arith))) in
          let there : Local → ℕ = λ (l : Local). hit (list_any (λ u. eqb u s) l.batch.contributors) in
          c.count_batch.ensures.count i (omega arith) few own s below
          ∙ ap (λ (n : ℕ). n + there local) (c.locals.invariant.counts distinct s below)
          ∙ ap (λ (l : Local). local_count (take i locals) s + there l) c.local-item.is
          ∙ sym (local_count-more locals i local s within);
    }
