use Rattle.std.proofs.Common.{ℕ, ◌∙◌, Bool, true, List, take, get_or, sym, ap, arith}
use Rattle.std.specs.Prelude.{slice_set}
use Rattle.std.proofs.lemmas.List.{take_more}
use Rattle.bats_peel.specs.steps.Search.{marked}
use Rattle.bats_peel.proofs.Marking.{marked-none, marked-push}
use Rattle.bats_peel.proofs.order.mark.Goals as goal

pub loop-k-init : goal.loop-k-init
loop-k-init c = sym (marked-none c.args.known.now.items)

pub loop-k-preserved : goal.loop-k-preserved
loop-k-preserved c =
    let known : List Bool = c.args.known.now.items in
    let contributors : List ℕ = c.args.local.now.batch.contributors in
    ap (λ (set : List Bool). slice_set set c.contributor.result true) c.loop-k.invariant
    ∙ ap (λ (s : ℕ). slice_set (marked known (take c.loop-k.k contributors)) s true) c.contributor.ensures
    ∙ sym (marked-push known (take c.loop-k.k contributors) (get_or contributors c.loop-k.k 0))
    ∙ ap (marked known) (sym (take_more contributors c.loop-k.k 0 (omega (arith, c.degree-k-end.ensures.value))))
