use Rattle.std.proofs.Common.{◌≡◌, ◌≤◌, get_or, length, sym, ◌∙◌, inr, arith}
use Rattle.std.proofs.lemmas.Grind.{common_steps}
use Rattle.bats_script.specs.ScriptValues.{seed_of}
use Rattle.bats_script.specs.declared.script_end.ScriptKey.TheVariants.{Relays}
use Rattle.bats_script.proofs.EachLemmas.{each-begin, each-more, each-fails, each-all}
use Rattle.bats_script.proofs.ScriptLemmas.{needs-some, needs-none}
use Rattle.bats_script.proofs.lists.each_seed.Goals as goal

pub items-init : goal.items-init
items-init c = record {
  same = c.deref-item-items.ensures.value;
  so_far = each-begin seed_of c.args.items.now.items c.deref-item-items.result.now c.new-seeds.result c.deref-item-items.ensures.value c.new-seeds.ensures;
}

pub items-preserved : goal.items-preserved
items-preserved c =
    let vs = c.deref-item-items.result.now in
    let i = c.items.item-index in
    let item = c.item-item.result in
    let at : get_or vs i item ≡ item = grind (arith, common_steps) in
    record {
      same = c.items.invariant.same;
      so_far = each-more seed_of vs i item c.items.seeds _ _ _ c.items.invariant.so_far c.items-test.true at
          (sym c.seed_of.ensures ∙ c.in-Some.is) c.in_ok-push-in-Some.ensures.ok;
    }

pub returns-in-None : goal.returns-in-None
returns-in-None c =
    let vs = c.deref-item-items.result.now in
    let i = c.items.item-index in
    let item = c.item-item.result in
    let at : get_or vs i item ≡ item = grind (arith, common_steps) in
    inr (needs-none Relays _ (each-fails seed_of vs i item c.items.seeds _ c.items.invariant.so_far c.items-test.true at (sym c.seed_of.ensures ∙ c.in-None.is)))

pub returns : goal.returns
returns c =
    let vs = c.deref-item-items.result.now in
    let past : length vs ≤ c.items.item-index = let h' = c.items-test.false in omega arith in
    inr (needs-some Relays _ _ (each-all seed_of vs c.items.item-index c.items.seeds _ c.items.invariant.so_far past))
