use Rattle.std.proofs.Common.{◌<◌, ◌≤◌, length, subst, inr, arith}
use Rattle.bats_script.specs.Script.{needs, IsUnlessMemory}
use Rattle.bats_script.specs.declared.script_end.ScriptKey.TheVariants.{Links}
use Rattle.bats_script.proofs.ValueLemmas.{links_of-few, links_of-many}
use Rattle.bats_script.proofs.ScriptLemmas.{needs-none}
use Rattle.bats_script.proofs.lists.links_of.Goals as goal

pub returns-then-len-le-MAX_LINKS : goal.returns-then-len-le-MAX_LINKS
returns-then-len-le-MAX_LINKS c =
    let within : length c.in-Array.items.items ≤ 256 = let h' = c.if-len-le-MAX_LINKS.true in let n = c.len.ensures in omega arith in
    subst (λ o. IsUnlessMemory (needs Links o) c.each_link.result) (links_of-few c.args.relays c.args.value.now c.in-Array.items c.in-Array.is within)
    c.each_link.ensures

pub returns-else-len-le-MAX_LINKS : goal.returns-else-len-le-MAX_LINKS
returns-else-len-le-MAX_LINKS c =
    let above : 256 < length c.in-Array.items.items = let h' = c.if-len-le-MAX_LINKS.false in let n = c.len.ensures in omega arith in
    inr (needs-none Links _ (links_of-many c.args.relays c.args.value.now c.in-Array.items c.in-Array.is above))
