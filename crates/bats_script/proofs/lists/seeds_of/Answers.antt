use Rattle.std.proofs.Common.{◌<◌, ◌≤◌, length, subst, inr, arith}
use Rattle.bats_script.specs.Script.{needs, IsUnlessMemory}
use Rattle.bats_script.specs.declared.script_end.ScriptKey.TheVariants.{Relays}
use Rattle.bats_script.proofs.ValueLemmas.{seeds_of-few, seeds_of-many}
use Rattle.bats_script.proofs.ScriptLemmas.{needs-none}
use Rattle.bats_script.proofs.lists.seeds_of.Goals as goal

pub returns-then-len-le-MAX_RELAYS : goal.returns-then-len-le-MAX_RELAYS
returns-then-len-le-MAX_RELAYS c =
    let within : length c.in-Array.items.items ≤ 16 = let h' = c.if-len-le-MAX_RELAYS.true in let n = c.len.ensures in omega arith in
    subst (λ o. IsUnlessMemory (needs Relays o) c.each_seed.result) (seeds_of-few c.args.value.now c.in-Array.items c.in-Array.is within)
    c.each_seed.ensures

pub returns-else-len-le-MAX_RELAYS : goal.returns-else-len-le-MAX_RELAYS
returns-else-len-le-MAX_RELAYS c =
    let above : 16 < length c.in-Array.items.items = let h' = c.if-len-le-MAX_RELAYS.false in let n = c.len.ensures in omega arith in
    inr (needs-none Relays _ (seeds_of-many c.args.value.now c.in-Array.items c.in-Array.is above))
