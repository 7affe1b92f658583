use Rattle.std.proofs.Common.{◌≡◌, true, false, ◌∷◌, string_bytes, arith}
use Rattle.std.proofs.lemmas.Grind.{common_steps}
use Rattle.toml.proofs.Views.{Entry}
use Rattle.bats_script.specs.Script.{is_known}
use Rattle.bats_script.proofs.ScriptLemmas.{known-more, known-not}
use Rattle.bats_script.proofs.reading.are_known.Goals as goal

pub members-preserved : goal.members-preserved
members-preserved c =
    let (can, finite, same) = c.members.invariant in
    let e : Entry = (c.in-Some.key.now, c.in-Some._value.now) in
    let iter : c.members.key-iterator ≡ e ∷ c.next.new.self = grind (arith, common_steps) in
    let good : is_known (string_bytes e.0) ≡ true = grind (arith, common_steps) in
    (tt, tt, known-more e _ _ _ iter same good)

pub returns-then-not-is_known : goal.returns-then-not-is_known
returns-then-not-is_known c =
    let (can, finite, same) = c.members.invariant in
    let e : Entry = (c.in-Some.key.now, c.in-Some._value.now) in
    let iter : c.members.key-iterator ≡ e ∷ c.next.new.self = grind (arith, common_steps) in
    let bad' : is_known (string_bytes e.0) ≡ false = grind (arith, common_steps) in
    known-not e _ _ _ iter same bad'
