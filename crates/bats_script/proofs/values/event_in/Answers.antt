use Rattle.std.proofs.Common.{◌∙◌, ◌≡◌, length, Some, None, sym, refl, arith}
use Rattle.bats_script.proofs.ValueLemmas.{event_in-other, event_in-one}
use Rattle.bats_script.proofs.values.event_in.Goals as goal

pub returns-then-len-ne1 : goal.returns-then-len-ne1
returns-then-len-ne1 c =
    event_in-other c.args.table.now.entries (λ e. c.if-len-ne1.true (let n = c.len.ensures.len in omega (arith, e)))

pub returns-in-Some : goal.returns-in-Some
returns-in-Some c =
    let one : length c.args.table.now.entries ≡ 1 = let h' = c.if-len-ne1.false in let n = c.len.ensures.len in omega arith in
    event_in-one c.args.table.now.entries (Some (c.in-Some.batch, c.in-Some.column)) _ _ one (sym c.in-Some.is ∙ c.numbers_at.ensures) refl refl

pub returns-in-Some-numbers_at : goal.returns-in-Some-numbers_at
returns-in-Some-numbers_at c =
    let one : length c.args.table.now.entries ≡ 1 = let h' = c.if-len-ne1.false in let n = c.len.ensures.len in omega arith in
    event_in-one c.args.table.now.entries None (Some (c.in-Some-numbers_at.node, c.in-Some-numbers_at.batch)) _ one
    (sym c.in-None.is ∙ c.numbers_at.ensures) (sym c.in-Some-numbers_at.is ∙ c.numbers_at-in-None.ensures) refl

pub returns-in-Some-numbers_at-2 : goal.returns-in-Some-numbers_at-2
returns-in-Some-numbers_at-2 c =
    let one : length c.args.table.now.entries ≡ 1 = let h' = c.if-len-ne1.false in let n = c.len.ensures.len in omega arith in
    event_in-one c.args.table.now.entries None None (Some (c.in-Some-numbers_at-2.packet, c.in-Some-numbers_at-2.node)) one
    (sym c.in-None.is ∙ c.numbers_at.ensures) (sym c.in-None-numbers_at.is ∙ c.numbers_at-in-None.ensures)
    (sym c.in-Some-numbers_at-2.is ∙ c.numbers_at-in-None-numbers_at.ensures)

pub returns-in-None-numbers_at-2 : goal.returns-in-None-numbers_at-2
returns-in-None-numbers_at-2 c =
    let one : length c.args.table.now.entries ≡ 1 = let h' = c.if-len-ne1.false in let n = c.len.ensures.len in omega arith in
    event_in-one c.args.table.now.entries None None None one
    (sym c.in-None.is ∙ c.numbers_at.ensures) (sym c.in-None-numbers_at.is ∙ c.numbers_at-in-None.ensures)
    (sym c.in-None-numbers_at-2.is ∙ c.numbers_at-in-None-numbers_at.ensures)
