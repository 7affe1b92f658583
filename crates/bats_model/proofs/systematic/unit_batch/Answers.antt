use Rattle.std.proofs.Common.{◌≡◌, ◌<◌, ◌≤◌, ◌*◌, ◌-◌, ◌+◌, ◌∙◌, ℕ, min, rules, arith, sym, ap, Some, true}
use Rattle.bats_model.specs.Session.{symbols_of}
use Rattle.bats_model.specs.Batch.{is_systematic_batch, entries_by, identity_entry}
use Rattle.bats_model.proofs.SystematicBatches.{is_systematic_batch-not_systematic, is_systematic_batch-past, is_systematic_batch-within, unit_batch_of-none, unit_batch_of-some, systematic_batch_of-parts, IsBatch-systematic}
use Rattle.bats_model.proofs.systematic.unit_batch.Goals as goal

pub returns-then-not-systematic : goal.returns-then-not-systematic
returns-then-not-systematic c =
    sym (unit_batch_of-none c.args.session.now c.args.number
    (is_systematic_batch-not_systematic c.args.session.now c.args.number (sym c.if-not-systematic.ensures.value)))

pub returns-then-first-from : goal.returns-then-first-from
returns-then-first-from c =
    let past : symbols_of c.args.session.now ≤ c.args.number * c.args.session.now.m = grind (arith, rules) in
    sym (unit_batch_of-none c.args.session.now c.args.number
    (is_systematic_batch-past c.args.session.now c.args.number past))

pub of_parts-requires : goal.of_parts-requires
of_parts-requires c =
    let degree : ℕ = c.min.result - c.from.result * c.from-2.result in
    let few : degree ≤ c.m-columns.result = grind (arith, rules) in
    IsBatch-systematic c.args.number _ _ c.m-columns.result _ _ (omega arith) (omega arith) few
    c.in_ok-contributors.ensures
    (c.in_ok-entries.ensures ∙ ap (λ columns. entries_by degree columns identity_entry) c.from-5.ensures)

pub returns : goal.returns
returns c =
    let s = c.args.session.now in
    let n = c.args.number in
    let columns = c.m-columns.ensures.value in
    let degree : ℕ = c.min.result - c.from.result * c.from-2.result in
    let first : c.from.result * c.from-2.result ≡ n * s.m = grind (arith, rules) in
    let count : degree ≡ min (symbols_of s) (c.from.result * c.from-2.result + s.m) - c.from.result * c.from-2.result = cc (c.min.ensures, c.symbols-symbols.ensures.value, c.from-4.ensures) in
    let within : n * s.m < symbols_of s = grind (arith, rules) in
    let is : is_systematic_batch s n ≡ true =
    is_systematic_batch-within s n (sym c.if-not-systematic.ensures.value) within in
    let made = systematic_batch_of-parts s n (c.from.result * c.from-2.result) degree c.m-columns.result _ _
    first count columns c.in_ok-contributors.ensures
    (c.in_ok-entries.ensures ∙ ap (λ columns. entries_by degree columns identity_entry) c.from-5.ensures) in
    ap Some (c.of_parts.ensures ∙ sym made) ∙ sym (unit_batch_of-some s n is)
