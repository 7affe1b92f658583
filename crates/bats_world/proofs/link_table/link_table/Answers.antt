use Rattle.std.proofs.Common.{◌≡◌, ◌+◌, ◌*◌, ◌∙◌, ap, sym, subst, List, Bool, true, false, get_or, set, take, length, replicate}
use Rattle.std.proofs.lemmas.List.{take_all, length-set}
use Rattle.bats_world.specs.Standing.{IsTableOf}
use Rattle.bats_world.proofs.LinkLemmas.{IsTableOf-none, IsTableOf-more}
use Rattle.bats_world.proofs.RelayChanges.{whole-written}
use Rattle.bats_world.proofs.link_table.link_table.Goals as goal

pub links-init : goal.links-init
links-init c =
    IsTableOf-none c.in_ok-table.table.items
    (c.in_ok-table.ensures.items_if_clones_equal (λ y same. same) ∙ ap (λ n. replicate n false) c.places.ensures)

pub links-preserved : goal.links-preserved
links-preserved c =
    let table : List Bool = c.links.table.items in
    let written : c.write_link.new.table ≡ set table ((get_or c.args.links.now c.links.link-index (0, 0)).0 * 18
    + (get_or c.args.links.now c.links.link-index (0, 0)).1) true =
    c.write_link.ensures
    ∙ ap (λ (t : List Bool). set t ((get_or c.args.links.now c.links.link-index (0, 0)).0 * 18
    + (get_or c.args.links.now c.links.link-index (0, 0)).1) true) c.deref_mut.ensures.value in
    let size : length c.write_link.new.table ≡ length table =
    ap (λ (t : List Bool). length t) written
    ∙ length-set table ((get_or c.args.links.now c.links.link-index (0, 0)).0 * 18
    + (get_or c.args.links.now c.links.link-index (0, 0)).1) true in
    subst (IsTableOf (take (c.links.link-index + 1) c.args.links.now))
    (sym (whole-written c.links.table.len table c.write_link.new.table c.links.table.ok.0 size))
    (IsTableOf-more c.args.links.now c.links.link-index (0, 0) c.links-test.true table c.write_link.new.table
    (c.requires c.links.link-index (0, 0) c.links-test.true) written c.links.invariant)

pub returns : goal.returns
returns c =
    subst (λ links. IsTableOf links c.links.table.items) (take_all c.links.link-index c.args.links.now c.links-test.false) c.links.invariant
