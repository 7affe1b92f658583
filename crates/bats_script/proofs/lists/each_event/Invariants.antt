use Rattle.std.proofs.Common.{◌≡◌, drop}
use Rattle.toml.specs.View.{items_view}
use Rattle.bats_script.specs.ScriptValues.{each, event_of}
use Rattle.bats_script.proofs.EachLemmas.{joined}
use Rattle.bats_script.proofs.lists.each_event.Given as goal

abbrev pub invariant-items : goal.invariant-items
invariant-items l = record {
  same : l.item-items ≡ l.fn.items.items;
  so_far : each event_of (items_view l.fn.items.items) ≡ joined l.events (each event_of (items_view (drop l.item-index l.item-items)));
}
