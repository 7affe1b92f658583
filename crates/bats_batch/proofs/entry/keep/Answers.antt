use Rattle.std.proofs.Common.{◌≡◌, sym, subst, arith}
use Rattle.std.specs.Vec.{with_items}
use Rattle.std.proofs.lemmas.List.{with_items_is}
use Rattle.bats_batch.specs.steps.Reduction.{IsNormalized}
use Rattle.bats_batch.proofs.entry.keep.Goals as goal

pub returns-clause-ok : goal.returns-clause-ok
returns-clause-ok g c =
    let row : (with_items c.args.row c.make_one.new.row).items ≡ c.make_one.new.row =
    with_items_is c.args.row c.make_one.new.row (omega arith) in
    record {
      entry = record { packet = c.in_ok-packet.packet; pivot = c.args.pivot; row = with_items c.args.row c.make_one.new.row };
      gained = c.in_ok-push.ensures.items;
      same_packet = c.in_ok-packet.ensures;
      same_pivot = λ i. c.args.pivot;
      normalized = subst (IsNormalized c.args.pivot c.args.row.items) (sym row)
          (subst (λ old. IsNormalized c.args.pivot old c.make_one.new.row) c.deref_mut.ensures.value c.make_one.ensures.row);
    }
