use Rattle.std.proofs.Common.{◌∙◌, ap, sym, refl, arith}
use Rattle.bats_format.specs.Reader.{ReaderData}
use Rattle.bats_format.proofs.NextItems.{GivesItem-next, Refuses-record, Refuses-again, going-now, going-like, going-refused}
use Rattle.bats_format.proofs.reader.Reader.next.Goals as goal

pub record_size-requires : goal.record_size-requires
record_size-requires g c = let next = rw c.in-Ok-Some.field-0-is at c.in-Ok-Some.ensures in (_, next.item_is.place)

pub overflow_add-self-in-Ok-Some : goal.overflow_add-self-in-Ok-Some
overflow_add-self-in-Ok-Some g c = omega (arith, c.self.invariant.0, c.self.invariant.1, c.record_size.ensures.within)

pub invariant_of-self : goal.invariant_of-self
invariant_of-self g c =
    let next = rw c.in-Ok-Some.field-0-is at c.in-Ok-Some.ensures in
    (omega (arith, next.few), omega (arith, c.self.invariant.1, c.record_size.ensures.within))

pub returns-in-Ok-Some : goal.returns-in-Ok-Some
returns-in-Ok-Some g c =
    let next = rw c.in-Ok-Some.field-0-is at c.in-Ok-Some.ensures in
    let fields : ReaderData = (record {
      session = c.self.inside.session;
      records = c.self.inside.records;
      offset = c.self.inside.offset;
      ended = c.self.inside.ended;
      refused = c.self.inside.refused;
    }) in
    GivesItem-next c.record_size.result (going-now _ c.args.self.now c.self.view_is c.if-self.false c.in_default.is)
    (going-like fields _ c.if-self.false c.in_default.is refl refl refl) c.record_size.ensures.size next

pub returns-in-Err : goal.returns-in-Err
returns-in-Err g c =
    let fields : ReaderData = (record {
      session = c.self.inside.session;
      records = c.self.inside.records;
      offset = c.self.inside.offset;
      ended = c.self.inside.ended;
      refused = c.self.inside.refused;
    }) in
    Refuses-record _ _ c.self.inside.session _ _ _ _ c.in-Err.end
    (going-now _ c.args.self.now c.self.view_is c.if-self.false c.in_default.is)
    (going-refused fields _ c.in-Err.end c.if-self.false refl) c.in-Err.ensures

pub returns-in-Some : goal.returns-in-Some
returns-in-Some g c =
    Refuses-again _ c.args.self.now c.in-Some.end (ap (λ (r : ReaderData). r.refused) (sym c.self.view_is) ∙ c.in-Some.is)
