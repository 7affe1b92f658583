use Rattle.std.proofs.Common.{◌≡◌, Err, length, refl, arith, ap, sym, subst, ◌∙◌}
use Rattle.bats_model.specs.Bytes.{AreBytes}
use Rattle.bats_format.proofs.Filled.{FillsPart-after, FillsPart-longer}
use Rattle.bats_format.proofs.Reading.{TakesBody-packet_exit, TakesBody-packet_memory, TakesItem-packet, written}
use Rattle.bats_format.proofs.records.take_packet.Goals as goal

pub returns-in_err-coefs : goal.returns-in_err-coefs
returns-in_err-coefs g c = TakesBody-packet_memory (g.S.Source.state c.args.source.now) c.args.at c.args.session.now c.from_residual.result c.from_residual.ensures.1

pub returns-in_err-payload : goal.returns-in_err-payload
returns-in_err-payload g c = TakesBody-packet_memory (g.S.Source.state c.args.source.now) c.args.at c.args.session.now c.from_residual-in_err-payload.result c.from_residual-in_err-payload.ensures.1

pub returns-in_err-fill_part : goal.returns-in_err-fill_part
returns-in_err-fill_part g c =
    TakesBody-packet_exit c.args.session.now c.fill_part.new.part c.in_ok-coefs.coefs.items c.in_ok-payload.payload.items c.from_residual-in_err-fill_part.result c.m.ensures.within
    (omega (arith, c.fill_part.auto.part))
    (omega (arith, c.in_ok-coefs.coefs.ok.0, c.in_ok-coefs.ensures.len, c.from.ensures, c.m.ensures.value))
    (omega (arith, c.in_ok-payload.payload.ok.0, c.in_ok-payload.ensures.len, c.from-2.ensures, c.t.ensures.value))
    c.from_residual-in_err-fill_part.ensures.1
    (FillsPart-longer c.in_ok-payload.payload.items (Err _) refl (FillsPart-longer c.in_ok-coefs.coefs.items (Err _) refl c.in_err-fill_part.ensures))

pub returns-in_err-fill_part-2 : goal.returns-in_err-fill_part-2
returns-in_err-fill_part-2 g c =
    TakesBody-packet_exit c.args.session.now c.fill_part.new.part c.fill_part-2.new.part c.in_ok-payload.payload.items c.from_residual-in_err-fill_part-2.result c.m.ensures.within
    (omega (arith, c.fill_part.auto.part))
    (omega (arith, c.fill_part-2.auto.part, ap length c.deref_mut.ensures.value, c.in_ok-coefs.coefs.ok.0, c.in_ok-coefs.ensures.len, c.from.ensures, c.m.ensures.value))
    (omega (arith, c.in_ok-payload.payload.ok.0, c.in_ok-payload.ensures.len, c.from-2.ensures, c.t.ensures.value))
    c.from_residual-in_err-fill_part-2.ensures.1
    (FillsPart-longer c.in_ok-payload.payload.items (Err _) refl (FillsPart-after c.in_ok-fill_part.ensures c.in_err-fill_part-2.ensures))

pub returns-in_err-fill_part-3 : goal.returns-in_err-fill_part-3
returns-in_err-fill_part-3 g c =
    TakesBody-packet_exit c.args.session.now c.fill_part.new.part c.fill_part-2.new.part c.fill_part-3.new.part c.from_residual-in_err-fill_part-3.result c.m.ensures.within
    (omega (arith, c.fill_part.auto.part))
    (omega (arith, c.fill_part-2.auto.part, ap length c.deref_mut.ensures.value, c.in_ok-coefs.coefs.ok.0, c.in_ok-coefs.ensures.len, c.from.ensures, c.m.ensures.value))
    (omega (arith, c.fill_part-3.auto.part, ap length c.deref_mut-2.ensures.value, c.in_ok-payload.payload.ok.0, c.in_ok-payload.ensures.len, c.from-2.ensures, c.t.ensures.value))
    c.from_residual-in_err-fill_part-3.ensures.1
    (FillsPart-after (FillsPart-after c.in_ok-fill_part.ensures c.in_ok-fill_part-2.ensures) c.in_err-fill_part-3.ensures)

pub returns : goal.returns
returns g c =
    let coefs : c.bytes_in.result ≡ c.fill_part-2.new.part =
    c.bytes_in.ensures.value ∙ written _ c.in_ok-coefs.coefs.items c.fill_part-2.new.part c.in_ok-coefs.coefs.ok.0 (c.fill_part-2.auto.part ∙ ap length c.deref_mut.ensures.value) in
    let payload : c.bytes_in-2.result ≡ c.fill_part-3.new.part =
    c.bytes_in-2.ensures.value ∙ written _ c.in_ok-payload.payload.items c.fill_part-3.new.part c.in_ok-payload.payload.ok.0 (c.fill_part-3.auto.part ∙ ap length c.deref_mut-2.ensures.value) in
    rw (coefs, payload) (TakesItem-packet c.args.session.now c.fill_part.new.part c.fill_part-2.new.part c.fill_part-3.new.part
    c.number_in.ensures c.number_in.type_inv
    (omega (arith, c.fill_part-2.auto.part, ap length c.deref_mut.ensures.value, c.in_ok-coefs.coefs.ok.0, c.in_ok-coefs.ensures.len, c.from.ensures, c.m.ensures.value))
    (omega (arith, c.fill_part-3.auto.part, ap length c.deref_mut-2.ensures.value, c.in_ok-payload.payload.ok.0, c.in_ok-payload.ensures.len, c.from-2.ensures, c.t.ensures.value))
    (subst AreBytes (sym c.bytes_in.ensures.value ∙ coefs) c.bytes_in.ensures.bytes)
    (subst AreBytes (sym c.bytes_in-2.ensures.value ∙ payload) c.bytes_in-2.ensures.bytes)
    (FillsPart-after (FillsPart-after c.in_ok-fill_part.ensures c.in_ok-fill_part-2.ensures) c.in_ok-fill_part-3.ensures))
