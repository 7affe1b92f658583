use Rattle.std.proofs.Common.{ℕ, List, ◌++◌, sym, subst}
use Rattle.std.proofs.lemmas.Result.{on_ok_weaker, on_err_weaker}
use Rattle.bats_io.specs.Sink.{Appends, AppendsPrefix}
use Rattle.bats_io.proofs.Appended.{Appends-after, AppendsPrefix-longer, AppendsPrefix-after}
use Rattle.bats_format.proofs.Written.{on_err, packet_record-parts}
use Rattle.bats_format.proofs.writing.write_packet.Goals as goal

pub returns-in_err-write_bytes-clause-prefix : goal.returns-in_err-write_bytes-clause-prefix
returns-in_err-write_bytes-clause-prefix g c =
    let packet = c.args.packet.now in
    let whole = packet_record-parts packet.batch c.packet_front.result packet.coefs packet.payload c.packet_front.ensures in
    on_err c.from_residual.result
    (subst (AppendsPrefix _ _) (sym whole)
    (AppendsPrefix-longer packet.payload (AppendsPrefix-longer packet.coefs c.in_err-write_bytes.ensures.prefix)))

pub returns-in_err-write_bytes-2-clause-prefix : goal.returns-in_err-write_bytes-2-clause-prefix
returns-in_err-write_bytes-2-clause-prefix g c =
    let packet = c.args.packet.now in
    let front : List ℕ = c.packet_front.result in
    let whole = packet_record-parts packet.batch front packet.coefs packet.payload c.packet_front.ensures in
    on_err c.from_residual-in_err-write_bytes-2.result
    (subst (AppendsPrefix _ _) (sym whole)
    (AppendsPrefix-longer packet.payload
    (AppendsPrefix-after front c.in_ok-write_bytes.ensures.appended
    (subst (AppendsPrefix _ _) c.as_slice.ensures.value c.in_err-write_bytes-2.ensures.prefix))))

pub returns-clause-appended : goal.returns-clause-appended
returns-clause-appended g c =
    let packet = c.args.packet.now in
    let front : List ℕ = c.packet_front.result in
    let whole = packet_record-parts packet.batch front packet.coefs packet.payload c.packet_front.ensures in
    let two = Appends-after (g.K.Sink.state c.args.sink.now).written front packet.coefs c.in_ok-write_bytes.ensures.appended
    (subst (Appends _ _) c.as_slice.ensures.value c.in_ok-write_bytes-2.ensures.appended) in
    on_ok_weaker c.write_bytes-3.result
    (λ last. subst (Appends _ _) (sym whole)
    (Appends-after (g.K.Sink.state c.args.sink.now).written (front ++ packet.coefs) packet.payload two
    (subst (Appends _ _) c.as_slice-2.ensures.value last)))
    c.write_bytes-3.ensures.appended

pub returns-clause-prefix : goal.returns-clause-prefix
returns-clause-prefix g c =
    let packet = c.args.packet.now in
    let front : List ℕ = c.packet_front.result in
    let whole = packet_record-parts packet.batch front packet.coefs packet.payload c.packet_front.ensures in
    let two = Appends-after (g.K.Sink.state c.args.sink.now).written front packet.coefs c.in_ok-write_bytes.ensures.appended
    (subst (Appends _ _) c.as_slice.ensures.value c.in_ok-write_bytes-2.ensures.appended) in
    on_err_weaker c.write_bytes-3.result
    (λ last. subst (AppendsPrefix _ _) (sym whole)
    (AppendsPrefix-after (front ++ packet.coefs) two
    (subst (AppendsPrefix _ _) c.as_slice-2.ensures.value last)))
    c.write_bytes-3.ensures.prefix
