use Rattle.std.proofs.Common.{ℕ, ◌≡◌, ◌≤◌, ◌+◌, ◌*◌, ◌∙◌, List, length, subst}
use Rattle.bats_decode.specs.Decoder.{StandsFor}
use Rattle.bats_model.specs.Session.{SessionData}
use Rattle.bats_model.specs.declared.packet.Packet.{Packet}
use Rattle.tool_replay.proofs.TakenPackets.{Solves-solved}
use Rattle.tool_replay.proofs.trialing.solve.Goals as goal

pub returns : goal.returns
returns g c =
    let packets : List Packet = c.args.packets.items in
    let first : ℕ = c.args.counters.now.steps in
    let mid : ℕ = c.receive_all.new.counters.steps in
    let decoder = c.receive_all.new.decoder in
    let e = c.in_ok-solve.ensures in
    let came : c.deref.result.now ≡ packets = c.deref.ensures.value in
    let stands : StandsFor packets decoder = subst (λ (ps : List Packet). StandsFor ps decoder) came c.in_ok-receive_all.ensures.ok in
    let offers : mid ≤ first + length packets * c.args.session.now.m =
    subst (λ (s : SessionData). mid ≤ first + length packets * s.m) c.new-decoder.ensures.session
    (subst (λ (ps : List Packet). mid ≤ first + length ps * c.new-decoder.result.held.session.m) came c.in_ok-receive_all.ensures.steps) in
    Solves-solved packets decoder c.args.session.now c.in_ok-solve.field-0 first mid c.solve.new.steps _
    (c.in_ok-receive_all.ensures.session ∙ c.new-decoder.ensures.session) stands (e.right packets stands) (e.kept packets stands)
    (e.inactive packets stands) (e.bound packets stands) offers e.counted
