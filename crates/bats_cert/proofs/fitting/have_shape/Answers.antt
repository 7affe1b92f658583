use Rattle.std.proofs.Common.{rules, ℕ, ◌≡◌, ◌+◌, ◌∙◌, ◌++◌, List, [], ◌∷◌, get_or, take, false, sym, subst, refl}
use Rattle.std.specs.Prelude.{All}
use Rattle.std.proofs.lemmas.Bool.{both_ways}
use Rattle.std.proofs.lemmas.List.{take_more, take_all}
use Rattle.std.proofs.lemmas.List.Elements.{All-push}
use Rattle.bats_model.specs.PacketFile.{HasShape}
use Rattle.bats_model.specs.declared.packet.Packet.{Packet}
use Rattle.bats_cert.proofs.fitting.have_shape.Goals as goal

pub packets-preserved : goal.packets-preserved
packets-preserved c =
    let packets : List Packet = c.args.packets.now in
    let i : ℕ = c.packets.i in
    let packet : Packet = c.index-packets-i.result in
    let P : Packet → Type 0 = HasShape c.args.session.now in
    let next : take (i + 1) packets ≡ take i packets ++ packet ∷ [] = search (rules, take_more) in
    subst (All P) (sym next) (All-push P (take i packets) packet c.packets.invariant (c.has_shape.ensures.0 c.if-not-has_shape.false))

pub returns-then-not-has_shape : goal.returns-then-not-has_shape
returns-then-not-has_shape c =
    let packets : List Packet = c.args.packets.now in
    let packet : Packet = c.index-packets-i.result in
    let P : Packet → Type 0 = HasShape c.args.session.now in
    let own : get_or packets c.packets.i packet ≡ packet = search rules in (
      (λ e. absurd (both_ways false refl e)),
      (λ h. sym c.if-not-has_shape.true ∙ c.has_shape.ensures.1 (subst P own (h c.packets.i packet c.packets-test.true))),
    )

pub returns : goal.returns
returns c = (
  (λ e. subst (All (HasShape c.args.session.now)) (take_all c.packets.i c.args.packets.now c.packets-test.false) c.packets.invariant),
  (λ h. refl),
)
