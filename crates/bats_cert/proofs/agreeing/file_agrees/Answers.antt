use Rattle.std.proofs.Common.{rules, ℕ, ◌≡◌, ◌+◌, ◌∙◌, ◌++◌, List, [], ◌∷◌, get_or, take, false, sym, subst, refl}
use Rattle.std.specs.Prelude.{All}
use Rattle.std.proofs.lemmas.Bool.{both_ways}
use Rattle.std.proofs.lemmas.List.{take_more, take_all}
use Rattle.std.proofs.lemmas.List.Elements.{All-push}
use Rattle.bats_model.specs.Agreement.{Agrees}
use Rattle.bats_model.specs.declared.packet.Packet.{Packet}
use Rattle.bats_cert.proofs.agreeing.file_agrees.Goals as goal

pub packets-preserved : goal.packets-preserved
packets-preserved c =
    let packets : List Packet = c.args.packets.now in
    let i : ℕ = c.packets.i in
    let packet : Packet = c.index-packets-i.result in
    let P : Packet → Type 0 = Agrees c.args.session.now c.args.file.now in
    let next : take (i + 1) packets ≡ take i packets ++ packet ∷ [] = search (rules, take_more) in
    subst (All P) (sym next) (All-push P (take i packets) packet c.packets.invariant (c.in_ok-packet_agrees.ensures.0 c.if-not-branch.false))

pub returns-then-not-branch : goal.returns-then-not-branch
returns-then-not-branch c =
    let packets : List Packet = c.args.packets.now in
    let packet : Packet = c.index-packets-i.result in
    let P : Packet → Type 0 = Agrees c.args.session.now c.args.file.now in
    let own : get_or packets c.packets.i packet ≡ packet = search rules in (
      (λ e. absurd (both_ways false refl e)),
      (λ h. sym c.if-not-branch.true ∙ c.in_ok-packet_agrees.ensures.1 (subst P own (h.each c.packets.i packet c.packets-test.true))),
    )

pub returns : goal.returns
returns c =
    let packets : List Packet = c.args.packets.now in (
      (λ e. record {
        is_file = c.requires.is_file;
        each = subst (All (Agrees c.args.session.now c.args.file.now)) (take_all c.packets.i packets c.packets-test.false) c.packets.invariant;
      }),
      (λ h. refl),
    )
