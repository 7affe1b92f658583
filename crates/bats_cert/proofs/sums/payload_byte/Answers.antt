use Rattle.std.proofs.Common.{ℕ, ◌≡◌, ◌<◌, ◌∙◌, List, [], length, get_or, sym, ap}
use Rattle.std.proofs.lemmas.List.{get_or-map}
use Rattle.gf_core.specs.Field.{gf_add, gf_mul}
use Rattle.bats_model.specs.Relay.{payloads_of}
use Rattle.bats_model.specs.declared.packet.Packet.{Packet}
use Rattle.gf_core.proofs.SumLemmas.{gf_sum-zero, gf_sum-more}
use Rattle.bats_cert.proofs.sums.payload_byte.Goals as goal

pub packets-init : goal.packets-init
packets-init c = sym (gf_sum-zero _)

pub packets-preserved : goal.packets-preserved
packets-preserved c =
    let packets : List Packet = c.args.packets.now in
    let factors : List ℕ = c.args.factors.now in
    let column : ℕ = c.args.column in
    let i : ℕ = c.packets.i in
    let inside : i < length packets = c.packets-test.true in
    let term : ℕ → ℕ = λ k. gf_mul (get_or factors k 0) (get_or (get_or (payloads_of packets) k []) column 0) in
    let byte : c.new-byte.result ≡ get_or (get_or (payloads_of packets) i []) column 0 =
    c.new-byte.ensures
    ∙ ap (λ (p : List ℕ). get_or p column 0)
    (c.as_slice.ensures.value ∙ sym (get_or-map (λ (p : Packet). p.payload) packets i c.index-packets-i.result [] inside)) in
    c.add-sum.ensures
    ∙ ap (gf_add c.packets.sum)
    (c.mul.ensures ∙ ap (λ (x : ℕ). gf_mul x c.new-byte.result) c.new.ensures ∙ ap (gf_mul (get_or factors i 0)) byte)
    ∙ ap (λ (s : ℕ). gf_add s (term i)) c.packets.invariant ∙ sym (gf_sum-more i term)
