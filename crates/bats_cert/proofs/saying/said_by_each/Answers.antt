use Rattle.std.proofs.Common.{rules, ℕ, ◌≡◌, ◌<◌, ◌+◌, ◌∙◌, ◌++◌, List, [], ◌∷◌, length, get_or, take, set, sym, ap, arith, length-set}
use Rattle.std.proofs.lemmas.List.{get_or-map, length-map, take_more, take_more_set}
use Rattle.gf_rows.specs.Matrix.{Grid}
use Rattle.bats_model.specs.declared.packet.Packet.{Packet}
use Rattle.bats_cert.specs.Sums.{symbol_row, symbol_rows}
use Rattle.bats_cert.proofs.SymbolSums.{length-symbol_row}
use Rattle.bats_cert.proofs.saying.said_by_each.Goals as goal

pub set_row-requires-clause-width : goal.set_row-requires-clause-width
set_row-requires-clause-width c =
    ap (λ (r : List ℕ). length r) (c.deref.ensures.value ∙ c.in_ok-row.ensures) ∙ length-symbol_row c.args.session.now c.index-packets-i.result
    ∙ sym c.packets.invariant.cols

pub packets-preserved : goal.packets-preserved
packets-preserved c =
    let packets : List Packet = c.args.packets.now in
    let i : ℕ = c.packets.i in
    let packet : Packet = c.index-packets-i.result in
    let rows : List (List ℕ) = c.packets.said.rows in
    let row : List ℕ = symbol_row c.args.session.now packet in
    let all : List (List ℕ) = symbol_rows c.args.session.now packets in
    let inside : i < length packets = c.packets-test.true in
    let own : get_or packets i packet ≡ packet = search rules in
    let next : take (i + 1) all ≡ take i all ++ row ∷ [] =
    take_more all i [] (omega (arith, inside, length-map packets (symbol_row c.args.session.now)))
    ∙ ap (λ (r : List ℕ). take i all ++ r ∷ [])
    (get_or-map (symbol_row c.args.session.now) packets i packet [] inside ∙ ap (symbol_row c.args.session.now) own) in
    let now : c.set_row.new.self.rows ≡ set rows i row =
    ap (λ (m : Grid). m.rows) c.set_row.ensures.row ∙ ap (set rows i) (c.deref.ensures.value ∙ c.in_ok-row.ensures) in
    record {
      cols = ap (λ (m : Grid). m.cols) c.set_row.ensures.row ∙ c.packets.invariant.cols;
      count = ap (λ (rs : List (List ℕ)). length rs) now ∙ length-set rows i row ∙ c.packets.invariant.count;
      rows = ap (take (i + 1)) now ∙ take_more_set rows i row (omega (arith, inside, c.packets.invariant.count))
          ∙ ap (λ (rs : List (List ℕ)). rs ++ row ∷ []) c.packets.invariant.rows ∙ sym next;
    }
