use Rattle.std.proofs.Common.{ℕ, ◌≡◌, ◌<◌, ◌+◌, ◌-◌, ◌*◌, ◌∙◌, min, List, length, get_or, sym, ap, arith}
use Rattle.std.specs.Bool.{Decides}
use Rattle.std.proofs.lemmas.Bool.Decides.{Decides-eqb}
use Rattle.std.proofs.lemmas.Slice.Eq.{slice_eq-Decides}
use Rattle.std.proofs.lemmas.List.{ext_get_or}
use Rattle.bats_cert.proofs.verifying.same_symbol.Goals as goal

pub returns : goal.returns
returns c =
    let one : List ℕ = c.symbol_of.result.now in
    let other : List ℕ = c.symbol_of-2.result.now in
    let t : ℕ = c.args.session.now.t in
    let start : ℕ = c.args.s * t in
    let same : Decides c.eq.result (one ≡ other) = slice_eq-Decides Decides-eqb one other c.eq.result c.eq.ensures in
    let sizes : length one ≡ length other =
    c.symbol_of.ensures.size ∙ ap (λ (n : ℕ). min (start + t) n - min start n) (c.requires.first.size ∙ sym c.requires.second.size)
    ∙ sym c.symbol_of-2.ensures.size in (
      (λ e b column. sym (c.symbol_of.ensures.bytes b column) ∙ ap (λ (r : List ℕ). get_or r b 0) (same.0 e) ∙ c.symbol_of-2.ensures.bytes b column),
      (λ h. same.1 (ext_get_or 0 one other sizes (λ b below.
          let column : b < t = omega (arith, below, c.symbol_of.ensures.length) in
          c.symbol_of.ensures.bytes b column ∙ h b column ∙ sym (c.symbol_of-2.ensures.bytes b column)))),
    )
