-- Sums of rows by factors, one row more at a time, and rows written one after another.
use Rattle.std.proofs.Common.{ℕ, ◌≡◌, ◌<◌, ◌≤◌, ◌+◌, ◌∙◌, List, [], ◌∷◌, ◌++◌, length, get_or, take, replicate, sym, ap, refl, arith}
use Rattle.std.proofs.lemmas.List.{length-take-le, take_more}
use Rattle.std.proofs.lemmas.List.Elements.{All-take}
use Rattle.gf_core.specs.Bytes.{AreBytes}
use Rattle.gf_core.specs.Rows.{add_scaled_row}
use Rattle.gf_core.specs.Combinations.{combination}
use Rattle.gf_core.specs.Triangular.{AreRows}
use Rattle.gf_core.proofs.CombinationLemmas.{combination-push}

pub combination-none : (width : ℕ) (rows : List (List ℕ)) → combination width [] rows ≡ replicate width 0
unfolding combination
combination-none width rows = refl

-- one more row
pub combination-more : (width : ℕ) (cs : List ℕ) (rows : List (List ℕ)) (i : ℕ) → AreRows width rows → length rows ≤ length cs → i < length rows
    → combination width (take (i + 1) cs) (take (i + 1) rows) ≡ add_scaled_row (combination width (take i cs) (take i rows)) (get_or cs i 0) (get_or rows i [])
combination-more width cs rows i are few h =
    ap (λ (fs : List ℕ). combination width fs (take (i + 1) rows)) (take_more cs i 0 (omega arith))
    ∙ ap (combination width (take i cs ++ get_or cs i 0 ∷ [])) (take_more rows i [] h)
    ∙ combination-push width (take i cs) (get_or cs i 0) (take i rows) (get_or rows i [])
    (length-take-le i cs (omega arith) ∙ sym (length-take-le i rows (omega arith)))
    (record {
      widths = All-take (λ row. length row ≡ width) i rows are.widths;
      bytes = All-take AreBytes i rows are.bytes;
    })
    (are.widths i [] h)
