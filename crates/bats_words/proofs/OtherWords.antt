-- A word that is no command's name.
use Rattle.std.proofs.Common.{◌≡◌, ℕ, false, List, ⊎_elim}
use Rattle.std.specs.Str.{bytes_eq}
use Rattle.std.proofs.lemmas.Bool.{cases_Bool}
use Rattle.std.proofs.lemmas.Slice.Eq.{bytes_eq-Decides}

-- Two words that differ are not equal byte by byte. With this lemma `grind` goes through every name at once.
pub differs : (name other : List ℕ) → ¬ (name ≡ other) → bytes_eq name other ≡ false
differs name other unlike =
    ⊎_elim (λ same. absurd (unlike ((bytes_eq-Decides name other).0 same))) (λ e. e) (cases_Bool (bytes_eq name other))
