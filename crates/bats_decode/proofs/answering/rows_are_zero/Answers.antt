use Rattle.std.proofs.Common.{ℕ, ◌↔◌, Bool, List, subst}
use Rattle.std.specs.Prelude.{All, IsTrue}
use Rattle.bats_stripes.specs.Columns.{IsZeroRow}
use Rattle.bats_decode.proofs.FlagLemmas.{all-flags}
use Rattle.bats_decode.proofs.answering.rows_are_zero.Goals as goal

pub returns : goal.returns
returns g c =
    let IsZero : ℕ → Type 0 = IsZeroRow c.args.payload.now in
    let both : All IsTrue c.in_ok-flags.flags.items ↔ All IsZero c.args.rows.now =
    all-flags IsZero c.args.rows.now c.in_ok-flags.flags.items c.in_ok-flags.ensures in
    let told : IsTrue c.all_set.result ↔ All IsTrue c.in_ok-flags.flags.items =
    subst (λ (flags : List Bool). IsTrue c.all_set.result ↔ All IsTrue flags) c.as_slice.ensures.value c.all_set.ensures in
    (λ yes. both.0 (told.0 yes), λ each. told.1 (both.1 each))
