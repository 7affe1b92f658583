use Rattle.std.proofs.Common.{ℕ, ◌≡◌, ap, refl, arith, inl, inr, Err}
use Rattle.bats_model.specs.declared.session.BadSession.{BadSession}
use Rattle.bats_model.specs.declared.session.BadSession.TheVariants as bad
use Rattle.tool_source.proofs.sending.session_of.Goals as goal

-- which refusal of a session it is, where only one can be
too_long : (e : BadSession) (P : Type 0) → (e ≡ bad.BatchSize → ⊥) → (e ≡ bad.SymbolSize → ⊥) → (e ≡ bad.Table → ⊥)
    → ((n : ℕ) → e ≡ bad.TooLong n → P) → P
too_long bad.BatchSize P m t table long = absurd (m refl)
too_long bad.SymbolSize P m t table long = absurd (t refl)
too_long bad.Table P m t table long = absurd (table refl)
too_long (bad.TooLong n) P m t table long = long n refl

pub returns-in-Err-clause-none : goal.returns-in-Err-clause-none
returns-in-Err-clause-none c = λ same.
    too_long c.in-Err.field-0 _
    (λ h. elim (c.in-Err.ensures.batch_size.0 (ap Err h)) [ inl zero_m ↦ omega arith | inr large ↦ omega arith ])
    (λ h. let w = c.in-Err.ensures.symbol_size.0 (ap Err h) in elim w.2 [ inl zero_t ↦ omega arith | inr large ↦ omega arith ])
    (λ h. let w = c.in-Err.ensures.table.0 (ap Err h) in omega (arith, w.4))
    (λ n h. let w = (c.in-Err.ensures.too_long n).0 (ap Err h) in omega (arith, w.5, w.6))
