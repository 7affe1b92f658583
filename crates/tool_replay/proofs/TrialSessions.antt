-- The numbers of a trial have a session.
use Rattle.std.proofs.Common.{ℕ, ◌≡◌, ◌<◌, ◌≤◌, ◌*◌, refl, arith}
use Rattle.std.proofs.lemmas.Grind.{div_ceil_times}
use Rattle.std.proofs.lemmas.Nat.{mul-le}
use Rattle.bats_model.specs.Session.{symbol_count}
use Rattle.bats_model.specs.declared.session.BadSession.{BadSession}
use Rattle.bats_model.specs.declared.session.BadSession.TheVariants as bad

-- there is no other refusal
pub none-bad : (e : BadSession) → (e ≡ bad.BatchSize → ⊥) → (e ≡ bad.SymbolSize → ⊥) → (e ≡ bad.Table → ⊥)
    → ((n : ℕ) → e ≡ bad.TooLong n → ⊥) → ⊥
none-bad bad.BatchSize m t table long = m refl
none-bad bad.SymbolSize m t table long = t refl
none-bad bad.Table m t table long = table refl
none-bad (bad.TooLong n) m t table long = long n refl

-- a file that is short enough hasn't too many symbols
pub not-many : (size t symbols : ℕ) → 1 ≤ t → size ≤ 4096 * t → 4096 < symbols → symbols ≡ symbol_count size t → ⊥
not-many size t symbols some short many is =
    let more : 4097 * t ≤ symbol_count size t * t = mul-le 4097 t (symbol_count size t) t (omega (arith, many, is)) (omega arith) in
    absurd (omega (arith, more, short, div_ceil_times size t some))
