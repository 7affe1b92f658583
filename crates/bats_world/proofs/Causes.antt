-- Going through the causes that stop an event.
use Rattle.std.proofs.Common.{◌≡◌, refl, Bool, true, false, cond, not}
use Rattle.std.specs.Prelude.{Result, Ok, Err}

-- a test that was passed, and the tests after it
pub passed : {A E : Type 0} (test : Bool) (cause : E) (rest : Result A E) (value : A) → cond test (Err cause) rest ≡ Ok value
    → (test ≡ false) × (rest ≡ Ok value)
passed true cause rest value is = cc
passed false cause rest value is = (refl, is)

-- the value of a result
abbrev pub value_or : {A E : Type 0} → A → Result A E → A
value_or other (Ok value) = value
value_or other (Err cause) = other

pub not-false : (test : Bool) → not test ≡ false → test ≡ true
not-false true is = refl
not-false false is = cc
