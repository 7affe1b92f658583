-- What each verdict on a certificate says.
use Rattle.std.specs.Prelude.{ℕ, ◌≡◌, ◌<◌, List, slice_index}
use Rattle.gf_rows.specs.Matrix.{Grid}
use Rattle.bats_model.specs.Session.{SessionData, symbols_of}
use Rattle.bats_model.specs.Agreement.{AgreesWithAll, IsSameSymbol}
use Rattle.bats_model.specs.declared.packet.Packet.{Packet}
use Rattle.bats_cert.specs.Sums.{payload_sums}
use Rattle.bats_cert.specs.Shown.{GivesSymbol, GiveSymbols, GivesNothing, Shows}
use Rattle.bats_cert.specs.declared.certificate.Body.{Body}
use Rattle.bats_cert.specs.declared.certificate.Body.TheVariants.{One, Two, Zero}
use Rattle.bats_cert.specs.declared.verdict.Part.{Part}
use Rattle.bats_cert.specs.declared.verdict.Part.TheVariants as parts
use Rattle.bats_cert.specs.declared.verdict.Verdict.{Verdict}
use Rattle.bats_cert.specs.declared.verdict.Verdict.TheVariants.{Valid, Broken}

-- of the first rows, so many, row s is the lowest that doesn't give its symbol
pub record IsFirstWrong (session : SessionData) (packets : List Packet) (count : ℕ) (rows : Grid) (s : ℕ) : Type 0 where
  pub within : s < count
  pub wrong : ¬ GivesSymbol session packets rows s
  pub below : GiveSymbols session packets s rows

-- the parts before this one hold, and this one doesn't
abbrev pub Breaks : SessionData → List Packet → Body → Part → Type 0
Breaks session packets (One file rows) parts.FirstFile = ¬ AgreesWithAll session packets file
Breaks session packets (One file rows) (parts.Row s) =
    AgreesWithAll session packets file × IsFirstWrong session packets (symbols_of session) rows s
Breaks session packets (Two at_symbol first second rows) parts.FirstFile = ¬ AgreesWithAll session packets first
Breaks session packets (Two at_symbol first second rows) parts.SecondFile =
    AgreesWithAll session packets first × ¬ AgreesWithAll session packets second
Breaks session packets (Two at_symbol first second rows) parts.Same =
    AgreesWithAll session packets first × AgreesWithAll session packets second × IsSameSymbol session first second at_symbol
Breaks session packets (Two at_symbol first second rows) (parts.Row s) =
    AgreesWithAll session packets first × AgreesWithAll session packets second
    × (¬ IsSameSymbol session first second at_symbol) × IsFirstWrong session packets at_symbol rows s
Breaks session packets (Zero column factors) parts.Factors = ¬ GivesNothing session packets column factors
Breaks session packets (Zero column factors) parts.Sum =
    GivesNothing session packets column factors × (slice_index (payload_sums session packets factors) column ≡ 0)
Breaks session packets _ _ = ⊥

-- the verdict on a body: it shows what it says, or this part is the first that fails
abbrev pub IsVerdict : SessionData → List Packet → Body → Verdict → Type 0
IsVerdict session packets body Valid = Shows session packets body
IsVerdict session packets body (Broken part) = Breaks session packets body part
