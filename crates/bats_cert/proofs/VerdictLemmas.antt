-- A part that fails shows that the body doesn't show what it says.
use Rattle.std.proofs.Common.{ℕ, ◌≡◌, ◌↔◌, List, subst, refl}
use Rattle.gf_rows.specs.Matrix.{Grid}
use Rattle.bats_model.specs.Session.{SessionData}
use Rattle.bats_model.specs.declared.packet.Packet.{Packet}
use Rattle.bats_cert.specs.Shown.{GiveSymbols, Shows}
use Rattle.bats_cert.specs.Verdicts.{IsFirstWrong, Breaks, IsVerdict}
use Rattle.bats_cert.specs.declared.certificate.Body.{Body}
use Rattle.bats_cert.specs.declared.certificate.Body.TheVariants.{One, Two, Zero}
use Rattle.bats_cert.specs.declared.verdict.Part.{Part}
use Rattle.bats_cert.specs.declared.verdict.Part.TheVariants as parts
use Rattle.bats_cert.specs.declared.verdict.Verdict.{Verdict}
use Rattle.bats_cert.specs.declared.verdict.Verdict.TheVariants.{Valid, Broken}

not-given : (session : SessionData) (packets : List Packet) (count s : ℕ) (rows : Grid) → IsFirstWrong session packets count rows s
    → GiveSymbols session packets count rows → ⊥
not-given session packets count s rows wrong give = wrong.wrong (give.each s wrong.within)

not-shown : (session : SessionData) (packets : List Packet) (body : Body) (part : Part) → Breaks session packets body part
    → Shows session packets body → ⊥
not-shown session packets (One file rows) parts.FirstFile breaks shows = breaks shows.agrees
not-shown session packets (One file rows) (parts.Row s) breaks shows = not-given session packets _ s rows breaks.1 shows.rows_give
not-shown session packets (One file rows) parts.SecondFile breaks shows = breaks
not-shown session packets (One file rows) parts.Same breaks shows = breaks
not-shown session packets (One file rows) parts.Factors breaks shows = breaks
not-shown session packets (One file rows) parts.Sum breaks shows = breaks
not-shown session packets (Two at_symbol first second rows) parts.FirstFile breaks shows = breaks shows.first_agrees
not-shown session packets (Two at_symbol first second rows) parts.SecondFile breaks shows = breaks.1 shows.second_agrees
not-shown session packets (Two at_symbol first second rows) parts.Same breaks shows = shows.differ breaks.2
not-shown session packets (Two at_symbol first second rows) (parts.Row s) breaks shows = not-given session packets at_symbol s rows breaks.3 shows.rows_give
not-shown session packets (Two at_symbol first second rows) parts.Factors breaks shows = breaks
not-shown session packets (Two at_symbol first second rows) parts.Sum breaks shows = breaks
not-shown session packets (Zero column factors) parts.Factors breaks shows = breaks shows.nothing
not-shown session packets (Zero column factors) parts.Sum breaks shows = shows.byte breaks.1
not-shown session packets (Zero column factors) parts.FirstFile breaks shows = breaks
not-shown session packets (Zero column factors) parts.SecondFile breaks shows = breaks
not-shown session packets (Zero column factors) parts.Same breaks shows = breaks
not-shown session packets (Zero column factors) (parts.Row s) breaks shows = breaks

valid-shows : (session : SessionData) (packets : List Packet) (body : Body) (verdict : Verdict) → IsVerdict session packets body verdict
    → verdict ≡ Valid → Shows session packets body
valid-shows session packets body verdict is e = subst (IsVerdict session packets body) e is

shows-valid : (session : SessionData) (packets : List Packet) (body : Body) (verdict : Verdict) → IsVerdict session packets body verdict
    → Shows session packets body → verdict ≡ Valid
shows-valid session packets body Valid is shows = refl
shows-valid session packets body (Broken part) is shows = absurd (not-shown session packets body part is shows)

-- the verdict is `Valid` exactly where the body shows what it says
pub valid-exactly : (session : SessionData) (packets : List Packet) (body : Body) (verdict : Verdict) → IsVerdict session packets body verdict
    → (verdict ≡ Valid) ↔ Shows session packets body
valid-exactly session packets body verdict is =
    (valid-shows session packets body verdict is, shows-valid session packets body verdict is)
