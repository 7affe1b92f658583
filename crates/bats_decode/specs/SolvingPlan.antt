-- Plans that solve kept packets: run on the packets' payloads they give the symbols of each file that agrees.
use Rattle.std.specs.Prelude.{ℕ, ◌≡◌, ◌<◌, List, [], All, length, map, slice_index}
use Rattle.gf_rows.specs.declared.operation.Op.{Op}
use Rattle.gf_rows.specs.Operation.{FitsRows}
use Rattle.gf_rows.specs.Plan.{plan_on_column}
use Rattle.bats_model.specs.Session.{SessionData, symbols_of}
use Rattle.bats_model.specs.Values.{packet_value, AreByteValues}
use Rattle.bats_model.specs.declared.packet.Packet.{Packet}
use Rattle.bats_model.specs.declared.answer.Answer.{Answer}
use Rattle.bats_model.specs.declared.answer.Answer.TheVariants.{File, Inconsistent, NeedMore}

-- what these values of the symbols make of each packet
abbrev pub column_at : SessionData → List Packet → (ℕ → ℕ) → List ℕ
column_at session packets x = map (λ packet. packet_value session packet x) packets

-- A plan over a row for each packet, and a row for each symbol of the session. For all values of the symbols the plan, run
-- on what they make of the packets, has each symbol's value at the symbol's row.
pub record IsSolvingPlan (session : SessionData) (packets : List Packet) (plan : List Op) (rows : List ℕ) : Type 0 where
  pub fits : All (FitsRows (length packets)) plan
  pub size : length rows ≡ symbols_of session
  pub within : All (λ r. r < length packets) rows
  pub gives : (x : ℕ → ℕ) → AreByteValues session x → (s : ℕ) → s < symbols_of session
      → slice_index (plan_on_column plan (column_at session packets x)) (slice_index rows s) ≡ x s

-- where the answer is a file, plan and rows solve the packets; else there are no rows
abbrev pub PlanFollows : SessionData → List Packet → List Op → List ℕ → Answer → Type 0
PlanFollows session packets plan rows (File file) = IsSolvingPlan session packets plan rows
PlanFollows session packets plan rows Inconsistent = rows ≡ []
PlanFollows session packets plan rows (NeedMore at_symbol first second) = rows ≡ []
