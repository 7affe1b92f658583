-- A reading that ends at a refusal.
use Rattle.std.proofs.Common.{ℕ, List, Option, None, Some, inl, inr}
use Rattle.bats_model.specs.Session.{SessionData}
use Rattle.bats_model.specs.Refusal.{IsRefused}
use Rattle.bats_model.specs.declared.item.Item.{Item}
use Rattle.bats_model.specs.declared.read_end.ReadEnd.{ReadEnd}
use Rattle.tool_run.specs.Ending.{Ending}
use Rattle.tool_records.specs.Keeping.{RefusesAfterFew}
use Rattle.tool_records.specs.Reading.{IsReading}

-- a reading that ends at a refusal is one
pub IsRefused-reading : (input : List ℕ) (session : Option SessionData) (list : List Item) (end : ReadEnd) → IsReading input session list (Some end)
    → IsRefused input end
IsRefused-reading input None list end h = inl h.1
IsRefused-reading input (Some session) list end h = inr (session, list, h)

-- one that ends there after few packets is one
pub IsRefused-few : (input : List ℕ) (ending : Ending) (h : RefusesAfterFew input ending) → IsRefused input h.end
IsRefused-few input ending h =
    elim h.refused [
      | inl header ↦ inl header
      | inr after ↦ inr (after.0, after.1, after.2)
    ]
