-- That peeling ends in one way: what its laws say of sets of symbols and of inactive lists.
use Rattle.std.specs.Prelude.{ℕ, ◌≡◌, ◌<◌, not, Bool, true, List}
use Rattle.std.specs.List.{count_by}
use Rattle.bats_model.specs.Session.{SessionData, symbols_of}
use Rattle.bats_model.specs.Batch.{batch_of}
use Rattle.bats_model.specs.Peeling.{is_in, IsStuckSet, IsInactiveList}
use Rattle.bats_model.specs.declared.packet.Packet.{Packet}

-- each symbol of the one set is in the other
pub record IsSubset (session : SessionData) (set larger : List Bool) : Type 0 where
  pub keeps : (s : ℕ) → s < symbols_of session → is_in set s ≡ true → is_in larger s ≡ true

-- how many contributors of a batch are outside the set
abbrev pub unknown_count : SessionData → ℕ → List Bool → ℕ
unknown_count session number set = count_by (λ s. not (is_in set s)) (batch_of session number).contributors

-- there is a stuck set from this set, and no other
pub record HasOneStuckSet (session : SessionData) (packets : List Packet) (set : List Bool) : Type 0 where
  pub stuck : List Bool
  pub is_stuck : IsStuckSet session packets set stuck
  pub only : (other : List Bool) → IsStuckSet session packets set other → other ≡ stuck

-- there is an inactive list for these packets, and no other
pub record HasOneInactiveList (session : SessionData) (packets : List Packet) : Type 0 where
  pub list : List ℕ
  pub is_inactive : IsInactiveList session packets list
  pub only : (other : List ℕ) → IsInactiveList session packets other → other ≡ list
