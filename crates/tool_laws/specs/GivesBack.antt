-- What `sink` gives of packets with which a file agrees.
use Rattle.std.specs.Prelude.{ℕ, ◌≡◌, ◌≤◌, ◌⊎◌, List}
use Rattle.bats_model.specs.Session.{SessionData}
use Rattle.bats_model.specs.Kept.{kept_count}
use Rattle.bats_model.specs.RightAnswer.{IsOnlyFile}
use Rattle.bats_model.specs.declared.packet.Packet.{Packet}
use Rattle.bats_batch.specs.Held.{max_kept}
use Rattle.tool_run.specs.declared.status.Status.TheVariants as statuses
use Rattle.tool_run.specs.Ending.{Ending}

-- no more packets are kept than may be, and the ending is done with the file, where no other agrees, or need-more, where
-- another does; or more are, and the ending is the limit
abbrev pub GivesBack : SessionData → List Packet → List ℕ → Ending → Type 0
GivesBack session packets file ending =
    ((kept_count packets ≤ max_kept)
    × (((ending.status ≡ statuses.Done) × (ending.output ≡ file) × IsOnlyFile session packets file)
    ⊎ ((ending.status ≡ statuses.NeedMore) × ¬ IsOnlyFile session packets file)))
    ⊎ ((ending.status ≡ statuses.Limit) × ¬ (kept_count packets ≤ max_kept))
