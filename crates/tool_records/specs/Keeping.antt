-- How a command ends that keeps the new packets of a packet file, where it doesn't take the whole input: as long as no more
-- are kept than may be it reads on.
use Rattle.std.specs.Prelude.{ℕ, ◌≡◌, ◌≤◌, ◌⊎◌, List, [], ◌∷◌, ◌++◌, codes}
use Rattle.bats_model.specs.Session.{SessionData}
use Rattle.bats_model.specs.Kept.{kept_count}
use Rattle.bats_model.specs.PacketFile.{packets_of}
use Rattle.bats_model.specs.Refusal.{HasFront, RefusesHeader, RefusesRecord}
use Rattle.bats_model.specs.declared.packet.Packet.{Packet}
use Rattle.bats_model.specs.declared.item.Item.{Item}
use Rattle.bats_model.specs.declared.item.Item.TheVariants as items
use Rattle.bats_model.specs.declared.read_end.ReadEnd.{ReadEnd}
use Rattle.bats_batch.specs.Held.{max_kept}
use Rattle.tool_run.specs.declared.status.Status.TheVariants as statuses
use Rattle.tool_run.specs.Ending.{Ending, refusal, in_part}
use Rattle.tool_run.specs.Promise.{Promise, IsBegun}
use Rattle.tool_records.specs.Reading.{refusal_ending}
use Rattle.tool_records.specs.ReadsRecords.{ReadsRecords}

-- no more of the packets among the items are kept than may be
abbrev pub AreFew : List Item → Type 0
AreFew list = kept_count (packets_of list) ≤ max_kept

-- the input's first record is refused, or one after items no more of whose packets are kept than may be
pub record RefusesAfterFew (input : List ℕ) (ending : Ending) : Type 0 where
  pub end : ReadEnd
  pub refused : RefusesHeader input end ⊎ ((session : SessionData) × (list : List Item) × RefusesRecord input session list end × AreFew list)
  pub ending_is : ending ≡ refusal_ending [] end

-- the ending on an input of whose packets more are new than may be kept
abbrev pub kept_limit_ending : Ending
kept_limit_ending = refusal statuses.Limit (codes "bats: limit kept\n") in_part

-- a packet comes that would be kept when no more may be, in a whole record
pub record PassesLimit (input : List ℕ) (ending : Ending) : Type 0 where
  pub session : SessionData
  pub list : List Item
  pub at : ℕ
  pub packet : Packet
  pub front : List ℕ
  pub rest : List ℕ
  pub is_front : HasFront input session (list ++ items.Packet at packet ∷ []) front rest
  pub few : AreFew list
  pub full : ¬ AreFew (list ++ items.Packet at packet ∷ [])
  pub ending_is : ending ≡ kept_limit_ending

-- the ending on an input that isn't taken whole
abbrev pub StopsKeeping : List ℕ → Ending → Type 0
StopsKeeping input ending = RefusesAfterFew input ending ⊎ PassesLimit input ending

-- what a command promises that keeps packets and has these endings: it reads a packet file record by record, no further than
-- the first packet that would be kept when no more may be, and then writes
abbrev pub keeping_promise : (List ℕ → Ending → Type 0) → Promise
keeping_promise ends = record {
  ends = ends;
  reads = ReadsRecords AreFew;
  partly = IsBegun ends;
  partly_read = λ before after part. part ≡ [];
}
