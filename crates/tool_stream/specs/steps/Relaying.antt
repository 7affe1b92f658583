-- How a relay ends that has taken in all packets.
use Rattle.std.specs.Prelude.{ℕ, ◌≡◌, Bool, List, None, Some, Result, Ok, Err, string_bytes}
use Rattle.bats_io.specs.Streams.{OutputState}
use Rattle.bats_model.specs.Session.{SessionData}
use Rattle.bats_model.specs.PacketFile.{packets_of}
use Rattle.bats_model.specs.declared.item.Item.{Item}
use Rattle.bats_model.specs.Kept.{AreHeld}
use Rattle.tool_run.specs.declared.finish.Finish.{Finish}
use Rattle.tool_run.specs.declared.stop.Stop.{Stop}
use Rattle.tool_run.specs.declared.status.Status.TheVariants as statuses
use Rattle.tool_run.specs.Writes.{Writes}
use Rattle.tool_stream.specs.Relay.{output_count, relayed_ending}

-- what is sent of all items was written, and the finish is that of its ending
pub record SendsRight (seed : List ℕ) (extra : Bool) (count : ℕ) (session : SessionData) (list : List Item) (before after : OutputState)
    (finish : Finish) : Type 0 where
  pub numbers : List ℕ
  pub held : AreHeld (packets_of list) numbers
  pub status : finish.status ≡ statuses.Done
  pub line : string_bytes finish.line ≡ (relayed_ending session seed (output_count session extra count) (packets_of list) numbers).line
  pub written : Writes before after (relayed_ending session seed (output_count session extra count) (packets_of list) numbers).output None

-- it could not be written
pub record CannotSend (seed : List ℕ) (extra : Bool) (count : ℕ) (session : SessionData) (list : List Item) (before after : OutputState)
    (stop : Stop) : Type 0 where
  pub numbers : List ℕ
  pub held : AreHeld (packets_of list) numbers
  pub written : Writes before after (relayed_ending session seed (output_count session extra count) (packets_of list) numbers).output (Some stop)

abbrev pub SendsAs : List ℕ → Bool → ℕ → SessionData → List Item → OutputState → OutputState → Result Finish Stop → Type 0
SendsAs seed extra count session list before after (Ok finish) = SendsRight seed extra count session list before after finish
SendsAs seed extra count session list before after (Err stop) = CannotSend seed extra count session list before after stop
