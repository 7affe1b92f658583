-- What `relay` sends, how it ends on an input, and what it promises.
use Rattle.std.specs.Prelude.{ℕ, ◌≡◌, ◌⊎◌, Bool, List, ◌++◌, length, flat_map, codes, None, if◌then◌else◌}
use Rattle.std.specs.Fmt.{decimal}
use Rattle.bats_model.specs.Session.{SessionData}
use Rattle.bats_model.specs.Kept.{kept_of, kept_count, AreHeld}
use Rattle.bats_model.specs.PacketFile.{IsPacketFile, packets_of}
use Rattle.bats_model.specs.Records.{header_record, packet_record}
use Rattle.bats_model.specs.Relay.{relay_outputs}
use Rattle.bats_model.specs.declared.packet.Packet.{Packet}
use Rattle.bats_model.specs.declared.item.Item.{Item}
use Rattle.bats_relay.specs.Rule.{fixed_count, extra_count}
use Rattle.tool_run.specs.declared.status.Status.TheVariants as statuses
use Rattle.tool_run.specs.Ending.{Ending, to_end}
use Rattle.tool_run.specs.Promise.{Promise}
use Rattle.tool_records.specs.Keeping.{AreFew, StopsKeeping, keeping_promise}

-- outputs of a batch, at most: as many as its coefficients, 32 at most, and 64 more
abbrev pub most_outputs : ℕ
most_outputs = 96

-- how many outputs a batch of this rank has: `extra` its rank, m at most, and the count; `fixed` the count
abbrev pub output_count : SessionData → Bool → ℕ → ℕ → ℕ
output_count session extra count rank = if extra then extra_count session.m count rank else fixed_count count rank

-- what is sent of a batch: its outputs, as many as the rule gives for its rank, numbered from 0
abbrev pub batch_outputs : SessionData → List ℕ → (ℕ → ℕ) → List Packet → ℕ → List Packet
batch_outputs session seed rule packets number =
    relay_outputs session seed number 0 (rule (length (kept_of number packets))) (kept_of number packets)

-- the record of a packet
abbrev pub sent_record : Packet → List ℕ
sent_record packet = packet_record packet.batch packet.coefs packet.payload

-- what is sent of the batches with these numbers, batch by batch
unfoldable pub sent_packets : SessionData → List ℕ → (ℕ → ℕ) → List Packet → List ℕ → List Packet
sent_packets session seed rule packets numbers = flat_map (batch_outputs session seed rule packets) numbers

-- the header, and then the records of what is sent
abbrev pub relayed_output : SessionData → List ℕ → (ℕ → ℕ) → List Packet → List ℕ → List ℕ
relayed_output session seed rule packets numbers =
    header_record session ++ flat_map sent_record (sent_packets session seed rule packets numbers)

-- the notes line: the packets received, those kept, the batches held, and the outputs sent
abbrev pub relay_line : ℕ → ℕ → ℕ → ℕ → List ℕ
relay_line packets kept batches sent =
    codes "relay: packets=" ++ (decimal packets ++ (codes " kept=" ++ (decimal kept
    ++ (codes " batches=" ++ (decimal batches ++ (codes " sent=" ++ (decimal sent ++ codes "\n")))))))

-- the ending of a packet file with these packets, whose held batches have these numbers
abbrev pub relayed_ending : SessionData → List ℕ → (ℕ → ℕ) → List Packet → List ℕ → Ending
relayed_ending session seed rule packets numbers = record {
  status = statuses.Done;
  output = relayed_output session seed rule packets numbers;
  line = relay_line (length packets) (kept_count packets) (length numbers)
      (length (sent_packets session seed rule packets numbers));
  reach = to_end;
  work = None;
}

-- the whole input is a packet file, and no more of its packets are kept than may be: the ending is that of what is sent
pub record RelaySends (seed : List ℕ) (extra : Bool) (count : ℕ) (input : List ℕ) (ending : Ending) : Type 0 where
  pub session : SessionData
  pub list : List Item
  pub file : IsPacketFile session list input
  pub few : AreFew list
  pub numbers : List ℕ
  pub held : AreHeld (packets_of list) numbers
  pub ending_is : ending ≡ relayed_ending session seed (output_count session extra count) (packets_of list) numbers

-- how `relay` ends where memory is found and no read, write or flush fails
abbrev pub IsRelayEnding : List ℕ → Bool → ℕ → List ℕ → Ending → Type 0
IsRelayEnding seed extra count input ending =
    RelaySends seed extra count input ending ⊎ StopsKeeping input ending

-- what `relay` promises
abbrev pub relay_promise : List ℕ → Bool → ℕ → Promise
relay_promise seed extra count = keeping_promise (IsRelayEnding seed extra count)
