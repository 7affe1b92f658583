-- What `show` writes, how it ends on an input, and what it promises.
use Rattle.std.specs.Prelude.{ℕ, ◌≡◌, ◌-◌, ◌⊎◌, List, [], ◌++◌, length, flat_map, codes, Option, Some, None, if◌then◌else◌}
use Rattle.std.specs.Fmt.{decimal}
use Rattle.hex.specs.Hex.{encode_lower}
use Rattle.bats_model.specs.Session.{SessionData, symbols_of}
use Rattle.bats_model.specs.PacketFile.{packets_of}
use Rattle.bats_model.specs.declared.packet.Packet.{Packet}
use Rattle.bats_model.specs.declared.item.Item.{Item}
use Rattle.bats_model.specs.declared.item.Item.TheVariants as items
use Rattle.bats_model.specs.declared.read_end.ReadEnd.{ReadEnd}
use Rattle.tool_run.specs.declared.status.Status.TheVariants as statuses
use Rattle.bats_model.specs.Refusal.{HasFront}
use Rattle.tool_run.specs.Ending.{Ending, to_end}
use Rattle.tool_run.specs.Promise.{Promise, IsFrontOf}
use Rattle.tool_records.specs.Reading.{IsReading, refusal_ending}
use Rattle.tool_records.specs.ReadsRecords.{ReadsRecords}

-- the line of a header record
unfoldable pub header_line : SessionData → ℕ → List ℕ
header_line session at =
    codes "header at=" ++ (decimal at ++ (codes " m=" ++ (decimal session.m ++ (codes " t=" ++ (decimal session.t
    ++ (codes " length=" ++ (decimal session.file_length ++ (codes " symbols=" ++ (decimal (symbols_of session)
    ++ (codes " systematic=" ++ (decimal (if session.systematic then 1 else 0) ++ (codes " table=" ++ (decimal session.table
    ++ (codes " seed=" ++ (encode_lower session.seed ++ codes "\n")))))))))))))))

-- the line of a packet record
unfoldable pub packet_line : ℕ → Packet → List ℕ
packet_line at packet =
    codes "packet at=" ++ (decimal at ++ (codes " batch=" ++ (decimal packet.batch ++ (codes " coefs="
    ++ (encode_lower packet.coefs ++ (codes " payload=" ++ (encode_lower packet.payload ++ codes "\n")))))))

-- the line of an item
abbrev pub item_line : SessionData → Item → List ℕ
item_line session (items.Header at) = header_line session at
item_line session (items.Packet at packet) = packet_line at packet

-- the lines of items, one after another
unfoldable pub item_lines : SessionData → List Item → List ℕ
item_lines session list = flat_map (item_line session) list

-- the lines of the items that were read before the end or a refusal
abbrev pub lines_read : Option SessionData → List Item → List ℕ
lines_read None list = []
lines_read (Some session) list = item_lines session list

-- the notes line: how many headers and how many packets there were
abbrev pub show_line : ℕ → ℕ → List ℕ
show_line headers packets = codes "show: headers=" ++ (decimal headers ++ (codes " packets=" ++ (decimal packets ++ codes "\n")))

-- the ending, by what the reading gives
abbrev pub show_ending : Option SessionData → List Item → Option ReadEnd → Ending
show_ending session list None = record {
  status = statuses.Done;
  output = lines_read session list;
  line = show_line (length list - length (packets_of list)) (length (packets_of list));
  reach = to_end;
  work = None;
}
show_ending session list (Some end) = refusal_ending (lines_read session list) end

-- how `show` ends where memory is found and no read, write or flush fails
pub record IsShowEnding (input : List ℕ) (ending : Ending) : Type 0 where
  pub session : Option SessionData
  pub list : List Item
  pub end : Option ReadEnd
  pub reading : IsReading input session list end
  pub ending_is : ending ≡ show_ending session list end

-- `show` reads on after any items
abbrev pub takes_all : List Item → Type 0
takes_all list = Unit {0}

-- the bytes are a front of the lines of the items that the input begins with
pub record IsFrontOfLines (input : List ℕ) (part : List ℕ) : Type 0 where
  pub session : SessionData
  pub list : List Item
  pub before : List ℕ
  pub after : List ℕ
  pub is_front : HasFront input session list before after
  pub front : IsFrontOf part (item_lines session list)

-- nothing was written, or a front of the lines of an input that may not have been read to its end
abbrev pub AreLinesBegun : List ℕ → List ℕ → Type 0
AreLinesBegun input part = (part ≡ []) ⊎ IsFrontOfLines input part

-- the bytes are the lines of the records that were read
pub record AreLinesRead (before after : Option (List ℕ)) (part : List ℕ) : Type 0 where
  pub reads : ReadsRecords takes_all before after
  pub lines : part ≡ lines_read reads.session reads.list

-- what `show` promises: it reads a packet file record by record, and writes as it reads
abbrev pub show_promise : Promise
show_promise = record {
  ends = IsShowEnding;
  reads = ReadsRecords takes_all;
  partly = AreLinesBegun;
  partly_read = AreLinesRead;
}
