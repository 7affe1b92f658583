-- What the reading of a packet file gives, to its end or to the first record that is refused.
use Rattle.std.specs.Prelude.{ℕ, ◌≡◌, List, [], ◌∷◌, ◌++◌, Option, Some, None, codes}
use Rattle.std.specs.Fmt.{decimal}
use Rattle.hex.specs.Hex.{encode_lower}
use Rattle.bats_model.specs.Session.{SessionData}
use Rattle.bats_model.specs.PacketFile.{IsPacketFile}
use Rattle.bats_model.specs.Refusal.{RefusesHeader, RefusesRecord}
use Rattle.bats_model.specs.declared.item.Item.{Item}
use Rattle.bats_model.specs.declared.read_end.HeaderField.{HeaderField}
use Rattle.bats_model.specs.declared.read_end.HeaderField.TheVariants as fields
use Rattle.bats_model.specs.declared.read_end.ReadEnd.{ReadEnd}
use Rattle.bats_model.specs.declared.read_end.ReadEnd.TheVariants as ends
use Rattle.tool_run.specs.declared.status.Status.{Status}
use Rattle.tool_run.specs.declared.status.Status.TheVariants as statuses
use Rattle.tool_run.specs.Ending.{Ending, in_part}

-- the whole input is these items of the session, or it is refused after them; with no session its first record is
abbrev pub IsReading : List ℕ → Option SessionData → List Item → Option ReadEnd → Type 0
IsReading input None list None = ⊥
IsReading input (Some session) list None = IsPacketFile session list input
IsReading input None list (Some end) = (list ≡ []) × RefusesHeader input end
IsReading input (Some session) list (Some end) = RefusesRecord input session list end

-- the word of a header's field
abbrev pub field_word : HeaderField → List ℕ
field_word fields.Magic = codes "magic"
field_word fields.Version = codes "version"
field_word fields.BatchSize = codes "m"
field_word fields.Mode = codes "mode"
field_word fields.SymbolSize = codes "t"
field_word fields.Length = codes "length"

-- the notes line of a refused place
abbrev pub place_line : ℕ → List ℕ → List ℕ
place_line at reason = codes "bats: input at=" ++ (decimal at ++ (codes " " ++ (reason ++ codes "\n")))

-- the reason of a byte that begins no record
abbrev pub tag_word : ℕ → List ℕ
tag_word byte = codes "bad-tag byte=" ++ encode_lower (byte ∷ [])

-- the notes line of a refusal of the input
abbrev pub refusal_line : ReadEnd → List ℕ
refusal_line ends.Memory = codes "bats: out of memory\n"
refusal_line ends.ReadFault = codes "bats: read fault\n"
refusal_line ends.NoHeader = place_line 0 (codes "no-header")
refusal_line (ends.BadHeader field) = place_line 0 (codes "bad-header field=" ++ field_word field)
refusal_line (ends.BadTag at byte) = place_line at (tag_word byte)
refusal_line (ends.OtherSession at) = place_line at (codes "other-session")
refusal_line (ends.Truncated at) = place_line at (codes "truncated")
refusal_line ends.TooManyRecords = codes "bats: limit records\n"

-- the status of a refusal of the input
abbrev pub refusal_status : ReadEnd → Status
refusal_status ends.Memory = statuses.Memory
refusal_status ends.ReadFault = statuses.ReadFault
refusal_status ends.TooManyRecords = statuses.Limit
refusal_status _ = statuses.Input

-- how a run ends whose input is refused, after this output
abbrev pub refusal_ending : List ℕ → ReadEnd → Ending
refusal_ending output end = record { status = refusal_status end; output = output; line = refusal_line end; reach = in_part; work = None }
