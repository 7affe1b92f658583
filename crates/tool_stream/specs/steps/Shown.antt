-- What `show` has done of the items that were read, and the parts of a line.
use Rattle.std.specs.Prelude.{ℕ, ◌≡◌, ◌+◌, List, ◌++◌, length, codes, None, Some, Result, Ok, Err}
use Rattle.std.specs.Fmt.{decimal}
use Rattle.bats_io.specs.Streams.{OutputState}
use Rattle.bats_model.specs.Session.{SessionData}
use Rattle.bats_model.specs.PacketFile.{packets_of}
use Rattle.bats_model.specs.declared.item.Item.{Item}
use Rattle.tool_run.specs.declared.stop.Stop.{Stop}
use Rattle.tool_run.specs.Writes.{Writes}
use Rattle.tool_records.specs.declared.walking.Next.{Next}
use Rattle.tool_records.specs.declared.walking.Next.TheVariants as takes
use Rattle.tool_stream.specs.Show.{item_lines}

-- the items are counted, and their lines were written
pub record AreShown (headers packets : ℕ) (session : SessionData) (list : List Item) (start now : OutputState) : Type 0 where
  pub counted : headers + packets ≡ length list
  pub packets_are : packets ≡ length (packets_of list)
  pub written : Writes start now (item_lines session list) None

-- so many headers and packets were shown, or the last line was cut short; it halts at no item
abbrev pub ShownAs : ℕ → ℕ → SessionData → List Item → OutputState → OutputState → Result Next Stop → Type 0
ShownAs headers packets session list start now (Ok takes.GoesOn) = AreShown headers packets session list start now
ShownAs headers packets session list start now (Ok takes.Halts) = ⊥
ShownAs headers packets session list start now (Err stop) = Writes start now (item_lines session list) (Some stop)

pub record HasShown (headers packets : ℕ) (session : SessionData) (list : List Item) (start now : OutputState) (taken : Result Next Stop) : Type 0 where
  pub as_far : ShownAs headers packets session list start now taken

-- the front of a header's line: its offset, and the sizes of its session
abbrev pub sizes_part : ℕ → ℕ → ℕ → ℕ → ℕ → List ℕ
sizes_part at m t size symbols =
    codes "header at=" ++ (decimal at ++ (codes " m=" ++ (decimal m ++ (codes " t=" ++ (decimal t
    ++ (codes " length=" ++ (decimal size ++ (codes " symbols=" ++ decimal symbols))))))))

-- the rest of it, from 1 or 0, the number of the table, and the digits of the seed
abbrev pub header_rest : ℕ → ℕ → List ℕ → List ℕ
header_rest systematic table seed =
    codes " systematic=" ++ (decimal systematic ++ (codes " table=" ++ (decimal table ++ (codes " seed=" ++ (seed ++ codes "\n")))))
