-- Items that came to a command which keeps packets.
use Rattle.std.specs.Prelude.{ℕ, ◌≡◌, List, [], ◌∷◌, ◌++◌}
use Rattle.bats_model.specs.Session.{SessionData}
use Rattle.bats_model.specs.PacketFile.{HasShape}
use Rattle.bats_model.specs.declared.packet.Packet.{Packet}
use Rattle.bats_model.specs.declared.item.Item.{Item}
use Rattle.bats_model.specs.declared.item.Item.TheVariants as items
use Rattle.tool_records.specs.Keeping.{AreFew}

-- the item's packet, if it is one, has the session's shape
abbrev pub HasShapeOf : SessionData → Item → Type 0
HasShapeOf session (items.Header at) = Unit {0}
HasShapeOf session (items.Packet at packet) = HasShape session packet

-- after items no more of whose packets are kept than may be, one more came
pub record CameAfterFew (session : SessionData) (list : List Item) : Type 0 where
  pub before : List Item
  pub item : Item
  pub list_is : list ≡ before ++ item ∷ []
  pub few : AreFew before

-- the last item is a packet that would be kept when no more may be
pub record EndsFull (session : SessionData) (list : List Item) : Type 0 where
  pub before : List Item
  pub at : ℕ
  pub packet : Packet
  pub list_is : list ≡ before ++ items.Packet at packet ∷ []
  pub few : AreFew before
  pub full : ¬ AreFew list
