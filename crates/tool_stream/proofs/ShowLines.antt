-- The lines of `show`, and parts of them.
use Rattle.std.proofs.Common.{ℕ, ◌≡◌, ◌+◌, List, [], ◌∷◌, ◌++◌, length, take, Option, None, Some, refl, sym, ap, ◌∙◌, subst, inl, inr, append-nil, append_assoc, length-append}
use Rattle.tool_run.proofs.AtOnce.{MayStopAtOnce}
use Rattle.tool_run.proofs.Begun.{front-all, front-take}
use Rattle.tool_records.proofs.WalksRead.{ReadsRecords-nothing}
use Rattle.bats_format.proofs.JoinedFiles.{packets_of-append}
use Rattle.bats_model.specs.Session.{SessionData}
use Rattle.bats_model.specs.PacketFile.{IsPacketFile, packets_of}
use Rattle.bats_model.specs.declared.packet.Packet.{Packet}
use Rattle.bats_model.specs.declared.item.Item.{Item}
use Rattle.tool_records.specs.Walk.{AreRecords}
use Rattle.tool_stream.specs.Show.{item_line, item_lines, lines_read, takes_all, AreLinesBegun, show_ending, show_promise}
use Rattle.tool_run.specs.Ending.{Ending}
use Rattle.tool_run.specs.Promise.{Keeps}
use Rattle.bats_model.specs.declared.read_end.ReadEnd.{ReadEnd}
use Rattle.tool_records.specs.Reading.{IsReading}

pub count-append : (list others : List Item) → length (packets_of (list ++ others)) ≡ length (packets_of list) + length (packets_of others)
count-append list others = ap (length {A = Packet}) (packets_of-append list others) ∙ length-append (packets_of list) (packets_of others)

pub item_lines-more : (session : SessionData) (list : List Item) (item : Item)
    → item_lines session list ++ item_line session item ≡ item_lines session (list ++ item ∷ [])
unfolding item_lines
item_lines-more session [] item = sym (append-nil (item_line session item))
item_lines-more session (first ∷ list) item =
    append_assoc (item_line session first) (item_lines session list) (item_line session item)
    ∙ ap (λ (x : List ℕ). item_line session first ++ x) (item_lines-more session list item)

-- no item has no line
pub no_lines : (session : SessionData) (list : List Item) → list ≡ [] → [] ≡ item_lines session list
unfolding item_lines
no_lines session [] e = refl
no_lines session (item ∷ list) e = cc

-- all of the lines so far
pub lines_begun : (known : Option SessionData) (front rest : List ℕ) (list : List Item) → AreRecords known list front
    → AreLinesBegun (front ++ rest) (lines_read known list)
lines_begun None front rest list records = inl refl
lines_begun (Some session) front rest list records = inr (record {
  session = session;
  list = list;
  before = front;
  after = rest;
  is_front = record { file = records; split = refl };
  front = front-all (item_lines session list);
})

-- a front of the lines of a file
pub lines_front : (session : SessionData) (front rest : List ℕ) (list : List Item) (count : ℕ) → IsPacketFile session list front
    → AreLinesBegun (front ++ rest) (take count (item_lines session list))
lines_front session front rest list count file = inr (record {
  session = session;
  list = list;
  before = front;
  after = rest;
  is_front = record { file = file; split = refl };
  front = front-take count (item_lines session list);
})

-- ---- the whole output of a right ending

pub whole_lines : (input : List ℕ) (session : Option SessionData) (list : List Item) (end : Option ReadEnd) → IsReading input session list end
    → AreLinesBegun input (show_ending session list end).output
whole_lines input None list None r = absurd r
whole_lines input None list (Some end) r = inl refl
whole_lines input (Some session) list None r = inr (record {
  session = session;
  list = list;
  before = input;
  after = [];
  is_front = record { file = r; split = sym (append-nil input) };
  front = front-all (item_lines session list);
})
whole_lines input (Some session) list (Some end) r = inr (record {
  session = session;
  list = list;
  before = r.front;
  after = r.rest;
  is_front = r.longest.is_front;
  front = front-all (item_lines session list);
})

pub show_promise-keeps : Keeps show_promise
show_promise-keeps = record {
  whole = λ input ending e.
      subst (λ (x : Ending). AreLinesBegun input x.output) (sym e.ending_is) (whole_lines input e.session e.list e.end e.reading);
}

-- it may stop before it has read anything
pub show_promise-at_once : MayStopAtOnce show_promise
show_promise-at_once = record { reads = λ left. ReadsRecords-nothing takes_all left; partly = λ input. inl refl }
