-- What follows from a walk for other relations, and for what its taker has become.
use Rattle.std.proofs.Common.{List, ◌∷◌, ◌++◌, [], Option, None, Some, Result, Ok, Err, inl, inr}
use Rattle.bats_io.specs.Streams.{OutputState}
use Rattle.bats_model.specs.Session.{SessionData}
use Rattle.bats_model.specs.declared.item.Item.{Item}
use Rattle.tool_run.specs.declared.stop.Stop.{Stop}
use Rattle.tool_run.specs.Streams.{Ends}
use Rattle.tool_records.specs.declared.walking.Next.{Next}
use Rattle.tool_records.specs.declared.walking.Next.TheVariants as takes
use Rattle.tool_records.specs.declared.walking.WalkEnd.{WalkEnd}
use Rattle.tool_records.specs.declared.walking.WalkEnd.TheVariants as walks
use Rattle.tool_records.specs.Walk.{Gives, GivenSoFar, Walks, WalksAs, WalksToItem}
use Rattle.tool_records.proofs.WalksRead.{any_session}

-- one relation follows from another
abbrev pub Weakens : Gives → Gives → Type 0
Weakens gives gives' = (session : SessionData) (list : List Item) (start now : OutputState) (taken : Result Next Stop)
    → gives session list start now taken → gives' session list start now taken

given-map : (gives gives' : Gives) (known : Option SessionData) (list : List Item) (start now : OutputState) → Weakens gives gives'
    → GivenSoFar gives known list start now → GivenSoFar gives' known list start now
given-map gives gives' None list start now weakens h = λ session. weakens session list start now (Ok takes.GoesOn) (h session)
given-map gives gives' (Some session) list start now weakens h = weakens session list start now (Ok takes.GoesOn) h

item-map : (gives gives' : Gives) (start now : Ends) (taken : Result Next Stop) → Weakens gives gives'
    → WalksToItem gives start now taken → WalksToItem gives' start now taken
item-map gives gives' start now taken weakens w = record {
  session = w.session;
  list = w.list;
  item = w.item;
  reads = w.reads;
  no_fault = w.no_fault;
  given = weakens w.session (w.list ++ w.item ∷ []) start.output now.output taken w.given;
}

walks-map : (gives gives' : Gives) (start now : Ends) (result : Result WalkEnd Stop) → Weakens gives gives'
    → WalksAs gives start now result → WalksAs gives' start now result
walks-map gives gives' start now (Ok walks.Whole) weakens w = record {
  session = w.session;
  list = w.list;
  input = w.input;
  told = w.told;
  file = w.file;
  reads = w.reads;
  end = w.end;
  no_fault = w.no_fault;
  given = weakens w.session w.list start.output now.output (Ok takes.GoesOn) w.given;
}
walks-map gives gives' start now (Ok (walks.Refused end)) weakens w = record {
  session = w.session;
  list = w.list;
  input = w.input;
  told = w.told;
  reading = w.reading;
  of_input = w.of_input;
  reads = w.reads;
  no_fault = w.no_fault;
  given = given-map gives gives' w.session w.list start.output now.output weakens w.given;
}
walks-map gives gives' start now (Ok walks.Halted) weakens w = item-map gives gives' start now (Ok takes.Halts) weakens w
walks-map gives gives' start now (Err stop) weakens (inl w) = inl (item-map gives gives' start now (Err stop) weakens w)
walks-map gives gives' start now (Err stop) weakens (inr w) = inr (record {
  session = w.session;
  list = w.list;
  reads = w.reads;
  faults = w.faults;
  given = given-map gives gives' w.session w.list start.output now.output weakens w.given;
})

-- a walk of a taker is one for each weaker relation
pub Walks-map : (gives gives' : Gives) (start now : Ends) (result : Result WalkEnd Stop) → Weakens gives gives'
    → Walks gives start now result → Walks gives' start now result
Walks-map gives gives' start now result weakens w = record { as_far = walks-map gives gives' start now result weakens w.as_far }

given-holds : (gives : Gives) (P : Type 0) (known : Option SessionData) (list : List Item) (start now : OutputState)
    → ((session : SessionData) (list : List Item) (start now : OutputState) (taken : Result Next Stop) → gives session list start now taken → P)
    → GivenSoFar gives known list start now → P
given-holds gives P None list start now holds h = holds any_session list start now (Ok takes.GoesOn) (h any_session)
given-holds gives P (Some session) list start now holds h = holds session list start now (Ok takes.GoesOn) h

walks-hold : (gives : Gives) (P : Type 0) (start now : Ends) (result : Result WalkEnd Stop)
    → ((session : SessionData) (list : List Item) (start now : OutputState) (taken : Result Next Stop) → gives session list start now taken → P)
    → WalksAs gives start now result → P
walks-hold gives P start now (Ok walks.Whole) holds w = holds w.session w.list start.output now.output (Ok takes.GoesOn) w.given
walks-hold gives P start now (Ok (walks.Refused end)) holds w = given-holds gives P w.session w.list start.output now.output holds w.given
walks-hold gives P start now (Ok walks.Halted) holds w =
    holds w.session (w.list ++ w.item ∷ []) start.output now.output (Ok takes.Halts) w.given
walks-hold gives P start now (Err stop) holds (inl w) =
    holds w.session (w.list ++ w.item ∷ []) start.output now.output (Err stop) w.given
walks-hold gives P start now (Err stop) holds (inr w) = given-holds gives P w.session w.list start.output now.output holds w.given

-- what follows from the relation, whatever the items and the answer are, holds after the walk
pub Walks-holds : (gives : Gives) (P : Type 0) (start now : Ends) (result : Result WalkEnd Stop)
    → ((session : SessionData) (list : List Item) (start now : OutputState) (taken : Result Next Stop) → gives session list start now taken → P)
    → Walks gives start now result → P
Walks-holds gives P start now result holds w = walks-hold gives P start now result holds w.as_far
