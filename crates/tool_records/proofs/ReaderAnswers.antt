-- What the answers of a reader say.
use Rattle.std.proofs.Common.{ℕ, ◌≡◌, ◌∙◌, List, [], ◌++◌, Option, None, Some, Ok, sym, subst}
use Rattle.bats_io.specs.Streams.{InputState, IsRead, IsEnded}
use Rattle.bats_model.specs.declared.item.Item.{Item}
use Rattle.bats_format.specs.Reader.{ReaderData, Nexts, GivesItem, GivesEnd}

-- the answer of a reader, by its case
pub item_of : {y z : InputState} {reader reader' : ReaderData} {answer : Option Item} {item : Item} → answer ≡ Some item
    → Nexts y z reader reader' (Ok answer) → GivesItem y z reader reader' item
item_of {y} {z} {reader} {reader'} e n = subst (λ (o : Option Item). Nexts y z reader reader' (Ok o)) e n

pub end_of : {y z : InputState} {reader reader' : ReaderData} {answer : Option Item} → answer ≡ None
    → Nexts y z reader reader' (Ok answer) → GivesEnd y z reader reader'
end_of {y} {z} {reader} {reader'} e n = subst (λ (o : Option Item). Nexts y z reader reader' (Ok o)) e n

-- an input that had ended has ended where nothing was read
ended_list : (left rest : List ℕ) → left ≡ [] → left ≡ [] ++ rest → rest ≡ []
ended_list left rest e f = sym f ∙ e

ended_same : (b : Option (List ℕ)) (rest : List ℕ) → b ≡ Some rest → rest ≡ [] → IsEnded b
ended_same None rest e f = tt
ended_same (Some bytes) rest e f = cc

pub still_ended : (a b : Option (List ℕ)) → IsEnded a → IsRead a b [] → IsEnded b
still_ended None None h r = tt
still_ended None (Some bytes) h r = cc
still_ended (Some left) b h r = ended_same b r.0 r.1 (ended_list left r.0 h r.2)
