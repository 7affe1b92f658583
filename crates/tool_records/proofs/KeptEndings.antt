-- Of the endings of a command that keeps packets: the ways to end where the input isn't taken whole exclude each other and
-- that it is.
use Rattle.std.proofs.Common.{ℕ, ◌≡◌, ◌≤◌, ◌∙◌, inl, inr, sym, ap, subst, List, [], ◌∷◌, ◌++◌, length, append-nil, arith}
use Rattle.std.proofs.lemmas.List.{length-append}
use Rattle.bats_model.specs.Session.{SessionData}
use Rattle.bats_model.specs.PacketFile.{IsPacketFile}
use Rattle.bats_model.specs.Refusal.{HasFront, RefusesRecord}
use Rattle.bats_model.specs.declared.item.Item.{Item}
use Rattle.bats_model.specs.declared.item.Item.TheVariants as items
use Rattle.bats_model.specs.declared.read_end.ReadEnd.{ReadEnd}
use Rattle.bats_format.proofs.PacketFiles.{further_items}
use Rattle.bats_format.proofs.Refusals.{refused_once, no_file_refused}
use Rattle.tool_run.specs.Ending.{Ending}
use Rattle.tool_records.specs.Keeping.{AreFew, RefusesAfterFew, PassesLimit, StopsKeeping}
use Rattle.tool_records.specs.Reading.{refusal_ending}
use Rattle.tool_records.proofs.KeptItems.{AreFew-before}
use Rattle.tool_records.proofs.RefusedReadings.{IsRefused-few}

-- ---- the ways to end exclude each other

-- few packets of a longer front leave no place for one that is too many
all_few : (input : List ℕ) (session : SessionData) (list : List Item) (front rest : List ℕ) (ending : Ending)
    → HasFront input session list front rest → AreFew list → (k : PassesLimit input ending)
    → length k.front ≤ length front → ⊥
all_few input session list front rest ending h few k l =
    let first : List Item = k.list ++ items.Packet k.at k.packet ∷ [] in
    let further = further_items k.session session first list k.front k.rest front rest
    k.is_front.file h.file (sym k.is_front.split ∙ h.split) l in
    k.full (AreFew-before first further.further (subst AreFew further.items few))

whole_passes : (input : List ℕ) (session : SessionData) (list : List Item) (ending : Ending) → IsPacketFile session list input
    → AreFew list → PassesLimit input ending → ⊥
whole_passes input session list ending file few k =
    let whole : HasFront input session list input [] = record { file = file; split = sym (append-nil input) } in
    all_few input session list input [] ending whole few k
    (omega (arith, ap length k.is_front.split, length-append k.front k.rest))

record_passes : (input : List ℕ) (session : SessionData) (list : List Item) (end : ReadEnd) (ending : Ending)
    → RefusesRecord input session list end → AreFew list → PassesLimit input ending → ⊥
record_passes input session list end ending h few k =
    all_few input session list h.front h.rest ending h.longest.is_front few k
    (h.longest.longest k.session (k.list ++ items.Packet k.at k.packet ∷ []) k.front k.rest k.is_front)

refusal_passes : (input : List ℕ) (ending other : Ending) → RefusesAfterFew input ending → PassesLimit input other → ⊥
refusal_passes input ending other h k =
    elim h.refused [
      | inl header ↦ header.none k.session (k.list ++ items.Packet k.at k.packet ∷ []) k.front k.rest k.is_front
      | inr after ↦ record_passes input after.0 after.1 h.end other after.2 after.3 k
    ]

-- an input that is a packet file of few packets is taken whole
pub no_stop : (input : List ℕ) (session : SessionData) (list : List Item) (ending : Ending) → IsPacketFile session list input
    → AreFew list → StopsKeeping input ending → ⊥
no_stop input session list ending file few (inl h) =
    no_file_refused session list input h.end file (IsRefused-few input ending h)
no_stop input session list ending file few (inr h) = whole_passes input session list ending file few h

one_refused : (input : List ℕ) (ending other : Ending) → RefusesAfterFew input ending → RefusesAfterFew input other → ending ≡ other
one_refused input ending other h k =
    let same = refused_once input h.end k.end (IsRefused-few input ending h) (IsRefused-few input other k) in
    h.ending_is ∙ ap (refusal_ending []) same ∙ sym k.ending_is

-- one that isn't has one ending
pub one_stop : (input : List ℕ) (ending other : Ending) → StopsKeeping input ending → StopsKeeping input other → ending ≡ other
one_stop input ending other (inl h) (inl k) = one_refused input ending other h k
one_stop input ending other (inl h) (inr k) = absurd (refusal_passes input ending other h k)
one_stop input ending other (inr h) (inl k) = absurd (refusal_passes input other ending k h)
one_stop input ending other (inr h) (inr k) = h.ending_is ∙ sym k.ending_is
