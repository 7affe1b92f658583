-- An input is refused for one cause at one place, and no packet file is refused. What shows that a front is the
-- longest, and that there is none.
use Rattle.std.proofs.Common.{ℕ, ◌≡◌, ◌∙◌, inl, inr, sym, ap, List, [], ◌++◌, length, Option, Some, append-nil, arith}
use Rattle.std.proofs.lemmas.Bool.{cases_lt}
use Rattle.std.proofs.lemmas.List.{length-append, nil_from_length}
use Rattle.bats_model.specs.Session.{SessionData, IsSession}
use Rattle.bats_model.specs.Records.{header_record}
use Rattle.bats_model.specs.PacketFile.{IsPacketFile}
use Rattle.bats_model.specs.Refusal.{HasFront, HasLongestFront, RefusesHeader, RefusesRecord, IsRefused, header_refusal, first_refusal}
use Rattle.bats_model.specs.declared.item.Item.{Item}
use Rattle.bats_model.specs.declared.read_end.ReadEnd.{ReadEnd}
use Rattle.bats_format.proofs.PacketFiles.{NextRecord, file_begins, longer_front, same_files}

some_is : (o : Option ReadEnd) (end other : ReadEnd) → o ≡ Some end → o ≡ Some other → end ≡ other
some_is o end other h k = cc

-- a refusal of a later record has a front
has_front : (input : List ℕ) (session : SessionData) (list : List Item) (end other : ReadEnd) → RefusesHeader input end
    → RefusesRecord input session list other → ⊥
has_front input session list end other h k = h.none session list k.front k.rest k.longest.is_front

same_refusal : (input : List ℕ) (a b : SessionData) (list others : List Item) (end other : ReadEnd)
    → RefusesRecord input a list end → RefusesRecord input b others other → end ≡ other
same_refusal input a b list others end other h k =
    let f = h.longest.is_front in
    let g = k.longest.is_front in
    let over = h.longest.longest b others k.front k.rest g in
    let under = k.longest.longest a list h.front h.rest f in
    let same = same_files a b list others h.front h.rest k.front k.rest f.file g.file (sym f.split ∙ g.split) (omega arith) in
    some_is _ end other h.refusal
    (ap (λ (x : List ℕ). first_refusal (length x) (length list) h.rest) same.2
    ∙ ap (λ (x : List Item). first_refusal (length k.front) (length x) h.rest) same.1
    ∙ ap (λ (x : List ℕ). first_refusal (length k.front) (length others) x) same.3 ∙ k.refusal)

pub refused_once : (input : List ℕ) (end other : ReadEnd) → IsRefused input end → IsRefused input other → end ≡ other
refused_once input end other (inl h) (inl k) = some_is (header_refusal input) end other h.refusal k.refusal
refused_once input end other (inl h) (inr k) = absurd (has_front input k.0 k.1 end other h k.2)
refused_once input end other (inr h) (inl k) = absurd (has_front input h.0 h.1 other end k h.2)
refused_once input end other (inr h) (inr k) = same_refusal input h.0 k.0 h.1 k.1 end other h.2 k.2

whole_front : (session : SessionData) (list : List Item) (input : List ℕ) → IsPacketFile session list input → HasFront input session list input []
whole_front session list input h = record { file = h; split = sym (append-nil input) }

nothing_refused : (offset records : ℕ) (end : ReadEnd) → first_refusal offset records [] ≡ Some end → ⊥
unfolding first_refusal
nothing_refused offset records end e = cc

no_record_refused : (session other : SessionData) (list others : List Item) (input : List ℕ) (end : ReadEnd)
    → IsPacketFile session list input → RefusesRecord input other others end → ⊥
no_record_refused session other list others input end h k =
    let within = k.longest.longest session list input [] (whole_front session list input h) in
    let nothing : k.rest ≡ [] = nil_from_length k.rest (omega (arith, ap length k.longest.is_front.split, length-append k.front k.rest)) in
    nothing_refused (length k.front) (length others) end (ap (first_refusal (length k.front) (length others)) (sym nothing) ∙ k.refusal)

pub no_file_refused : (session : SessionData) (list : List Item) (input : List ℕ) (end : ReadEnd) → IsPacketFile session list input → IsRefused input end → ⊥
no_file_refused session list input end h (inl k) = k.none session list input [] (whole_front session list input h)
no_file_refused session list input end h (inr k) = no_record_refused session k.0 list k.1 input end h k.2

-- ---- for a reader

-- the input begins with the header record of a session
pub record BeginsAs (session : SessionData) (input : List ℕ) : Type 0 where
  pub is_session : IsSession session
  pub more : List ℕ
  pub split : input ≡ header_record session ++ more

-- an input with a packet file at its front begins with a header record, so an input that begins with none has no front
pub front_begins : (input : List ℕ) (session : SessionData) (list : List Item) (front rest : List ℕ)
    → HasFront input session list front rest → BeginsAs session input
front_begins input session list front rest h =
    let b = file_begins session list front rest h.file in
    record { is_session = h.file.is_session; more = b.0; split = h.split ∙ b.1 }

-- a front with no further record after it is the longest
pub longest_front : (input : List ℕ) (session : SessionData) (list : List Item) (front rest : List ℕ)
    → HasFront input session list front rest → (NextRecord session list front rest → ⊥)
    → HasLongestFront input session list front rest
longest_front input session list front rest h none = record {
  is_front = h;
  longest = λ other others begin after k. elim (cases_lt (length front) (length begin)) [
    | inl longer ↦ absurd (none (longer_front session other list others front rest begin after h.file k.file (sym h.split ∙ k.split) longer))
    | inr within ↦ within
  ];
}
