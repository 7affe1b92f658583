-- All right answers to the same packets are alike.
use Rattle.std.proofs.Common.{ℕ, ◌≡◌, List, sym, ap, ◌∙◌, inl, inr}
use Rattle.std.proofs.lemmas.Bool.{cases_order}
use Rattle.bats_model.specs.Session.{SessionData}
use Rattle.bats_model.specs.Symbol.{symbol_byte}
use Rattle.bats_model.specs.RightAnswer.{IsRightAnswer, IsFirstOpen, AreAlike}
use Rattle.bats_model.specs.declared.packet.Packet.{Packet}
use Rattle.bats_model.specs.declared.answer.Answer.{Answer}
use Rattle.bats_model.specs.declared.answer.Answer.TheVariants.{File, Inconsistent, NeedMore}

pub same-open : (session : SessionData) (packets : List Packet) (s u : ℕ) (a b c d : List ℕ)
    → IsFirstOpen session packets s a b → IsFirstOpen session packets u c d → s ≡ u
same-open session packets s u a b c d h k = elim (cases_order s u) [
  | inl e ↦ e
  | inr (inl l) ↦ absurd (h.differ (k.same_below a b h.first_agrees h.second_agrees s l))
  | inr (inr l) ↦ absurd (k.differ (h.same_below c d k.first_agrees k.second_agrees u l))
]

pub AreAlike-right : (session : SessionData) (packets : List Packet) (one other : Answer)
    → IsRightAnswer session packets one → IsRightAnswer session packets other → AreAlike one other
AreAlike-right session packets (File f) (File g) h k = k.only f h.agrees
AreAlike-right session packets (File f) Inconsistent h k = k.none f h.agrees
AreAlike-right session packets (File f) (NeedMore s a b) h k =
    let same : a ≡ b = h.only a k.first_agrees ∙ sym (h.only b k.second_agrees) in
    k.differ (λ c l. ap (λ (x : List ℕ). symbol_byte session x s c) same)
AreAlike-right session packets Inconsistent (File g) h k = h.none g k.agrees
AreAlike-right session packets Inconsistent Inconsistent h k = tt
AreAlike-right session packets Inconsistent (NeedMore s a b) h k = h.none a k.first_agrees
AreAlike-right session packets (NeedMore s a b) (File g) h k =
    let same : a ≡ b = k.only a h.first_agrees ∙ sym (k.only b h.second_agrees) in
    h.differ (λ c l. ap (λ (x : List ℕ). symbol_byte session x s c) same)
AreAlike-right session packets (NeedMore s a b) Inconsistent h k = k.none a h.first_agrees
AreAlike-right session packets (NeedMore s a b) (NeedMore u c d) h k = same-open session packets s u a b c d h k
