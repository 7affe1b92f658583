-- The endings that an input allows: those of `sink` agree but for the two files of need-more, and `check` has one.
use Rattle.std.proofs.Common.{ℕ, ◌≡◌, ◌⊎◌, ◌∙◌, inl, inr, sym, ap, refl, subst, Bool, List, length}
use Rattle.std.specs.Prelude.{codes}
use Rattle.bats_model.specs.Session.{SessionData}
use Rattle.bats_model.specs.Kept.{kept_count, AreHeld}
use Rattle.bats_model.specs.PacketFile.{packets_of}
use Rattle.bats_model.specs.Peeling.{IsInactiveList}
use Rattle.bats_model.specs.RightAnswer.{IsRightAnswer, AreAlike}
use Rattle.bats_model.specs.declared.packet.Packet.{Packet}
use Rattle.bats_model.specs.declared.item.Item.{Item}
use Rattle.bats_model.specs.declared.answer.Answer.{Answer}
use Rattle.bats_model.specs.declared.answer.Answer.TheVariants.{File, Inconsistent, NeedMore}
use Rattle.bats_model.proofs.RightAnswers.{AreAlike-right}
use Rattle.bats_format.proofs.PacketFiles.{same_file}
use Rattle.bats_peel.proofs.InactiveLists.{no_other_list}
use Rattle.tool_run.specs.declared.status.Status.TheVariants as statuses
use Rattle.tool_run.specs.Ending.{Ending}
use Rattle.tool_sink.specs.Answers.{answer_line, answer_status}
use Rattle.tool_sink.specs.Sink.{SinkAnswers, IsSinkEnding, answer_ending}
use Rattle.tool_sink.specs.Check.{CheckTells, IsCheckEnding, answer_text, check_ending}
use Rattle.bats_model.proofs.RisingNumbers.{one_held}
use Rattle.tool_records.proofs.KeptEndings.{no_stop, one_stop}

-- ---- answers that are alike

pub alike_lines : (name : List ℕ) (packets kept inactive : ℕ) (answer other : Answer) → AreAlike answer other
    → answer_line name packets kept inactive answer ≡ answer_line name packets kept inactive other
alike_lines name packets kept inactive (File f) (File g) e = ap (λ (x : List ℕ). answer_line name packets kept inactive (File x)) e
alike_lines name packets kept inactive Inconsistent Inconsistent h = refl
alike_lines name packets kept inactive (NeedMore s a b) (NeedMore u c d) e =
    ap (λ (x : ℕ). answer_line name packets kept inactive (NeedMore x c d)) e
alike_lines name packets kept inactive (File f) Inconsistent h = absurd h
alike_lines name packets kept inactive (File f) (NeedMore s a b) h = absurd h
alike_lines name packets kept inactive Inconsistent (File g) h = absurd h
alike_lines name packets kept inactive Inconsistent (NeedMore s a b) h = absurd h
alike_lines name packets kept inactive (NeedMore s a b) (File g) h = absurd h
alike_lines name packets kept inactive (NeedMore s a b) Inconsistent h = absurd h

pub alike_statuses : (answer other : Answer) → AreAlike answer other → answer_status answer ≡ answer_status other
alike_statuses (File f) (File g) e = refl
alike_statuses Inconsistent Inconsistent h = refl
alike_statuses (NeedMore s a b) (NeedMore u c d) e = refl
alike_statuses (File f) Inconsistent h = absurd h
alike_statuses (File f) (NeedMore s a b) h = absurd h
alike_statuses Inconsistent (File g) h = absurd h
alike_statuses Inconsistent (NeedMore s a b) h = absurd h
alike_statuses (NeedMore s a b) (File g) h = absurd h
alike_statuses (NeedMore s a b) Inconsistent h = absurd h

alike_texts : (answer other : Answer) → AreAlike answer other → answer_text answer ≡ answer_text other
alike_texts (File f) (File g) e = refl
alike_texts Inconsistent Inconsistent h = refl
alike_texts (NeedMore s a b) (NeedMore u c d) e = ap (λ (x : ℕ). answer_text (NeedMore x c d)) e
alike_texts (File f) Inconsistent h = absurd h
alike_texts (File f) (NeedMore s a b) h = absurd h
alike_texts Inconsistent (File g) h = absurd h
alike_texts Inconsistent (NeedMore s a b) h = absurd h
alike_texts (NeedMore s a b) (File g) h = absurd h
alike_texts (NeedMore s a b) Inconsistent h = absurd h

-- what is written by `sink` of them is one, but for need-more
pub alike_outputs : (both : Bool) (session : SessionData) (packets : List Packet) (inactive : ℕ) (answer other : Answer) → AreAlike answer other
    → ((answer_ending both session packets inactive answer).output ≡ (answer_ending both session packets inactive other).output)
    ⊎ (answer_status answer ≡ statuses.NeedMore)
alike_outputs both session packets inactive (File f) (File g) e = inl e
alike_outputs both session packets inactive Inconsistent Inconsistent h = inl refl
alike_outputs both session packets inactive (NeedMore s a b) (NeedMore u c d) e = inr refl
alike_outputs both session packets inactive (File f) Inconsistent h = absurd h
alike_outputs both session packets inactive (File f) (NeedMore s a b) h = absurd h
alike_outputs both session packets inactive Inconsistent (File g) h = absurd h
alike_outputs both session packets inactive Inconsistent (NeedMore s a b) h = absurd h
alike_outputs both session packets inactive (NeedMore s a b) (File g) h = absurd h
alike_outputs both session packets inactive (NeedMore s a b) Inconsistent h = absurd h

-- right answers to the packets of one input are alike
alike : (input : List ℕ) (session other : SessionData) (list others : List Item) (answer last : Answer) → session ≡ other → list ≡ others
    → IsRightAnswer session (packets_of list) answer → IsRightAnswer other (packets_of others) last → AreAlike answer last
alike input session other list others answer last same all right k =
    AreAlike-right session (packets_of list) answer last right
    (subst (λ (x : SessionData). IsRightAnswer x (packets_of list) last) (sym same)
    (subst (λ (x : List Item). IsRightAnswer other (packets_of x) last) (sym all) k))

-- the inactive lists of packets are as long
one_inactive : (session other : SessionData) (list others : List Item) (inactive last : List ℕ) → session ≡ other → list ≡ others
    → IsInactiveList session (packets_of list) inactive → IsInactiveList other (packets_of others) last → length inactive ≡ length last
one_inactive session other list others inactive last same all h k =
    let both : IsInactiveList session (packets_of list) last =
    subst (λ (x : SessionData). IsInactiveList x (packets_of list) last) (sym same)
    (subst (λ (x : List Item). IsInactiveList other (packets_of x) last) (sym all) k) in
    ap length (no_other_list session (packets_of list) inactive last h both)

-- ---- `sink`

-- both endings have one status, one notes line, one reach and one bound on the work, and one output, but for need-more
abbrev pub Agree : Ending → Ending → Type 0
Agree ending other = (ending.status ≡ other.status) × (ending.line ≡ other.line) × (ending.reach ≡ other.reach)
    × (ending.work ≡ other.work) × ((ending.output ≡ other.output) ⊎ (ending.status ≡ statuses.NeedMore))

pub Agree-same : (ending other : Ending) → ending ≡ other → Agree ending other
Agree-same ending other e = (
  ap (λ (x : Ending). x.status) e,
  ap (λ (x : Ending). x.line) e,
  ap (λ (x : Ending). x.reach) e,
  ap (λ (x : Ending). x.work) e,
  inl (ap (λ (x : Ending). x.output) e),
)

Agree-alike : (both : Bool) (session : SessionData) (packets : List Packet) (inactive : ℕ) (answer other : Answer) → AreAlike answer other
    → Agree (answer_ending both session packets inactive answer) (answer_ending both session packets inactive other)
Agree-alike both session packets inactive answer other h = (
  alike_statuses answer other h,
  alike_lines (codes "sink") (length packets) (kept_count packets) inactive answer other h,
  refl,
  refl,
  alike_outputs both session packets inactive answer other h,
)

Agree-answers : (both : Bool) (input : List ℕ) (ending other : Ending) → SinkAnswers both input ending → SinkAnswers both input other
    → Agree ending other
Agree-answers both input ending other h k =
    let same = same_file h.session k.session h.list k.list input h.file k.file in
    let both_alike = alike input h.session k.session h.list k.list h.answer k.answer same.0 same.1 h.right k.right in
    let long = one_inactive h.session k.session h.list k.list h.inactive k.inactive same.0 same.1 h.is_inactive k.is_inactive in
    let two : other ≡ answer_ending both h.session (packets_of h.list) (length h.inactive) k.answer =
    k.ending_is ∙ ap (λ (n : ℕ). answer_ending both k.session (packets_of k.list) n k.answer) (sym long)
    ∙ ap (λ (x : List Item). answer_ending both k.session (packets_of x) (length h.inactive) k.answer) (sym same.1)
    ∙ ap (λ (x : SessionData). answer_ending both x (packets_of h.list) (length h.inactive) k.answer) (sym same.0) in
    subst (λ (x : Ending). Agree x other) (sym h.ending_is)
    (subst (λ (x : Ending). Agree (answer_ending both h.session (packets_of h.list) (length h.inactive) h.answer) x) (sym two)
    (Agree-alike both h.session (packets_of h.list) (length h.inactive) h.answer k.answer both_alike))

pub one_sink : (both : Bool) (input : List ℕ) (ending other : Ending) → IsSinkEnding both input ending → IsSinkEnding both input other
    → Agree ending other
one_sink both input ending other (inl h) (inl k) = Agree-answers both input ending other h k
one_sink both input ending other (inl h) (inr k) = absurd (no_stop input h.session h.list other h.file h.few k)
one_sink both input ending other (inr h) (inl k) = absurd (no_stop input k.session k.list ending k.file k.few h)
one_sink both input ending other (inr h) (inr k) = Agree-same ending other (one_stop input ending other h k)

-- ---- `check`

alike_checks : (session : SessionData) (packets : List Packet) (numbers : List ℕ) (inactive : ℕ) (answer other : Answer) → AreAlike answer other
    → check_ending session packets numbers inactive answer ≡ check_ending session packets numbers inactive other
alike_checks session packets numbers inactive answer other h =
    cc (
      alike_statuses answer other h,
      alike_texts answer other h,
      alike_lines (codes "check") (length packets) (kept_count packets) inactive answer other h,
    )

one_told : (input : List ℕ) (ending other : Ending) → CheckTells input ending → CheckTells input other → ending ≡ other
one_told input ending other h k =
    let same = same_file h.session k.session h.list k.list input h.file k.file in
    let both_alike = alike input h.session k.session h.list k.list h.answer k.answer same.0 same.1 h.right k.right in
    let held : AreHeld (packets_of h.list) k.numbers =
    subst (λ (x : List Item). AreHeld (packets_of x) k.numbers) (sym same.1) k.held in
    let numbers = one_held (packets_of h.list) h.numbers k.numbers h.held held in
    let long = one_inactive h.session k.session h.list k.list h.inactive k.inactive same.0 same.1 h.is_inactive k.is_inactive in
    h.ending_is
    ∙ alike_checks h.session (packets_of h.list) h.numbers (length h.inactive) h.answer k.answer both_alike
    ∙ ap (λ (x : SessionData). check_ending x (packets_of h.list) h.numbers (length h.inactive) k.answer) same.0
    ∙ ap (λ (x : List Item). check_ending k.session (packets_of x) h.numbers (length h.inactive) k.answer) same.1
    ∙ ap (λ (x : List ℕ). check_ending k.session (packets_of k.list) x (length h.inactive) k.answer) numbers
    ∙ ap (λ (n : ℕ). check_ending k.session (packets_of k.list) k.numbers n k.answer) long
    ∙ sym k.ending_is

pub one_check : (input : List ℕ) (ending other : Ending) → IsCheckEnding input ending → IsCheckEnding input other → ending ≡ other
one_check input ending other (inl h) (inl k) = one_told input ending other h k
one_check input ending other (inl h) (inr k) = absurd (no_stop input h.session h.list other h.file h.few k)
one_check input ending other (inr h) (inl k) = absurd (no_stop input k.session k.list ending k.file k.few h)
one_check input ending other (inr h) (inr k) = one_stop input ending other h k

-- ---- both

as_sink : (input : List ℕ) (both : Bool) (ending other : Ending) → CheckTells input ending → SinkAnswers both input other
    → (ending.status ≡ other.status) × (ending.reach ≡ other.reach)
as_sink input both ending other h k =
    let same = same_file h.session k.session h.list k.list input h.file k.file in
    let both_alike = alike input h.session k.session h.list k.list h.answer k.answer same.0 same.1 h.right k.right in (
      ap (λ (x : Ending). x.status) h.ending_is ∙ alike_statuses h.answer k.answer both_alike ∙ sym (ap (λ (x : Ending). x.status) k.ending_is),
      ap (λ (x : Ending). x.reach) h.ending_is ∙ sym (ap (λ (x : Ending). x.reach) k.ending_is),
    )

pub check_as_sink : (both : Bool) (input : List ℕ) (ending other : Ending) → IsCheckEnding input ending → IsSinkEnding both input other
    → (ending.status ≡ other.status) × (ending.reach ≡ other.reach)
check_as_sink both input ending other (inl h) (inl k) = as_sink input both ending other h k
check_as_sink both input ending other (inl h) (inr k) = absurd (no_stop input h.session h.list other h.file h.few k)
check_as_sink both input ending other (inr h) (inl k) = absurd (no_stop input k.session k.list ending k.file k.few h)
check_as_sink both input ending other (inr h) (inr k) =
    let same = one_stop input ending other h k in (ap (λ (x : Ending). x.status) same, ap (λ (x : Ending). x.reach) same)
