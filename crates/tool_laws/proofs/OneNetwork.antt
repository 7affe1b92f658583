-- The endings that a script allows, and those that a trial does: they are one, but for the two files of need-more.
use Rattle.std.proofs.Common.{ℕ, ◌≡◌, ◌<◌, ◌≤◌, ◌∙◌, inl, inr, sym, ap, refl, subst, Bool, true, false, List, length, Result, Ok, Err, arith}
use Rattle.std.specs.Prelude.{codes}
use Rattle.bats_model.specs.Kept.{kept_count}
use Rattle.bats_model.specs.Peeling.{IsInactiveList}
use Rattle.bats_model.specs.RightAnswer.{IsRightAnswer, AreAlike}
use Rattle.bats_model.specs.declared.answer.Answer.{Answer}
use Rattle.bats_model.specs.declared.answer.Answer.TheVariants.{File, Inconsistent, NeedMore}
use Rattle.bats_model.proofs.RightAnswers.{AreAlike-right}
use Rattle.bats_peel.proofs.InactiveLists.{no_other_list}
use Rattle.bats_script.specs.declared.script.Script.{Script}
use Rattle.bats_script.specs.declared.script_end.ScriptEnd.{ScriptEnd}
use Rattle.bats_world.specs.World.{NetworkState}
use Rattle.bats_words.specs.declared.trial_options.TrialOptions.{TrialOptions}
use Rattle.tool_run.specs.Ending.{Ending}
use Rattle.tool_replay.specs.Replay.{IsReplayEnding, IsOverlong, IsNoScript, HasObstacle, Obstacle, ReplayAnswers, PlaysTo, no_script_ending, played, played_ending, script_of_bytes, sink_packets, obstacle_ending}
use Rattle.tool_replay.specs.Trial.{IsTrialEnding, answer_words, sink_arrivals, trial_ending, trial_session}
use Rattle.tool_laws.proofs.OneAnswer.{Agree, Agree-same, alike_lines, alike_outputs, alike_statuses}

both_ok : {T E : Type 0} (r : Result T E) (x y : T) → r ≡ Ok x → r ≡ Ok y → x ≡ y
both_ok (Ok z) x y h k = cc (h, k)
both_ok (Err z) x y h k = cc

both_err : {T E : Type 0} (r : Result T E) (x y : E) → r ≡ Err x → r ≡ Err y → x ≡ y
both_err (Err z) x y h k = cc (h, k)
both_err (Ok z) x y h k = cc

ok_and_err : {T E : Type 0} (r : Result T E) (x : T) (y : E) → r ≡ Ok x → r ≡ Err y → ⊥
ok_and_err (Ok z) x y h k = cc
ok_and_err (Err z) x y h k = cc

-- ---- `trial`

alike_words : (answer other : Answer) → AreAlike answer other → answer_words answer ≡ answer_words other
alike_words (File f) (File g) e = refl
alike_words Inconsistent Inconsistent h = refl
alike_words (NeedMore s a b) (NeedMore u c d) e = ap (λ (x : ℕ). answer_words (NeedMore x c d)) e
alike_words (File f) Inconsistent h = absurd h
alike_words (File f) (NeedMore s a b) h = absurd h
alike_words Inconsistent (File g) h = absurd h
alike_words Inconsistent (NeedMore s a b) h = absurd h
alike_words (NeedMore s a b) (File g) h = absurd h
alike_words (NeedMore s a b) Inconsistent h = absurd h

alike_trials : (options : TrialOptions) (inactive : ℕ) (answer other : Answer) → AreAlike answer other
    → trial_ending options inactive answer ≡ trial_ending options inactive other
alike_trials options inactive answer other h = cc (alike_statuses answer other h, alike_words answer other h)

pub one_trial : (options : TrialOptions) (ending other : Ending) → IsTrialEnding options ending → IsTrialEnding options other
    → ending ≡ other
one_trial options ending other h k =
    let session = trial_session options in
    let both_alike = AreAlike-right session (sink_arrivals options) h.answer k.answer h.right k.right in
    let long : length h.inactive ≡ length k.inactive =
    ap length (no_other_list session (sink_arrivals options) h.inactive k.inactive h.is_inactive k.is_inactive) in
    h.ending_is ∙ alike_trials options (length h.inactive) h.answer k.answer both_alike
    ∙ ap (λ (n : ℕ). trial_ending options n k.answer) long ∙ sym k.ending_is

-- ---- `replay`

same_script : (input : List ℕ) (script other : Script) → script_of_bytes input ≡ Ok script → script_of_bytes input ≡ Ok other
    → script ≡ other
same_script input script other h k = both_ok (script_of_bytes input) script other h k

same_state : (input : List ℕ) (script other : Script) (state last : NetworkState) → PlaysTo input script state
    → PlaysTo input other last → state ≡ last
same_state input script other state last h k =
    both_ok (played other) state last
    (subst (λ (x : Script). played x ≡ Ok state) (same_script input script other h.is_read k.is_read) h.plays) k.plays

-- an ending of each script is that of the state that its events lead to
module _ (both pool : Bool) (input : List ℕ) (ending other : Ending) (h : ReplayAnswers both pool input ending)
    (k : ReplayAnswers both pool input other) where
  scripts : h.script ≡ k.script
  scripts = same_script input h.script k.script h.plays.is_read k.plays.is_read

  states : h.state ≡ k.state
  states = same_state input h.script k.script h.state k.state h.plays k.plays

  right : IsRightAnswer h.script.session (sink_packets h.state) k.answer
  right = subst (λ (x : Script). IsRightAnswer x.session (sink_packets h.state) k.answer) (sym scripts)
      (subst (λ (x : NetworkState). IsRightAnswer k.script.session (sink_packets x) k.answer) (sym states) k.right)

  pub both_alike : AreAlike h.answer k.answer
  both_alike = AreAlike-right h.script.session (sink_packets h.state) h.answer k.answer h.right right

  inactive : IsInactiveList h.script.session (sink_packets h.state) k.inactive
  inactive = subst (λ (x : Script). IsInactiveList x.session (sink_packets h.state) k.inactive) (sym scripts)
      (subst (λ (x : NetworkState). IsInactiveList k.script.session (sink_packets x) k.inactive) (sym states) k.is_inactive)

  long : length h.inactive ≡ length k.inactive
  long = ap length (no_other_list h.script.session (sink_packets h.state) h.inactive k.inactive h.is_inactive inactive)

  pub other_is : other ≡ played_ending both pool (length h.script.events) h.state (length h.inactive) k.answer
  other_is = k.ending_is
      ∙ ap (λ (n : ℕ). played_ending both pool (length k.script.events) k.state n k.answer) (sym long)
      ∙ ap (λ (x : NetworkState). played_ending both pool (length k.script.events) x (length h.inactive) k.answer) (sym states)
      ∙ ap (λ (x : Script). played_ending both pool (length x.events) h.state (length h.inactive) k.answer) (sym scripts)

Agree-played : (both : Bool) (events : ℕ) (state : NetworkState) (inactive : ℕ) (answer other : Answer) → AreAlike answer other
    → Agree (played_ending both false events state inactive answer) (played_ending both false events state inactive other)
Agree-played both events state inactive answer other h = (
  alike_statuses answer other h,
  alike_lines (codes "replay") (length (sink_packets state)) (kept_count (sink_packets state)) inactive answer other h,
  refl,
  refl,
  alike_outputs both state.session (sink_packets state) inactive answer other h,
)

alike_pools : (both : Bool) (events : ℕ) (state : NetworkState) (inactive : ℕ) (answer other : Answer) → AreAlike answer other
    → played_ending both true events state inactive answer ≡ played_ending both true events state inactive other
alike_pools both events state inactive answer other h = cc (
  alike_statuses answer other h,
  alike_lines (codes "replay") (length (sink_packets state)) (kept_count (sink_packets state)) inactive answer other h,
)

-- two endings of a text of which one is no answer are the same, and what holds of the same endings and of two answers holds of any two
by_cases : (both pool : Bool) (input : List ℕ) (ending other : Ending) (P : Ending → Ending → Type 0)
    → ((x y : Ending) → x ≡ y → P x y)
    → (ReplayAnswers both pool input ending → ReplayAnswers both pool input other → P ending other)
    → IsReplayEnding both pool input ending → IsReplayEnding both pool input other → P ending other
by_cases both pool input ending other P same two (inl h) (inl k) = same ending other (h.ending_is ∙ sym k.ending_is)
by_cases both pool input ending other P same two (inl h) (inr (inl k)) = absurd (omega (arith, h.long, k.short))
by_cases both pool input ending other P same two (inl h) (inr (inr (inl k))) = absurd (omega (arith, h.long, k.short))
by_cases both pool input ending other P same two (inl h) (inr (inr (inr k))) = absurd (omega (arith, h.long, k.plays.short))
by_cases both pool input ending other P same two (inr (inl h)) (inl k) = absurd (omega (arith, h.short, k.long))
by_cases both pool input ending other P same two (inr (inl h)) (inr (inl k)) =
    same ending other (h.ending_is ∙ ap no_script_ending (both_err (script_of_bytes input) h.end k.end h.is_read k.is_read) ∙ sym k.ending_is)
by_cases both pool input ending other P same two (inr (inl h)) (inr (inr (inl k))) =
    absurd (ok_and_err (script_of_bytes input) k.script h.end k.is_read h.is_read)
by_cases both pool input ending other P same two (inr (inl h)) (inr (inr (inr k))) =
    absurd (ok_and_err (script_of_bytes input) k.script h.end k.plays.is_read h.is_read)
by_cases both pool input ending other P same two (inr (inr (inl h))) (inl k) = absurd (omega (arith, h.short, k.long))
by_cases both pool input ending other P same two (inr (inr (inl h))) (inr (inl k)) =
    absurd (ok_and_err (script_of_bytes input) h.script k.end h.is_read k.is_read)
by_cases both pool input ending other P same two (inr (inr (inl h))) (inr (inr (inl k))) =
    let scripts = same_script input h.script k.script h.is_read k.is_read in
    let obstacles : h.obstacle ≡ k.obstacle = both_err (played k.script) h.obstacle k.obstacle
    (subst (λ (x : Script). played x ≡ Err h.obstacle) scripts h.is_met) k.is_met in
    same ending other (h.ending_is ∙ ap (λ (x : Obstacle). obstacle_ending x.number x.cause) obstacles ∙ sym k.ending_is)
by_cases both pool input ending other P same two (inr (inr (inl h))) (inr (inr (inr k))) =
    absurd (ok_and_err (played k.script) k.state h.obstacle k.plays.plays
    (subst (λ (x : Script). played x ≡ Err h.obstacle) (same_script input h.script k.script h.is_read k.plays.is_read) h.is_met))
by_cases both pool input ending other P same two (inr (inr (inr h))) (inl k) = absurd (omega (arith, h.plays.short, k.long))
by_cases both pool input ending other P same two (inr (inr (inr h))) (inr (inl k)) =
    absurd (ok_and_err (script_of_bytes input) h.script k.end h.plays.is_read k.is_read)
by_cases both pool input ending other P same two (inr (inr (inr h))) (inr (inr (inl k))) =
    absurd (ok_and_err (played h.script) h.state k.obstacle h.plays.plays
    (subst (λ (x : Script). played x ≡ Err k.obstacle) (same_script input k.script h.script k.is_read h.plays.is_read) k.is_met))
by_cases both pool input ending other P same two (inr (inr (inr h))) (inr (inr (inr k))) = two h k

pub one_replay : (both : Bool) (input : List ℕ) (ending other : Ending) → IsReplayEnding both false input ending
    → IsReplayEnding both false input other → Agree ending other
one_replay both input ending other =
    by_cases both false input ending other Agree Agree-same
    (λ h k. subst (λ (x : Ending). Agree x other) (sym h.ending_is)
    (subst (λ (x : Ending). Agree (played_ending both false (length h.script.events) h.state (length h.inactive) h.answer) x)
    (sym (other_is both false input ending other h k))
    (Agree-played both (length h.script.events) h.state (length h.inactive) h.answer k.answer
    (both_alike both false input ending other h k))))

pub one_pool : (both : Bool) (input : List ℕ) (ending other : Ending) → IsReplayEnding both true input ending
    → IsReplayEnding both true input other → ending ≡ other
one_pool both input ending other =
    by_cases both true input ending other (λ x y. x ≡ y) (λ x y e. e)
    (λ h k. h.ending_is
    ∙ alike_pools both (length h.script.events) h.state (length h.inactive) h.answer k.answer (both_alike both true input ending other h k)
    ∙ sym (other_is both true input ending other h k))
