-- What an answer is where the file agrees with all that the sink was given.
use Rattle.std.proofs.Common.{ℕ, ◌≡◌, sym, subst, List, Result, Ok, Err, IfOk}
use Rattle.bats_model.specs.Session.{SessionData}
use Rattle.bats_model.specs.Agreement.{IsFile, AgreesWithAll}
use Rattle.bats_model.specs.RightAnswer.{IsRightAnswer}
use Rattle.bats_model.specs.declared.packet.Packet.{Packet}
use Rattle.bats_model.specs.declared.answer.Answer.{Answer}
use Rattle.bats_model.specs.declared.answer.Answer.TheVariants.{File, Inconsistent, NeedMore}
use Rattle.bats_world.specs.Standing.{IsHonestAnswer}

pub IfOk-map : {T E : Type 0} (r : Result T E) (P Q : T → Type 0) → ((x : T) → P x → Q x) → IfOk r P → IfOk r Q
IfOk-map (Ok x) P Q f h = f x h
IfOk-map (Err e) P Q f h = tt

pub honest-right : (session : SessionData) (packets : List Packet) (file : List ℕ) (answer : Answer) → AgreesWithAll session packets file
    → IsRightAnswer session packets answer → IsHonestAnswer file answer
honest-right session packets file (File found) agrees right = sym (right.only file agrees)
honest-right session packets file Inconsistent agrees right = right.none file agrees
honest-right session packets file (NeedMore at_symbol first second) agrees right = tt

pub IsFile-same : (session other : SessionData) (file same : List ℕ) → session ≡ other → file ≡ same → IsFile session file → IsFile other same
IsFile-same session other file same s f is = subst (λ (one : SessionData). IsFile one same) s (subst (IsFile session) f is)
