-- Pieces that are appended one after another.
use Rattle.std.proofs.Common.{◌≡◌, ℕ, ◌+◌, List, [], ◌++◌, length, take, drop, Option, Some, None, refl, sym, ◌∙◌, ap, append_assoc, arith, length-append}
use Rattle.std.proofs.lemmas.List.{append-nil, take_rest, take-append-le}
use Rattle.std.proofs.Math.Seq.{take-add, take-append-add}
use Rattle.bats_io.specs.Sink.{appended, Appends, AppendsPrefix}

pub appended-nil : (written : Option (List ℕ)) → appended written [] ≡ written
appended-nil None = refl
appended-nil (Some w) = ap Some (append-nil w)

pub appended-appended : (written : Option (List ℕ)) (first second : List ℕ) → appended (appended written first) second ≡ appended written (first ++ second)
appended-appended None first second = refl
appended-appended (Some w) first second = ap Some (append_assoc w first second)

-- the first `done` bytes, and then the n after them
pub appended-next : (written : Option (List ℕ)) (bytes : List ℕ) (done n : ℕ) → appended (appended written (take done bytes)) (take n (drop done bytes)) ≡ appended written (take (done + n) bytes)
appended-next written bytes done n =
    appended-appended written (take done bytes) (take n (drop done bytes))
    ∙ ap (appended written) (sym (take-add done n bytes))

-- ---- what a sink took, part after part

pub Appends-after : (old : Option (List ℕ)) {middle new : Option (List ℕ)} (first second : List ℕ)
    → Appends old middle first → Appends middle new second → Appends old new (first ++ second)
Appends-after old first second one two =
    two ∙ ap (λ written. appended written second) one ∙ appended-appended old first second

-- a prefix of the first part is one of the whole
pub AppendsPrefix-longer : {old new : Option (List ℕ)} {first : List ℕ} (second : List ℕ)
    → AppendsPrefix old new first → AppendsPrefix old new (first ++ second)
AppendsPrefix-longer {old} {new} {first} second part = record {
  count = part.count;
  within = simp length-append (omega (arith, part.within));
  front = part.front ∙ ap (appended old) (sym (take-append-le part.count first second part.within));
}

-- the first part, and a prefix of the second
pub AppendsPrefix-after : {old middle new : Option (List ℕ)} (first : List ℕ) {second : List ℕ}
    → Appends old middle first → AppendsPrefix middle new second → AppendsPrefix old new (first ++ second)
AppendsPrefix-after {old} {middle} {new} first {second} one part = record {
  count = length first + part.count;
  within = simp length-append (omega (arith, part.within));
  front = Appends-after old first (take part.count second) one part.front ∙ ap (appended old) (sym (take-append-add first second part.count));
}

-- what a loop needs that appends one piece after another
pub ruleset pieces = (appended-nil, appended-next, take_rest)
