-- One write after another.
use Rattle.std.proofs.Common.{◌≡◌, ℕ, ◌+◌, List, [], ◌++◌, length, take, Option, None, Some, Result, sym, ap, ◌∙◌, subst, refl, arith, length-append}
use Rattle.std.specs.Result.{IsErrAnd, result_err}
use Rattle.std.proofs.lemmas.Result.{err_from_is_err_and}
use Rattle.std.proofs.lemmas.List.{take-append-le}
use Rattle.std.proofs.Math.Seq.{take-append-add, take-append_seam}
use Rattle.bats_io.specs.Faults.{Rose}
use Rattle.bats_io.specs.Sink.{appended, Appends, AppendsPrefix}
use Rattle.bats_io.specs.Streams.{OutputState}
use Rattle.bats_io.proofs.Appended.{appended-appended, appended-nil}
use Rattle.tool_run.specs.declared.stop.Stop.{Stop}
use Rattle.tool_run.specs.declared.stop.Stop.TheVariants as stops
use Rattle.tool_run.specs.Writes.{Writes, AppendsAsFar}

pub Appends-after : (a b c : Option (List ℕ)) (xs ys : List ℕ) → Appends a b xs → Appends b c ys → Appends a c (xs ++ ys)
Appends-after a b c xs ys p q = q ∙ ap (λ w. appended w ys) p ∙ appended-appended a xs ys

take_front : (xs ys : List ℕ) → take (length xs) (xs ++ ys) ≡ xs
take_front xs ys = take-append_seam xs ys

AppendsPrefix-all : (a b : Option (List ℕ)) (xs ys : List ℕ) → Appends a b xs → AppendsPrefix a b (xs ++ ys)
AppendsPrefix-all a b xs ys p =
    record { count = length xs; within = simp length-append (omega arith); front = p ∙ ap (appended a) (sym (take_front xs ys)) }

AppendsPrefix-longer : (a b : Option (List ℕ)) (xs ys : List ℕ) → AppendsPrefix a b xs → AppendsPrefix a b (xs ++ ys)
AppendsPrefix-longer a b xs ys p =
    record { count = p.count; within = simp length-append (omega (arith, p.within)); front = p.front ∙ ap (appended a) (sym (take-append-le p.count xs ys p.within)) }

AppendsPrefix-after : (a b c : Option (List ℕ)) (xs ys : List ℕ) → Appends a b xs → AppendsPrefix b c ys → AppendsPrefix a c (xs ++ ys)
AppendsPrefix-after a b c xs ys p q =
    record {
      count = length xs + q.count;
      within = simp length-append (omega (arith, q.within));
      front = Appends-after a b c xs (take q.count ys) p q.front ∙ ap (appended a) (sym (take-append-add xs ys q.count));
    }

as_far-after : (a b c : OutputState) (xs ys : List ℕ) (r : Option Stop)
    → AppendsAsFar a b xs None → AppendsAsFar b c ys r → AppendsAsFar a c (xs ++ ys) r
as_far-after a b c xs ys None p q = (Appends-after a.written b.written c.written xs ys p.0 q.0, q.1 ∙ p.1)
as_far-after a b c xs ys (Some stops.WriteFault) p q =
    (AppendsPrefix-after a.written b.written c.written xs ys p.0 q.0, subst (λ (n : ℕ). Rose n c.faults) p.1 q.1)
as_far-after a b c xs ys (Some stops.Memory) p q =
    (AppendsPrefix-after a.written b.written c.written xs ys p.0 q.0, q.1 ∙ p.1)
as_far-after a b c xs ys (Some stops.ReadFault) p q = q

as_far-longer : (a b : OutputState) (xs ys : List ℕ) (e : Stop) → AppendsAsFar a b xs (Some e) → AppendsAsFar a b (xs ++ ys) (Some e)
as_far-longer a b xs ys stops.WriteFault p = (AppendsPrefix-longer a.written b.written xs ys p.0, p.1)
as_far-longer a b xs ys stops.Memory p = (AppendsPrefix-longer a.written b.written xs ys p.0, p.1)
as_far-longer a b xs ys stops.ReadFault p = p

-- nothing was written
pub Writes-nothing : (a : OutputState) → Writes a a [] None
Writes-nothing a = record { as_far = (sym (appended-nil a.written), refl) }

-- a write after one that succeeded
pub Writes-after : {a b c : OutputState} {xs ys : List ℕ} {r : Option Stop} → Writes a b xs None → Writes b c ys r → Writes a c (xs ++ ys) r
Writes-after {a} {b} {c} {xs} {ys} {r} p q = record { as_far = as_far-after a b c xs ys r p.as_far q.as_far }

-- the same bytes, written otherwise
pub Writes-same : {a b : OutputState} {xs ys : List ℕ} {r : Option Stop} → ys ≡ xs → Writes a b xs r → Writes a b ys r
Writes-same {a} {b} {xs} {ys} {r} e p = subst (λ (zs : List ℕ). Writes a b zs r) (sym e) p

-- what a `?` returns that passes on a failed write, of a call that was to write more
pub Writes-exit : {T : Type 0} {a b : OutputState} {whole xs : List ℕ} {e : Stop}
    → (r : Result T Stop) (rest : List ℕ) → whole ≡ xs ++ rest → IsErrAnd r (λ y. y ≡ e) → Writes a b xs (Some e) → Writes a b whole (result_err r)
Writes-exit {T} {a} {b} {whole} {xs} {e} r rest w h p =
    let q = err_from_is_err_and r h in
    subst (λ (all : List ℕ). Writes a b all (result_err r)) (sym w)
    (subst (λ (s : Result T Stop). Writes a b (xs ++ rest) (result_err s)) (sym q.1)
    (subst (λ (s : Stop). Writes a b (xs ++ rest) (Some s)) (sym q.2) (record { as_far = as_far-longer a b xs rest e p.as_far })))

-- what a `?` returns that passes on want of memory, of a call that was to write more
pub Writes-exit_memory : {T : Type 0} {a b : OutputState} {whole xs : List ℕ}
    → (r : Result T Stop) (rest : List ℕ) → whole ≡ xs ++ rest → IsErrAnd r (λ y. y ≡ stops.Memory) → Writes a b xs None → Writes a b whole (result_err r)
Writes-exit_memory {T} {a} {b} {whole} {xs} r rest w h p =
    let q = err_from_is_err_and r h in
    subst (λ (all : List ℕ). Writes a b all (result_err r)) (sym w)
    (subst (λ (s : Result T Stop). Writes a b (xs ++ rest) (result_err s)) (sym q.1)
    (subst (λ (s : Stop). Writes a b (xs ++ rest) (Some s)) (sym q.2)
    (record { as_far = (AppendsPrefix-all a.written b.written xs rest p.as_far.0, p.as_far.1) })))
