-- One read after another.
use Rattle.std.proofs.Common.{◌≡◌, ℕ, ◌+◌, ◌-◌, ◌≤◌, List, length, length-append, Option, None, Some, Result, Err, Vec, Global, sym, ◌∙◌, subst, arith}
use Rattle.std.specs.Result.{IsErrAnd}
use Rattle.std.proofs.lemmas.Result.{err_from_is_err_and}
use Rattle.bats_io.specs.Faults.{Rose}
use Rattle.tool_run.specs.declared.stop.Stop.{Stop}
use Rattle.tool_run.specs.declared.stop.Stop.TheVariants as stops
use Rattle.bats_io.specs.Streams.{InputState, IsRead}
use Rattle.bats_io.proofs.ReadLemmas.{told_or, ReadsAtMost-after}
use Rattle.tool_run.specs.Reads.{Reads, ReadsPiece}

-- an input is at least as long as what was read of it
pub length-told_or : (a b : Option (List ℕ)) (bytes : List ℕ) → IsRead a b bytes → length bytes ≤ length (told_or a bytes)
unfolding told_or
length-told_or None b bytes p = omega arith
length-told_or (Some told) b bytes p = rw p.2 (simp length-append (omega arith))

-- what a piece that could not be read leaves
as_far : (a b c : InputState) (most room : ℕ) (file file' : List ℕ) (e : Stop)
    → IsRead a.left b.left file → b.faults ≡ a.faults → length file ≤ most → room ≡ most + 1 - length file
    → ReadsPiece b c file file' room (Err e) → Reads a c most (Err e)
as_far a b c most room file file' stops.ReadFault p f h k q =
    record {
      fault = subst (λ (n : ℕ). Rose n c.faults) f q.fault;
      read = record { bytes = file; read = subst (λ (l : Option (List ℕ)). IsRead a.left l file) (sym q.nothing) p; within = h };
    }
as_far a b c most room file file' stops.Memory p f h k q =
    record { no_fault = q.no_fault ∙ f; read = ReadsAtMost-after a.left b.left c.left file room (most + 1) p q.read (omega arith) }
as_far a b c most room file file' stops.WriteFault p f h k q = q

-- what a `?` returns that passes that on
pub Reads-exit : (a b c : InputState) (most room : ℕ) (file file' : List ℕ) (e : Stop) (r : Result (Vec ℕ Global) Stop)
    → IsRead a.left b.left file → b.faults ≡ a.faults → length file ≤ most → room ≡ most + 1 - length file
    → ReadsPiece b c file file' room (Err e) → IsErrAnd r (λ y. y ≡ e) → Reads a c most r
Reads-exit a b c most room file file' e r p f h k q is =
    let w = err_from_is_err_and r is in
    subst (λ (s : Result (Vec ℕ Global) Stop). Reads a c most s) (sym w.1)
    (subst (λ (s : Stop). Reads a c most (Err s)) (sym w.2) (as_far a b c most room file file' e p f h k q))
