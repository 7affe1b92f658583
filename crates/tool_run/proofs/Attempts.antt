-- What a command has done, as its calls hand it on.
use Rattle.std.proofs.Common.{◌≡◌, Result, Err, sym, subst}
use Rattle.std.specs.Result.{IsErrAnd}
use Rattle.std.proofs.lemmas.Result.{err_from_is_err_and}
use Rattle.tool_run.specs.declared.finish.Finish.{Finish}
use Rattle.tool_run.specs.declared.stop.Stop.{Stop}
use Rattle.tool_run.specs.Streams.{Counters, Ends}
use Rattle.tool_run.specs.Promise.{Promise}
use Rattle.tool_run.specs.Attempt.{Attempts, AttemptsUncounted}

-- a `?` that passes on what stopped the run
pub Attempts-exit : (promise : Promise) (x z : Ends) (c d : Counters) (stop : Stop) (r : Result Finish Stop) → IsErrAnd r (λ y. y ≡ stop)
    → Attempts promise x z c d (Err stop) → Attempts promise x z c d r
Attempts-exit promise x z c d stop r is a =
    let w = err_from_is_err_and r is in
    subst (λ (q : Result Finish Stop). Attempts promise x z c d q) (sym w.1)
    (subst (λ (q : Stop). Attempts promise x z c d (Err q)) (sym w.2) a)

pub AttemptsUncounted-exit : (promise : Promise) (x z : Ends) (stop : Stop) (r : Result Finish Stop) → IsErrAnd r (λ y. y ≡ stop)
    → AttemptsUncounted promise x z (Err stop) → AttemptsUncounted promise x z r
AttemptsUncounted-exit promise x z stop r is a = λ c d. Attempts-exit promise x z c d stop r is (a c d)
