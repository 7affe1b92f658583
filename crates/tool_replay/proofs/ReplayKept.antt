-- What each run of `replay` rests on: what is promised of one that is cut short.
use Rattle.std.proofs.Common.{ℕ, ◌∙◌, Bool, true, false, List, [], sym, subst, refl, inl, inr, ap, arith}
use Rattle.bats_io.proofs.ReadLemmas.{IsRead-nothing}
use Rattle.tool_run.specs.Ending.{Ending}
use Rattle.tool_run.specs.Promise.{IsFrontOf, Keeps}
use Rattle.tool_run.proofs.AtOnce.{MayStopAtOnce}
use Rattle.tool_run.proofs.Begun.{front-all, IsBegun-whole}
use Rattle.tool_replay.specs.Replay.{IsReplayEnding, IsReplayPart, pool_output, replay_promise}
use Rattle.tool_replay.proofs.ReplayRefusals.{IsRefused-no_script, IsRefused-obstacle}

pub replay_promise-at_once : (both pool : Bool) → MayStopAtOnce (replay_promise both pool)
replay_promise-at_once both true = record {
  reads = λ left. record { bytes = []; read = IsRead-nothing left; within = omega arith };
  partly = λ input. inl refl;
}
replay_promise-at_once both false = record {
  reads = λ left. record { bytes = []; read = IsRead-nothing left; within = omega arith };
  partly = λ input. inl refl;
}

-- all that was written with the pool is a front of it
written_pool : (both : Bool) (input : List ℕ) (ending : Ending) → IsReplayEnding both true input ending
    → IsReplayPart both true input ending.output
written_pool both input ending (inl long) = inl (ap (λ (e : Ending). e.output) long.ending_is)
written_pool both input ending (inr (inl no_script)) =
    inl (ap (λ (e : Ending). e.output) no_script.ending_is ∙ (IsRefused-no_script no_script.end).output)
written_pool both input ending (inr (inr (inl met))) =
    inl (ap (λ (e : Ending). e.output) met.ending_is ∙ (IsRefused-obstacle met.obstacle.number met.obstacle.cause).output)
written_pool both input ending (inr (inr (inr answers))) =
    inr (record {
      script = answers.script;
      state = answers.state;
      plays = answers.plays;
      front = subst (λ (bytes : List ℕ). IsFrontOf bytes (pool_output answers.state))
          (sym (ap (λ (e : Ending). e.output) answers.ending_is)) (front-all (pool_output answers.state));
    })

pub replay_promise-keeps : (both pool : Bool) → Keeps (replay_promise both pool)
replay_promise-keeps both true = record { whole = written_pool both }
replay_promise-keeps both false = record { whole = IsBegun-whole (IsReplayEnding both false) }
