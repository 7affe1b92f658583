-- What a command promises of an input: how it ends, how far it reads, and what it may have written where it is cut short.
use Rattle.std.specs.Prelude.{ℕ, ◌≡◌, ◌⊎◌, List, [], ◌++◌, Option}
use Rattle.bats_io.specs.Streams.{ReadsAtMost}
use Rattle.tool_run.specs.Ending.{Ending}

-- What a command promises of an input. `ends` are the endings that are right for it, where memory is found and no read,
-- write or flush fails. `reads` is how far it is read, from what was left before to what is left after. `partly` is what a
-- run may have written that a failed write or want of memory cut short, and `partly_read` what a run has written whose
-- reading failed.
pub record Promise : Type 1 where
  pub ends : List ℕ → Ending → Type 0
  pub reads : Option (List ℕ) → Option (List ℕ) → Type 0
  pub partly : List ℕ → List ℕ → Type 0
  pub partly_read : Option (List ℕ) → Option (List ℕ) → List ℕ → Type 0

-- the bytes are the front of others
abbrev pub IsFrontOf : List ℕ → List ℕ → Type 0
IsFrontOf part whole = (rest : List ℕ) × (whole ≡ part ++ rest)

-- the bytes are a front of what a right ending writes
pub record IsFrontOfEnding (ends : List ℕ → Ending → Type 0) (input part : List ℕ) : Type 0 where
  pub ending : Ending
  pub is_ending : ends input ending
  pub front : IsFrontOf part ending.output

-- nothing was written, or a front of what a right ending writes
abbrev pub IsBegun : (List ℕ → Ending → Type 0) → List ℕ → List ℕ → Type 0
IsBegun ends input part = (part ≡ []) ⊎ IsFrontOfEnding ends input part

-- a command that reads nothing, and ends in one of these ways
abbrev pub takes_no_input : (Ending → Type 0) → Promise
takes_no_input is_end = record {
  ends = λ input ending. is_end ending;
  reads = λ before after. ReadsAtMost before after 0;
  partly = IsBegun (λ input ending. is_end ending);
  partly_read = λ before after part. ⊥;
}

-- a command that reads nothing, and always ends so
abbrev pub reads_nothing : Ending → Promise
reads_nothing end = takes_no_input (λ ending. ending ≡ end)

-- a command that reads at most so many bytes and then writes, and ends as the input says
abbrev pub reads_file : ℕ → (List ℕ → Ending) → Promise
reads_file most end_of = record {
  ends = λ input ending. ending ≡ end_of input;
  reads = λ before after. ReadsAtMost before after most;
  partly = IsBegun (λ input ending. ending ≡ end_of input);
  partly_read = λ before after part. part ≡ [];
}

-- what the run of a command rests on: the whole output of a right ending is a part of one, since its flush may fail
pub record Keeps (promise : Promise) : Type 0 where
  pub whole : (input : List ℕ) (ending : Ending) → promise.ends input ending → promise.partly input ending.output
