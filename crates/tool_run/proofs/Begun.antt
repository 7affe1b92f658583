-- Parts of the output of a right ending, and the promises that are built of them.
use Rattle.std.proofs.Common.{ℕ, ◌≡◌, List, [], take, drop, sym, inr, append-nil}
use Rattle.std.proofs.lemmas.List.{take-append-drop}
use Rattle.tool_run.specs.Ending.{Ending}
use Rattle.tool_run.specs.Promise.{IsBegun, IsFrontOf, Keeps, takes_no_input, reads_nothing, reads_file}

-- all that is written is a front of itself
pub front-all : (bytes : List ℕ) → IsFrontOf bytes bytes
front-all bytes = ([], sym (append-nil bytes))

-- so are its first bytes
pub front-take : (count : ℕ) (bytes : List ℕ) → IsFrontOf (take count bytes) bytes
front-take count bytes = (drop count bytes, sym (take-append-drop count bytes))

-- the whole output of a right ending
pub IsBegun-whole : (ends : List ℕ → Ending → Type 0) (input : List ℕ) (ending : Ending) → ends input ending → IsBegun ends input ending.output
IsBegun-whole ends input ending e = inr (record { ending = ending; is_ending = e; front = front-all ending.output })

-- the first bytes of it
pub IsBegun-front : (ends : List ℕ → Ending → Type 0) (input : List ℕ) (ending : Ending) (count : ℕ) → ends input ending
    → IsBegun ends input (take count ending.output)
IsBegun-front ends input ending count e = inr (record { ending = ending; is_ending = e; front = front-take count ending.output })

pub takes_no_input-keeps : (is_end : Ending → Type 0) → Keeps (takes_no_input is_end)
takes_no_input-keeps is_end = record { whole = λ input ending e. IsBegun-whole (λ input ending. is_end ending) input ending e }

pub reads_nothing-keeps : (end : Ending) → Keeps (reads_nothing end)
reads_nothing-keeps end = takes_no_input-keeps (λ ending. ending ≡ end)

pub reads_file-keeps : (most : ℕ) (end_of : List ℕ → Ending) → Keeps (reads_file most end_of)
reads_file-keeps most end_of = record { whole = λ input ending e. IsBegun-whole (λ input ending. ending ≡ end_of input) input ending e }
