-- The records of a pool, one after another.
use Rattle.std.proofs.Common.{ℕ, ◌≡◌, ◌∙◌, ◌+◌, ◌<◌, ap, sym, List, [], ◌∷◌, ◌++◌, length, take, drop, flat_map, None, Some, Result, append-nil}
use Rattle.std.specs.Result.{IsErrAnd, result_err}
use Rattle.std.proofs.lemmas.Grind.{flat_map-append}
use Rattle.std.proofs.lemmas.List.{take_more, take-append-drop}
use Rattle.bats_io.specs.Streams.{OutputState}
use Rattle.bats_world.specs.World.{made_at, no_made}
use Rattle.bats_world.specs.declared.made.Made.{Made}
use Rattle.tool_run.specs.declared.stop.Stop.{Stop}
use Rattle.tool_run.specs.Writes.{Writes}
use Rattle.tool_run.proofs.Writing.{Writes-after, Writes-exit, Writes-same}
use Rattle.tool_replay.specs.Replay.{pool_record}

-- the records of the first packets
abbrev pub first_records : List Made → ℕ → List ℕ
first_records pool count = flat_map pool_record (take count pool)

records_more : (pool : List Made) (i : ℕ) → i < length pool → first_records pool (i + 1) ≡ first_records pool i ++ pool_record (made_at pool i)
records_more pool i within =
    ap (flat_map pool_record) (take_more pool i no_made within)
    ∙ flat_map-append pool_record (take i pool) (made_at pool i ∷ [])
    ∙ ap (λ (last : List ℕ). first_records pool i ++ last) (append-nil (pool_record (made_at pool i)))

records_split : (pool : List Made) (i : ℕ) → flat_map pool_record pool ≡ first_records pool i ++ flat_map pool_record (drop i pool)
records_split pool i =
    ap (flat_map pool_record) (sym (take-append-drop i pool)) ∙ flat_map-append pool_record (take i pool) (drop i pool)

-- a further record was written
pub Writes-record : {a b c : OutputState} (pool : List Made) (i : ℕ) → i < length pool → Writes a b (first_records pool i) None
    → Writes b c (pool_record (made_at pool i)) None → Writes a c (first_records pool (i + 1)) None
Writes-record pool i within p q = Writes-same (records_more pool i within) (Writes-after p q)

-- it could not be written, and a `?` passes on why
pub Writes-no_record : {T : Type 0} {a b c : OutputState} {e : Stop} (pool : List Made) (i : ℕ) (r : Result T Stop) → i < length pool
    → IsErrAnd r (λ y. y ≡ e) → Writes a b (first_records pool i) None → Writes b c (pool_record (made_at pool i)) (Some e)
    → Writes a c (flat_map pool_record pool) (result_err r)
Writes-no_record pool i r within failed p q =
    Writes-exit r (flat_map pool_record (drop (i + 1) pool))
    (records_split pool (i + 1) ∙ ap (λ (front : List ℕ). front ++ flat_map pool_record (drop (i + 1) pool)) (records_more pool i within))
    failed (Writes-after p q)
