-- The parts of a record.
use Rattle.std.proofs.Common.{◌≡◌, ℕ, List, ◌++◌, Result, Ok, Err, OnErr, codes, refl}
use Rattle.std.specs.Int.{w32, to_be_bytes}
use Rattle.bats_model.specs.Records.{packet_record}

-- what holds whatever the result is
pub on_err : {T E : Type 0} {P : Type 0} (r : Result T E) → P → OnErr r P
on_err (Ok x) p = tt
on_err (Err e) p = p

-- a packet's record by its parts
pub packet_record-parts : (batch : ℕ) (front coefs payload : List ℕ) → front ≡ codes "P" ++ to_be_bytes w32 batch
    → packet_record batch coefs payload ≡ front ++ coefs ++ payload
unfolding packet_record
packet_record-parts batch front coefs payload is = rw is refl
