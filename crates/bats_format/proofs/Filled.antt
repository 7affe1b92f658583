-- Buffers that are filled, one after another.
use Rattle.std.proofs.Common.{◌≡◌, ℕ, ◌+◌, ◌<◌, ◌≤◌, List, [], ◌++◌, length, take, Option, None, Some, Result, Ok, Err, refl, sym, ap, subst, ◌∙◌, arith, length-append, length-take}
use Rattle.std.proofs.lemmas.List.{take-append-le}
use Rattle.std.proofs.Math.Seq.{take-append-add}
use Rattle.std.specs.Result.{IsErr, IsErrAnd}
use Rattle.std.proofs.lemmas.Result.{err_from_is_err_and}
use Rattle.bats_io.specs.Faults.{Rose}
use Rattle.bats_io.specs.Streams.{InputState, IsTold, IsRead, IsEnded}
use Rattle.bats_io.proofs.ReadLemmas.{IsRead-after, IsTold-after, IsTold-read}
use Rattle.bats_io.specs.declared.failed.Failed.{Failed}
use Rattle.bats_model.specs.declared.read_end.ReadEnd.{ReadEnd}
use Rattle.bats_model.specs.declared.read_end.ReadEnd.TheVariants as ends
use Rattle.bats_format.specs.Filling.{IsFilled, ReadsFewer, FailsWithin, Fills, IsPart, EndsWithin, PartIsFilled, FillsPart}

-- ---- the loop of a filling

-- the first bytes stay, and others come after them
pub take-filled : (count got : ℕ) (old new post : List ℕ) → count ≤ length old → got ≤ length new
    → take (count + got) (take count old ++ (new ++ post)) ≡ take count old ++ take got new
take-filled count got old new post h k =
    let size : length (take count old) ≡ count = omega (arith, length-take count old) in
    ap (λ (n : ℕ). take (n + got) (take count old ++ (new ++ post))) (sym size)
    ∙ take-append-add (take count old) (new ++ post) got
    ∙ ap (λ (bytes : List ℕ). take count old ++ bytes) (take-append-le got new post k)

pub IsRead-filled : (a b c : Option (List ℕ)) (count got : ℕ) (old new post : List ℕ) → count ≤ length old → got ≤ length new
    → IsRead a b (take count old) → IsRead b c (take got new) → IsRead a c (take (count + got) (take count old ++ (new ++ post)))
IsRead-filled a b c count got old new post h k p q =
    subst (λ (bytes : List ℕ). IsRead a c bytes) (sym (take-filled count got old new post h k))
    (IsRead-after a b c (take count old) (take got new) p q)

-- a read that failed took nothing more
pub FailsWithin-of : {before between after : InputState} (size count : ℕ) (old : List ℕ) → count < size → IsRead before.left between.left (take count old)
    → between.faults ≡ before.faults → after.left ≡ between.left → Rose between.faults after.faults → FailsWithin before after size
FailsWithin-of {before} {between} {after} size count old h p no_fault nothing fault = record {
  fault = subst (λ (n : ℕ). Rose n after.faults) no_fault fault;
  read = record {
    bytes = take count old;
    read = subst (λ (left : Option (List ℕ)). IsRead before.left left (take count old)) (sym nothing) p;
    within = omega (arith, length-take count old);
  };
}

pub Fills-exit : (before after : InputState) (buffer : List ℕ) (result : Result ℕ Failed) → IsErr result → FailsWithin before after (length buffer)
    → Fills before after buffer result
Fills-exit before after buffer (Ok count) h p = cc
Fills-exit before after buffer (Err failed) h p = p

-- ---- ends

-- the bytes that an input tells, or none where it tells nothing
abbrev pub left_of : Option (List ℕ) → List ℕ
left_of None = []
left_of (Some bytes) = bytes

IsTold-left_of : (a : Option (List ℕ)) → IsTold a (left_of a)
IsTold-left_of None = tt
IsTold-left_of (Some bytes) = refl

pub left_of-ended : (a : Option (List ℕ)) → IsEnded a → left_of a ≡ []
left_of-ended None h = refl
left_of-ended (Some bytes) h = h

-- what was read, and then what is left
pub IsTold-of : (a b : Option (List ℕ)) (bytes : List ℕ) → IsRead a b bytes → IsTold a (bytes ++ left_of b)
IsTold-of a b bytes p = IsTold-after a b bytes (left_of b) p (IsTold-left_of b)

-- ---- parts of a record

pub EndsWithin-of : (before after : InputState) (part : List ℕ) (count : ℕ) → IsFilled before after part count → count < length part
    → EndsWithin before after (length part)
EndsWithin-of before after part count f h = record {
  left = take count part;
  told = IsTold-read before.left after.left (take count part) f.read (f.end h);
  short = omega (arith, length-take count part);
  read = f.read;
  no_fault = f.no_fault;
}

pub FillsPart-cut : (before after : InputState) (offset : ℕ) (part : List ℕ) (count : ℕ) → IsFilled before after part count → count < length part
    → FillsPart before after offset part (Err (ends.Truncated offset))
FillsPart-cut before after offset part count f h = record { as_far = (refl, EndsWithin-of before after part count f h) }

-- fewer bytes than this, after some
ReadsFewer-after : (a b c : Option (List ℕ)) (bytes : List ℕ) (size more : ℕ) → length bytes + size ≤ more → IsRead a b bytes
    → ReadsFewer b c size → ReadsFewer a c more
ReadsFewer-after a b c bytes size more h p q = record {
  bytes = bytes ++ q.bytes;
  read = IsRead-after a b c bytes q.bytes p q.read;
  within = omega (arith, length-append bytes q.bytes, q.within);
}

FailsWithin-after : (before between after : InputState) (part : List ℕ) (size more : ℕ) → length part + size ≤ more → IsPart before between part
    → FailsWithin between after size → FailsWithin before after more
FailsWithin-after before between after part size more h p f = record {
  fault = subst (λ (n : ℕ). Rose n after.faults) p.no_fault f.fault;
  read = ReadsFewer-after before.left between.left after.left part size more h p.read f.read;
}

EndsWithin-after : (before between after : InputState) (part : List ℕ) (size more : ℕ) → length part + size ≤ more → IsPart before between part
    → EndsWithin between after size → EndsWithin before after more
EndsWithin-after before between after part size more h p e = record {
  left = part ++ e.left;
  told = IsTold-after before.left between.left part e.left p.read e.told;
  short = omega (arith, length-append part e.left, e.short);
  read = IsRead-after before.left between.left after.left part e.left p.read e.read;
  no_fault = e.no_fault ∙ p.no_fault;
}

later_part : (before between after : InputState) (offset : ℕ) (part more : List ℕ) (result : Result (Unit {0}) ReadEnd) → IsPart before between part
    → PartIsFilled between after offset more result → PartIsFilled before after offset (part ++ more) result
later_part before between after offset part more (Ok _) p q = record {
  read = IsRead-after before.left between.left after.left part more p.read q.read;
  no_fault = q.no_fault ∙ p.no_fault;
}
later_part before between after offset part more (Err ends.Memory) p q = q
later_part before between after offset part more (Err ends.ReadFault) p q =
    FailsWithin-after before between after part (length more) (length (part ++ more)) (omega (arith, length-append part more)) p q
later_part before between after offset part more (Err ends.NoHeader) p q = q
later_part before between after offset part more (Err (ends.BadHeader field)) p q = q
later_part before between after offset part more (Err (ends.BadTag at byte)) p q = q
later_part before between after offset part more (Err (ends.OtherSession at)) p q = q
later_part before between after offset part more (Err (ends.Truncated at)) p q =
    (q.0, EndsWithin-after before between after part (length more) (length (part ++ more)) (omega (arith, length-append part more)) p q.1)
later_part before between after offset part more (Err ends.TooManyRecords) p q = q

-- a part after one that was filled
pub FillsPart-after : {before between after : InputState} {offset : ℕ} {part more : List ℕ} {result : Result (Unit {0}) ReadEnd}
    → FillsPart before between offset part (Ok tt) → FillsPart between after offset more result → FillsPart before after offset (part ++ more) result
FillsPart-after {before} {between} {after} {offset} {part} {more} {result} p q =
    record { as_far = later_part before between after offset part more result p.as_far q.as_far }

longer_part : (before after : InputState) (offset : ℕ) (part more : List ℕ) (end : ReadEnd)
    → PartIsFilled before after offset part (Err end) → PartIsFilled before after offset (part ++ more) (Err end)
longer_part before after offset part more ends.ReadFault f = record {
  fault = f.fault;
  read = record { bytes = f.read.bytes; read = f.read.read; within = omega (arith, length-append part more, f.read.within) };
}
longer_part before after offset part more (ends.Truncated at) e = (
  e.0,
  record {
    left = e.1.left;
    told = e.1.told;
    short = omega (arith, length-append part more, e.1.short);
    read = e.1.read;
    no_fault = e.1.no_fault;
  },
)
longer_part before after offset part more ends.Memory e = e
longer_part before after offset part more ends.NoHeader e = e
longer_part before after offset part more (ends.BadHeader field) e = e
longer_part before after offset part more (ends.BadTag at byte) e = e
longer_part before after offset part more (ends.OtherSession at) e = e
longer_part before after offset part more ends.TooManyRecords e = e

-- where a part wasn't filled, neither was it and another
pub FillsPart-longer : {before after : InputState} {offset : ℕ} {part : List ℕ} {end : ReadEnd} (more : List ℕ) (result : Result (Unit {0}) ReadEnd)
    → IsErrAnd result (λ cause. cause ≡ end) → FillsPart before after offset part (Err end) → FillsPart before after offset (part ++ more) result
FillsPart-longer {before} {after} {offset} {part} {end} more result is p =
    let cause = err_from_is_err_and result is in
    let failed : result ≡ Err end = cause.1 ∙ ap Err cause.2 in
    subst (FillsPart before after offset (part ++ more)) (sym failed)
    (record { as_far = longer_part before after offset part more end p.as_far })
