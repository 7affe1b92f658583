-- One read after another.
use Rattle.std.proofs.Common.{◌≡◌, ℕ, ◌+◌, ◌≤◌, List, [], ◌++◌, length, take, drop, Option, None, Some, refl, sym, ap, ◌∙◌, append_assoc, append-nil, length-append, arith}
use Rattle.std.proofs.lemmas.List.{take-append-drop}
use Rattle.bats_io.specs.Source.{Takes}
use Rattle.bats_io.specs.Streams.{IsTold, IsRead, IsEnded, ReadsAtMost}

pub IsRead-nothing : (a : Option (List ℕ)) → IsRead a a []
IsRead-nothing None = refl
IsRead-nothing (Some xs) = (xs, refl, refl)

-- bytes of a list that is told
told_after : (l : List ℕ) (b c : Option (List ℕ)) (xs ys : List ℕ) (rest : List ℕ) → b ≡ Some rest → l ≡ xs ++ rest → IsRead b c ys
    → IsRead (Some l) c (xs ++ ys)
told_after l None c xs ys rest e w q = cc
told_after l (Some m) c xs ys rest e w q =
    let same : m ≡ rest = cc in
    (q.0, q.1, w ∙ ap (λ (zs : List ℕ). xs ++ zs) (sym same ∙ q.2) ∙ sym (append_assoc xs ys q.0))

untold_after : (b c : Option (List ℕ)) (ys : List ℕ) → b ≡ None → IsRead b c ys → c ≡ None
untold_after None c ys e q = q
untold_after (Some m) c ys e q = cc

pub IsRead-after : (a b c : Option (List ℕ)) (xs ys : List ℕ) → IsRead a b xs → IsRead b c ys → IsRead a c (xs ++ ys)
IsRead-after None b c xs ys p q = untold_after b c ys p q
IsRead-after (Some l) b c xs ys p q = told_after l b c xs ys p.0 p.1 p.2 q

pub IsRead-takes : (a b : Option (List ℕ)) (n : ℕ) (buffer : List ℕ) → Takes a b n buffer → IsRead a b (take n buffer)
IsRead-takes None b n buffer t = t
IsRead-takes (Some l) b n buffer t =
    (drop n l, t.left, sym (ap (λ (xs : List ℕ). xs ++ drop n l) t.given ∙ take-append-drop n l))

-- at most so many bytes, after some
pub ReadsAtMost-after : (a b c : Option (List ℕ)) (xs : List ℕ) (room most : ℕ) → IsRead a b xs → ReadsAtMost b c room → length xs + room ≤ most
    → ReadsAtMost a c most
ReadsAtMost-after a b c xs room most p q h =
    record { bytes = xs ++ q.bytes; read = IsRead-after a b c xs q.bytes p q.read; within = simp length-append (omega (arith, q.within)) }

-- the bytes that an input tells, or these where it tells none
unfoldable pub told_or : Option (List ℕ) → List ℕ → List ℕ
told_or None bytes = bytes
told_or (Some told) bytes = told

pub IsTold-told_or : (left : Option (List ℕ)) (bytes : List ℕ) → IsTold left (told_or left bytes)
unfolding told_or
IsTold-told_or None bytes = tt
IsTold-told_or (Some told) bytes = refl

-- bytes that were read, and then those that the input still tells, are those that it told before
told_then : (l : List ℕ) (b : Option (List ℕ)) (xs ys : List ℕ) (rest : List ℕ) → b ≡ Some rest → l ≡ xs ++ rest → IsTold b ys → l ≡ xs ++ ys
told_then l None xs ys rest e w q = cc
told_then l (Some m) xs ys rest e w q =
    let same : m ≡ rest = cc in w ∙ ap (λ (zs : List ℕ). xs ++ zs) (sym same ∙ q)

pub IsTold-after : (a b : Option (List ℕ)) (xs ys : List ℕ) → IsRead a b xs → IsTold b ys → IsTold a (xs ++ ys)
IsTold-after None b xs ys p q = tt
IsTold-after (Some l) b xs ys p q = told_then l b xs ys p.0 p.1 p.2 q

-- where the input is at its end, what was read is what it told
ended_of : (left : Option (List ℕ)) (rest : List ℕ) → left ≡ Some rest → IsEnded left → rest ≡ []
ended_of None rest e h = cc
ended_of (Some bytes) rest e h = let same : bytes ≡ rest = cc in sym same ∙ h

pub IsTold-read : (a b : Option (List ℕ)) (bytes : List ℕ) → IsRead a b bytes → IsEnded b → IsTold a bytes
IsTold-read None b bytes p h = tt
IsTold-read (Some told) b bytes p h =
    p.2 ∙ ap (λ (rest : List ℕ). bytes ++ rest) (ended_of b p.0 p.1 h) ∙ append-nil bytes
