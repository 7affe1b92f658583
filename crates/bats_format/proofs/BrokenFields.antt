-- The first record of an input: a session's header record breaks no rule, and a header record that breaks none is a
-- session's.
use Rattle.std.proofs.Common.{ℕ, ◌+◌, ◌≡◌, ◌<◌, ◌≤◌, ◌∙◌, sym, ap, refl, subst, false, nat_lt, List, [], ◌∷◌, ◌++◌, length, take, drop, get_or, Option, Some, None, arith}
use Rattle.std.specs.Option.{option_map}
use Rattle.std.proofs.Math.Seq.{take-append_seam}
use Rattle.std.proofs.lemmas.Bool.Decides.{nat_tests}
use Rattle.std.proofs.lemmas.List.{length-append, length-take, length-drop, take-append-drop, get_or-append-add}
use Rattle.std.proofs.lemmas.List.Elements.{All-from_get_or}
use Rattle.bats_model.specs.Bytes.{AreBytes}
use Rattle.bats_model.specs.Session.{SessionData, IsSession}
use Rattle.bats_model.specs.Records.{header_record, header_tag}
use Rattle.bats_model.specs.Refusal.{HasFront, first_broken, header_refusal}
use Rattle.bats_model.specs.declared.item.Item.{Item}
use Rattle.bats_model.specs.declared.read_end.HeaderField.{HeaderField}
use Rattle.bats_model.specs.declared.read_end.ReadEnd.TheVariants as ends
use Rattle.bats_format.proofs.Headers.{KeepsRules, KeepsRules-from_none, session_of, header_record-of_bytes, none-from_record, passed, pass, small-take, small-drop}
use Rattle.bats_format.proofs.RecordLemmas.{length-header_record, header_record-begins, header_rest}
use Rattle.bats_format.proofs.Refusals.{BeginsAs, front_begins}

pub none_broken : (session : SessionData) → IsSession session → first_broken (header_record session) ≡ None
none_broken session h = none-from_record session (header_record session) h refl

-- ---- the session of a header that breaks no rule

-- each entry is a byte, where 0 stands for what is past the end
abbrev pub AreSmall : List ℕ → Type 0
AreSmall bytes = (i : ℕ) → get_or bytes i 0 < 256

pub AreSmall-rest : (front rest : List ℕ) → AreSmall (front ++ rest) → AreSmall rest
AreSmall-rest front rest small i =
    subst (λ (n : ℕ). n < 256) (get_or-append-add front rest i 0) (small (length front + i))

pub bytes-from_small : (bytes : List ℕ) → AreSmall bytes → AreBytes bytes
bytes-from_small bytes small = All-from_get_or (λ item. item < 256) bytes 0 (λ i within. small i)

IsSession-session_of : (bytes : List ℕ) → length bytes ≡ 32 → AreSmall bytes → KeepsRules bytes → IsSession (session_of bytes)
IsSession-session_of bytes count small keeps = record {
  m_low = keeps.m_low;
  m_high = keeps.m_high;
  t_low = keeps.t_low;
  t_high = keeps.t_high;
  table = let mode = keeps.mode in omega arith;
  symbols = keeps.symbols;
  seed = omega (arith, length-drop {A = ℕ});
  seed_bytes = bytes-from_small (drop 16 bytes) (small-drop 16 bytes small);
}

-- the input begins with the header record of some session
pub record HasHeader (input : List ℕ) : Type 0 where
  pub session : SessionData
  pub begins : BeginsAs session input

header-of_bytes : (input : List ℕ) → 32 ≤ length input → AreSmall input → first_broken (take 32 input) ≡ None → HasHeader input
header-of_bytes input long small none =
    let bytes : List ℕ = take 32 input in
    let count : length bytes ≡ 32 = omega (arith, length-take {A = ℕ}) in
    let keeps = KeepsRules-from_none bytes none in
    let same = header_record-of_bytes bytes count (small-take 32 input small) keeps in
    record {
      session = session_of bytes;
      begins = record {
        is_session = IsSession-session_of bytes count (small-take 32 input small) keeps;
        more = drop 32 input;
        split = sym (take-append-drop 32 input) ∙ ap (λ (x : List ℕ). x ++ drop 32 input) (sym same);
      };
    }

-- ---- why a first record is refused

unmapped : (field : Option HeaderField) → option_map (λ f. ends.BadHeader f) field ≡ None → field ≡ None
unmapped None none = refl
unmapped (Some f) none = cc

long-test : (n : ℕ) → nat_lt n 32 ≡ false → 32 ≤ n
long-test n h = grind (arith, nat_tests)

-- an input whose first record isn't refused begins with a session's header
pub header-from_none : (input : List ℕ) → AreSmall input → header_refusal input ≡ None → HasHeader input
unfolding header_refusal
header-from_none [] small none = cc
header-from_none (tag ∷ bytes) small none =
    let tagged = passed _ _ _ none in
    let long = passed _ _ _ tagged.1 in
    header-of_bytes (tag ∷ bytes) (long-test (length (tag ∷ bytes)) long.0) small (unmapped _ long.1)

long-passes : (n : ℕ) → 32 ≤ n → nat_lt n 32 ≡ false
long-passes n h = grind (arith, nat_tests)

none-from_tag : (bytes : List ℕ) → 32 ≤ length (header_tag ∷ bytes) → first_broken (take 32 (header_tag ∷ bytes)) ≡ None
    → header_refusal (header_tag ∷ bytes) ≡ None
unfolding header_refusal
none-from_tag bytes long none =
    pass _ _ _ (long-passes (length (header_tag ∷ bytes)) long) (ap (λ (f : Option HeaderField). option_map (λ x. ends.BadHeader x) f) none)

take-header : (session : SessionData) (more : List ℕ) → IsSession session → take 32 (header_record session ++ more) ≡ header_record session
take-header session more h =
    ap (λ (n : ℕ). take n (header_record session ++ more)) (sym (length-header_record session h)) ∙ take-append_seam (header_record session) more

none-from_header : (session : SessionData) (more : List ℕ) → IsSession session → header_refusal (header_record session ++ more) ≡ None
none-from_header session more h =
    let begins : header_record session ++ more ≡ header_tag ∷ (header_rest session ++ more) = ap (λ (x : List ℕ). x ++ more) (header_record-begins session) in
    let long : 32 ≤ length (header_record session ++ more) = omega (arith, length-header_record session h, length-append (header_record session) more) in
    let none : first_broken (take 32 (header_record session ++ more)) ≡ None = ap first_broken (take-header session more h) ∙ none_broken session h in
    ap header_refusal begins
    ∙ none-from_tag (header_rest session ++ more) (subst (λ (x : List ℕ). 32 ≤ length x) begins long)
    (subst (λ (x : List ℕ). first_broken (take 32 x) ≡ None) begins none)

-- an input with a packet file at its front isn't refused at its first record
pub none-from_front : (input : List ℕ) (session : SessionData) (list : List Item) (front rest : List ℕ)
    → HasFront input session list front rest → header_refusal input ≡ None
none-from_front input session list front rest h =
    let b = front_begins input session list front rest h in
    ap header_refusal b.split ∙ none-from_header session b.more b.is_session
