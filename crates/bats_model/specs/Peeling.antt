-- Peeling with inactivation: which symbols packets give once others are taken as known, and which must be taken so.
use Rattle.std.specs.Prelude.{ℕ, ◌≡◌, ◌≢◌, ◌<◌, ◌≤◌, ◌+◌, ◌-◌, ◌*◌, ◌/◌, ◌%◌, ◌==◌, ◌||◌, ◌⊎◌, ◌↔◌, max, if◌then◌else◌, Bool, true, false, List, [], ◌∷◌, All, length, map, take, slice_index, slice_index_or}
use Rattle.std.specs.List.{range_with_len, list_any, count_by, fold}
use Rattle.gf_core.specs.Field.{gf_mul, gf_sum}
use Rattle.bats_model.specs.Session.{SessionData, symbols_of}
use Rattle.bats_model.specs.Batch.{batch_of, degree_of, contributor_of, entry_of}
use Rattle.bats_model.specs.Kept.{new_after, kept_of, AreHeld}
use Rattle.bats_model.specs.declared.packet.Packet.{Packet}

-- ---- sets of symbols

-- whether a set has symbol s. A set of symbols is a list with true or false for each of them, by number.
abbrev pub is_in : List Bool → ℕ → Bool
is_in set s = slice_index_or set s false

-- the set with these symbols added
unfoldable pub with_symbols : SessionData → List Bool → List ℕ → List Bool
with_symbols session set symbols =
    map (λ s. is_in set s || list_any (λ u. u == s) symbols) (range_with_len 0 (symbols_of session))

-- the set of these symbols
abbrev pub set_of : SessionData → List ℕ → List Bool
set_of session symbols = with_symbols session [] symbols

-- the set has each symbol of the session
abbrev pub HasAllSymbols : SessionData → List Bool → Type 0
HasAllSymbols session set = (s : ℕ) → s < symbols_of session → is_in set s ≡ true

-- ---- what a batch fixes

-- the combination of a batch's coded packets where values k is the value of contributor k
unfoldable pub local_value : SessionData → ℕ → List ℕ → (ℕ → ℕ) → ℕ
local_value session number coefs values =
    let batch = batch_of session number in
    gf_sum session.m (λ j. gf_mul (slice_index coefs j)
    (gf_sum (degree_of batch) (λ k. gf_mul (entry_of batch k j) (values k))))

-- one byte a contributor of a batch, 0 for each that is in the set, of which each of the packets makes 0
pub record AreHidden (session : SessionData) (number : ℕ) (kept : List Packet) (set : List Bool) (values : ℕ → ℕ) : Type 0 where
  pub bytes : (k : ℕ) → k < degree_of (batch_of session number) → values k < 256
  pub zero_inside : (k : ℕ) → k < degree_of (batch_of session number)
      → is_in set (contributor_of (batch_of session number) k) ≡ true → values k ≡ 0
  pub zero_sums : All (λ packet. local_value session number packet.coefs values ≡ 0) kept

-- the kept packets of a batch fix its contributors outside the set: only zeros are hidden from them
pub record Fixes (session : SessionData) (number : ℕ) (kept : List Packet) (set : List Bool) : Type 0 where
  pub only_zeros : (values : ℕ → ℕ) → AreHidden session number kept set values
      → (k : ℕ) → k < degree_of (batch_of session number) → values k ≡ 0

-- ---- stuck sets

-- a batch with a kept packet has a contributor outside the set, and fixes all that are outside
pub record IsStep (session : SessionData) (packets : List Packet) (set : List Bool) (number : ℕ) : Type 0 where
  pub held : 0 < length (kept_of number packets)
  pub place : ℕ
  pub within : place < degree_of (batch_of session number)
  pub outside : is_in set (contributor_of (batch_of session number) place) ≡ false
  pub fixes : Fixes session number (kept_of number packets) set

-- the set after a step by this batch: all its contributors are added
abbrev pub set_after : SessionData → List Bool → ℕ → List Bool
set_after session set number = with_symbols session set (batch_of session number).contributors

-- steps by the batches of these numbers, one after another, lead from one set to another
abbrev pub Leads : SessionData → List Packet → List Bool → List ℕ → List Bool → Type 0
Leads session packets set [] end = set ≡ end
Leads session packets set (number ∷ numbers) end =
    IsStep session packets set number × Leads session packets (set_after session set number) numbers end

-- steps lead from one set to the other, and none leads on
pub record IsStuckSet (session : SessionData) (packets : List Packet) (set stuck : List Bool) : Type 0 where
  pub numbers : List ℕ
  pub leads : Leads session packets set numbers stuck
  pub ends : (number : ℕ) → ¬ IsStep session packets stuck number

-- ---- the inactive list

-- how many of the batches of these numbers have symbol s as a contributor
abbrev pub held_count : SessionData → List ℕ → ℕ → ℕ
held_count session numbers s =
    count_by (λ number. list_any (λ u. u == s) (batch_of session number).contributors) numbers

-- the inactivation order: the symbol in more of the batches comes first, and of equals the lower number
abbrev pub ComesBefore : SessionData → List ℕ → ℕ → ℕ → Type 0
ComesBefore session numbers s u = held_count session numbers u < held_count session numbers s
    ⊎ ((held_count session numbers u ≡ held_count session numbers s) × s < u)

-- symbol s is the first of the order outside the stuck set from these symbols
pub record IsFirstOutside (session : SessionData) (packets : List Packet) (numbers symbols : List ℕ) (s : ℕ) : Type 0 where
  pub stuck : List Bool
  pub is_stuck : IsStuckSet session packets (set_of session symbols) stuck
  pub below : s < symbols_of session
  pub outside : is_in stuck s ≡ false
  pub first : (u : ℕ) → u < symbols_of session → is_in stuck u ≡ false → u ≢ s → ComesBefore session numbers s u

-- what an inactive list begins with: the last symbol where it is only in part the file's
abbrev pub first_inactive : SessionData → List ℕ
first_inactive session =
    if session.file_length % session.t == 0 then [] else (symbols_of session - 1) ∷ []

-- the list begins so, and each further entry is the first symbol outside the stuck set from the entries before it
pub record AreInactive (session : SessionData) (packets : List Packet) (numbers list : List ℕ) : Type 0 where
  pub begins : take (length (first_inactive session)) list ≡ first_inactive session
  pub further : (i : ℕ) → length (first_inactive session) ≤ i → i < length list
      → IsFirstOutside session packets numbers (take i list) (slice_index list i)

-- the symbols to be taken as known, in their order: the stuck set from all of them has each symbol. That the list goes on
-- no further is said by its entries, each outside the stuck set from those before it but for what the list begins with.
pub record IsInactiveList (session : SessionData) (packets : List Packet) (list : List ℕ) : Type 0 where
  pub numbers : List ℕ
  pub held : AreHeld packets numbers
  pub inactive : AreInactive session packets numbers list
  pub stuck : List Bool
  pub is_stuck : IsStuckSet session packets (set_of session list) stuck
  pub all : HasAllSymbols session stuck

-- ---- how much work it may be

-- the largest degree among the batches that have a kept packet, or 0 where none has
abbrev pub largest_degree : SessionData → List Packet → ℕ
largest_degree session packets =
    fold (λ most packet. max most (degree_of (batch_of session packet.batch))) 0 (new_after [] packets)

-- operations on payload rows, at most: of so many packets received, m coefficients each, so many kept packets, the
-- largest degree, and so many inactive symbols
abbrev pub payload_bound : ℕ → ℕ → ℕ → ℕ → ℕ → ℕ
payload_bound received m kept degree inactive = received * m + kept * (degree + inactive)

-- operations on rows of coefficients, at most: for each kept packet 1 + 2 + .. + m more than on payload rows
abbrev pub coefficient_bound : ℕ → ℕ → ℕ → ℕ → ℕ → ℕ
coefficient_bound received m kept degree inactive =
    payload_bound received m kept degree inactive + kept * m * (m + 1) / 2
