-- What becomes of the slots when a packet is offered to one of them or to a new one, and which packets they stand for then.
use Rattle.std.proofs.Common.{ℕ, ◌≡◌, ◌≢◌, ◌<◌, ◌≤◌, ◌+◌, ◌∙◌, eqb, if◌then◌else◌, sym, ap, refl, subst, List, All, [], ◌∷◌, ◌++◌, length, map, get_or, set, take, drop, min, arith, inl, inr, Bool, Result, Ok, Err, IfOk, IfErr, OnErr}
use Rattle.std.specs.List.{insert}
use Rattle.std.specs.Prelude.{IsErrAnd, IsTrue, IsFalse, nat_lt}
use Rattle.std.proofs.lemmas.Bool.{cases_eq, eq-eqb, ne_eqb}
use Rattle.std.proofs.lemmas.Bool.Decides.{nat_tests}
use Rattle.std.proofs.lemmas.List.{length-map, map-append, map-set, set-get_or, take-map, drop-map, get_or-map, length_push}
use Rattle.std.proofs.lemmas.List.Elements.{All-nil, All-cons, All-append, All-take, All-drop, All-set, All-push, All-map, All-weaker}
use Rattle.std.proofs.lemmas.List.Sums.{sum_by-set, sum_by-insert}
use Rattle.bats_model.specs.Session.{SessionData}
use Rattle.bats_model.specs.PacketFile.{HasShape}
use Rattle.bats_model.specs.Kept.{kept_of, new_after, kept_count}
use Rattle.bats_model.specs.declared.packet.Packet.{Packet}
use Rattle.bats_model.specs.declared.taken.Taken.{Taken}
use Rattle.bats_model.specs.declared.taken.Taken.TheVariants.{Kept, Dependent, Contradiction}
use Rattle.bats_batch.specs.Basis.{BasisData, IsTaken, kept_with}
use Rattle.bats_batch.specs.Held.{HeldBatch, HeldData, kept_at, row_count, no_batch, batch_at, basis_with, HaveRisingNumbers, max_kept, StandsFor}
use Rattle.bats_batch.specs.steps.Slots.{batch_in, batches_in, AreOf, IsSlot, AreSlots, AreWithin, StandsAt, BelongsAt, gain_of, Takes, OffersTo, slots_cost}
use Rattle.bats_batch.specs.Offers.{Offers}
use Rattle.bats_batch.specs.declared.held.HeldEnd.{HeldEnd}
use Rattle.bats_batch.specs.declared.held.HeldEnd.TheVariants.{Full}
use Rattle.bats_batch.specs.declared.slot.Slot.{Slot}
use Rattle.bats_batch.proofs.HeldBatches.{kept_at-stands, kept_at-set, rising-set, kept_at-belongs, kept_at-insert, rising-insert}
use Rattle.bats_batch.proofs.KeptAfter.{All-kept_with}
use Rattle.bats_batch.proofs.KeptOfBatches.{kept_of-taken, kept_of-push_other}
use Rattle.bats_batch.proofs.RowCounts.{row_count-packets, length-row_count}

length-kept_with : (kept : List Packet) (packet : Packet) (taken : Taken) → length (kept_with kept packet taken) ≡ length kept + gain_of taken
length-kept_with kept packet Kept = length_push kept packet
length-kept_with kept packet Dependent = omega arith
length-kept_with kept packet Contradiction = omega arith

if_same : (number : ℕ) (kept other : List Packet) → (if eqb number number then kept else other) ≡ kept
if_same number kept other = rw (eq-eqb number number refl) refl

if_other : (number q : ℕ) (kept other : List Packet) → q ≢ number → (if eqb number q then kept else other) ≡ other
if_other number q kept other differ = rw (ne_eqb number q (λ e. differ (sym e))) refl

-- ---- the error that a call ends with

pub is-Err : {T : Type 0} (r : Result T HeldEnd) (e : HeldEnd) → IsErrAnd r (λ y. y ≡ e) → r ≡ Err e
is-Err (Ok x) e exit = absurd exit
is-Err (Err y) e exit = ap (λ (end : HeldEnd). Err end) exit

pub OffersTo-exit : (session : SessionData) (slots : List Slot) (has_room : Bool) (packet : Packet) (r : Result Taken HeldEnd)
    (e : HeldEnd) → IsErrAnd r (λ y. y ≡ e)
    → (e ≡ Full → (IsFalse has_room × IsTaken (kept_at (batches_in slots) packet.batch) packet Kept))
    → OffersTo session slots slots has_room packet r
OffersTo-exit session slots has_room packet (Ok x) e exit full = absurd exit
OffersTo-exit session slots has_room packet (Err y) e exit full = record {
  takes = tt;
  room = tt;
  full = λ same. full (sym exit ∙ same);
  same = refl;
}

-- ---- the packet's batch is held

module _ (session : SessionData) (slots : List Slot) (place : ℕ) (slot : Slot) (basis : BasisData) (packet : Packet)
    (are : AreSlots session slots) (stands : StandsAt (batches_in slots) packet.batch place) where
  abbrev old : Slot
  old = get_or slots place slot

  abbrev new : Slot
  new = record { number = old.number; basis = basis }

  abbrev batches : List HeldBatch
  batches = batches_in slots

  within : place < length slots
  within = omega (arith, stands.within, length-map slots batch_in)

  at_place : batch_at batches place ≡ batch_in old
  at_place = get_or-map batch_in slots place slot no_batch within

  number : old.number ≡ packet.batch
  number = sym (ap (λ (b : HeldBatch). b.number) at_place) ∙ stands.same

  pub kept_at-slot : kept_at batches packet.batch ≡ old.basis.kept
  kept_at-slot = kept_at-stands batches are.rising packet.batch place stands ∙ ap (λ (b : HeldBatch). b.kept) at_place

  pub slot_cost : min old.basis.m (length old.basis.kept + 1) ≤ slots_cost session slots packet
  slot_cost = omega (arith, (are.each place slot within).m, ap (λ (ps : List Packet). length ps) kept_at-slot)

  batches_after : batches_in (set slots place new) ≡ set batches place (batch_in new)
  batches_after = map-set batch_in slots place new

  module _ (taken : Taken) (m : basis.m ≡ old.basis.m) (t : basis.t ≡ old.basis.t) (is : IsTaken old.basis.kept packet taken)
      (kept : basis.kept ≡ kept_with old.basis.kept packet taken) where
    kept_after : (q : ℕ) → kept_at (batches_in (set slots place new)) q ≡ (if eqb packet.batch q then basis.kept else kept_at batches q)
    kept_after q =
        ap (λ (bs : List HeldBatch). kept_at bs q) batches_after
        ∙ kept_at-set batches are.rising packet.batch place stands (batch_in new) number q

    IsSlot-new : IsSlot session new
    IsSlot-new = record {
      m = m ∙ (are.each place slot within).m;
      t = t ∙ (are.each place slot within).t;
      some =
          omega (
            arith,
            (are.each place slot within).some,
            ap (λ (ps : List Packet). length ps) kept,
            length-kept_with old.basis.kept packet taken,
          );
      own = subst (AreOf old.number) (sym kept) (All-kept_with (λ p. p.batch ≡ old.number) old.basis.kept packet taken (are.each place slot within).own (sym number));
    }

    pub Takes-set : Takes session slots (set slots place new) packet taken
    Takes-set = record {
      slots = record {
        each = All-set (IsSlot session) slots place new IsSlot-new are.each;
        rising = subst HaveRisingNumbers (sym batches_after) (rising-set batches are.rising packet.batch place stands (batch_in new) number);
      };
      is = subst (λ (ps : List Packet). IsTaken ps packet taken) (sym kept_at-slot) is;
      here =
          kept_after packet.batch ∙ if_same packet.batch basis.kept (kept_at batches packet.batch) ∙ kept
          ∙ ap (λ (ps : List Packet). kept_with ps packet taken) (sym kept_at-slot);
      elsewhere = λ q differ. kept_after q ∙ if_other packet.batch q basis.kept (kept_at batches q) differ;
      gain =
          omega (
            arith,
            ap row_count batches_after,
            sum_by-set (λ (b : HeldBatch). length b.kept) batches place (batch_in new) no_batch stands.within,
            ap (λ (b : HeldBatch). length b.kept) at_place,
            ap (λ (ps : List Packet). length ps) kept,
            length-kept_with old.basis.kept packet taken,
          );
    }

  same_slots : basis ≡ old.basis → set slots place new ≡ slots
  same_slots same =
      ap (λ (b : BasisData). set slots place (record { number = old.number; basis = b })) same
      ∙ set-get_or slots place slot

  -- whatever the offer to its basis gives
  pub OffersTo-set : (has_room : Bool) (r : Result Taken HeldEnd) → basis.m ≡ old.basis.m → basis.t ≡ old.basis.t
      → IfOk r (IsTaken old.basis.kept packet)
      → IfOk r (λ taken. basis.kept ≡ kept_with old.basis.kept packet taken)
      → IfOk r (λ taken. taken ≡ Kept → IsTrue has_room)
      → IfErr r (λ e. e ≡ Full → (IsFalse has_room × IsTaken old.basis.kept packet Kept))
      → OnErr r (basis ≡ old.basis)
      → OffersTo session slots (set slots place new) has_room packet r
  OffersTo-set has_room (Ok taken) m t is kept room full same = record {
    takes = Takes-set taken m t is kept;
    room = room;
    full = tt;
    same = tt;
  }
  OffersTo-set has_room (Err e) m t is kept room full same = record {
    takes = tt;
    room = tt;
    full = λ is_full. (
      (full is_full).0,
      subst (λ (ps : List Packet). IsTaken ps packet Kept) (sym kept_at-slot) (full is_full).1,
    );
    same = same_slots same;
  }

-- ---- the packet's batch isn't held

pub none_kept : (slots : List Slot) (number place : ℕ) → BelongsAt (batches_in slots) number place → kept_at (batches_in slots) number ≡ []
none_kept slots number place belongs = kept_at-belongs (batches_in slots) number place belongs

module _ (session : SessionData) (slots : List Slot) (place : ℕ) (packet : Packet) (taken : Taken)
    (are : AreSlots session slots) (belongs : BelongsAt (batches_in slots) packet.batch place) (is : IsTaken [] packet taken) where
  abbrev held : List HeldBatch
  held = batches_in slots

  none_here : kept_at held packet.batch ≡ []
  none_here = none_kept slots packet.batch place belongs

  taken_here : IsTaken (kept_at held packet.batch) packet taken
  taken_here = subst (λ (ps : List Packet). IsTaken ps packet taken) (sym none_here) is

  same_kept : (kept : List Packet) (t : Taken) → t ≢ Kept → kept ≡ kept_with kept packet t
  same_kept kept Kept differ = absurd (differ refl)
  same_kept kept Dependent differ = refl
  same_kept kept Contradiction differ = refl

  no_gain : (t : Taken) → t ≢ Kept → gain_of t ≡ 0
  no_gain Kept differ = absurd (differ refl)
  no_gain Dependent differ = refl
  no_gain Contradiction differ = refl

  -- and isn't held after it
  pub Takes-none : taken ≢ Kept → Takes session slots slots packet taken
  Takes-none differ = record {
    slots = are;
    is = taken_here;
    here = same_kept (kept_at held packet.batch) taken differ;
    elsewhere = λ q other. refl;
    gain = omega (arith, no_gain taken differ);
  }

  abbrev slot_of : BasisData → Slot
  slot_of basis = record { number = packet.batch; basis = basis }

  held_after : (basis : BasisData) → batches_in (insert slots place (slot_of basis)) ≡ insert held place (batch_in (slot_of basis))
  held_after basis =
      let slot_after : Slot = slot_of basis in
      map-append batch_in (take place slots) (slot_after ∷ drop place slots)
      ∙ ap (λ (bs : List HeldBatch). bs ++ batch_in slot_after ∷ map batch_in (drop place slots)) (sym (take-map batch_in place slots))
      ∙ ap (λ (bs : List HeldBatch). take place held ++ batch_in slot_after ∷ bs) (sym (drop-map batch_in place slots))

  module _ (basis : BasisData) (m : basis.m ≡ session.m) (t : basis.t ≡ session.t) (kept : basis.kept ≡ packet ∷ []) (new : taken ≡ Kept) where
    abbrev slot_after : Slot
    slot_after = slot_of basis

    kept_at-after : (q : ℕ) → kept_at (batches_in (insert slots place slot_after)) q ≡ (if eqb packet.batch q then basis.kept else kept_at held q)
    kept_at-after q =
        ap (λ (bs : List HeldBatch). kept_at bs q) (held_after basis)
        ∙ kept_at-insert held packet.batch place belongs (batch_in slot_after) refl q

    IsSlot-after : IsSlot session slot_after
    IsSlot-after = record {
      m = m;
      t = t;
      some = omega (arith, ap (λ (ps : List Packet). length ps) kept);
      own =
          subst (AreOf packet.batch) (sym kept)
          (All-cons (λ p. p.batch ≡ packet.batch) packet [] refl (All-nil (λ p. p.batch ≡ packet.batch)));
    }

    -- it is held after it
    pub Takes-insert : Takes session slots (insert slots place slot_after) packet taken
    Takes-insert = record {
      slots = record {
        each =
            All-append (IsSlot session) (take place slots) (slot_after ∷ drop place slots) (All-take (IsSlot session) place slots are.each)
            (All-cons (IsSlot session) slot_after (drop place slots) IsSlot-after (All-drop (IsSlot session) place slots are.each));
        rising = subst HaveRisingNumbers (sym (held_after basis)) (rising-insert held packet.batch place belongs (batch_in slot_after) refl are.rising);
      };
      is = taken_here;
      here =
          kept_at-after packet.batch ∙ if_same packet.batch basis.kept (kept_at held packet.batch) ∙ kept
          ∙ ap (λ (ps : List Packet). kept_with ps packet Kept) (sym none_here)
          ∙ ap (kept_with (kept_at held packet.batch) packet) (sym new);
      elsewhere = λ q differ. kept_at-after q ∙ if_other packet.batch q basis.kept (kept_at held q) differ;
      gain =
          omega (
            arith,
            ap row_count (held_after basis),
            sum_by-insert (λ (b : HeldBatch). length b.kept) held place (batch_in slot_after),
            ap (λ (ps : List Packet). length ps) kept,
            ap gain_of new,
          );
    }

-- ---- the packets that the slots stand for

pub StandsFor-taken : (packets : List Packet) (session : SessionData) (old new : List Slot) (packet : Packet) (taken : Taken)
    → Takes session old new packet taken → HasShape session packet
    → StandsFor packets (record { session = session; batches = batches_in old })
    → StandsFor (packets ++ packet ∷ []) (record { session = session; batches = batches_in new })
StandsFor-taken packets session old new packet taken takes shape stands = record {
  shapes = All-push (HasShape session) packets packet stands.shapes shape;
  rising = takes.slots.rising;
  some =
      All-map (λ (b : HeldBatch). 0 < length b.kept) batch_in new
      (All-weaker (IsSlot session) (λ (slot : Slot). 0 < length slot.basis.kept) (λ slot is. is.some) new takes.slots.each);
  kept = λ q. elim (cases_eq q packet.batch) [
    | inl e ↦
        let own : kept_at (batches_in old) packet.batch ≡ kept_of packet.batch packets = stands.kept packet.batch in
        let is : IsTaken (kept_of packet.batch packets) packet taken =
        subst (λ (ps : List Packet). IsTaken ps packet taken) own takes.is in
        let here : kept_at (batches_in new) packet.batch ≡ kept_of packet.batch (packets ++ packet ∷ []) =
        takes.here ∙ ap (λ (ps : List Packet). kept_with ps packet taken) own
        ∙ sym (kept_of-taken session packets packet stands.shapes shape taken is) in
        subst (λ (n : ℕ). kept_at (batches_in new) n ≡ kept_of n (packets ++ packet ∷ [])) (sym e) here
    | inr differ ↦
        takes.elsewhere q differ ∙ stands.kept q
        ∙ sym (kept_of-push_other q packets packet (ne_eqb packet.batch q (λ e. differ (sym e))))
  ];
}

-- all kept packets are counted
pub row_count-stands : (packets : List Packet) (held : HeldData) → StandsFor packets held → row_count held.batches ≡ kept_count packets
row_count-stands packets held stands = row_count-packets held.batches (new_after [] packets) stands.rising stands.kept

room-after : (rows : ℕ) (taken : Taken) → rows ≤ max_kept → (taken ≡ Kept → rows < max_kept) → rows + gain_of taken ≤ max_kept
room-after rows Kept limit room = omega (arith, room refl)
room-after rows Dependent limit room = omega arith
room-after rows Contradiction limit room = omega arith

-- they are still not too many, where there was room for one that is kept
pub AreWithin-taken : (session : SessionData) (old new : List Slot) (rows : ℕ) (packet : Packet) (taken : Taken)
    → AreWithin session old rows → Takes session old new packet taken → (taken ≡ Kept → rows < max_kept)
    → AreWithin session new (rows + gain_of taken)
AreWithin-taken session old new rows packet taken within takes room = record {
  are = takes.slots;
  count = omega (arith, within.count, takes.gain);
  limit = room-after rows taken within.limit room;
}

-- what an offer to the slots does to what is held
pub Offers-of : (session : SessionData) (old new : List Slot) (rows : ℕ) (packet : Packet)
    (r : Result Taken HeldEnd) → AreWithin session old rows → HasShape session packet
    → OffersTo session old new (nat_lt rows max_kept) packet r
    → Offers (record { session = session; batches = batches_in old }) (record { session = session; batches = batches_in new })
    packet r
Offers-of session old new rows packet (Ok taken) within shape offers = record {
  session = refl;
  taken = offers.takes.is;
  kept = offers.takes.here;
  others = offers.takes.elsewhere;
  stands = λ packets stands. StandsFor-taken packets session old new packet taken offers.takes shape stands;
  room = λ kept. grind (arith, nat_tests, within.count, offers.room kept);
  full = tt;
  same = tt;
}
Offers-of session old new rows packet (Err e) within shape offers = record {
  session = refl;
  taken = tt;
  kept = tt;
  others = tt;
  stands = tt;
  room = tt;
  full = λ full. (grind (arith, nat_tests, within.count, within.limit, (offers.full full).0), (offers.full full).1);
  same = ap (λ (slots : List Slot). record { session = session; batches = batches_in slots }) offers.same;
}

-- nothing is held of no packet
pub StandsFor-none : (session : SessionData) (slots : List Slot) → slots ≡ []
    → StandsFor [] (record { session = session; batches = batches_in slots })
unfolding new_after
StandsFor-none session slots none =
    let nothing : StandsFor [] (record { session = session; batches = [] }) = record {
      shapes = All-nil (HasShape session);
      rising = λ i j below within. absurd (omega arith);
      some = All-nil (λ (b : HeldBatch). 0 < length b.kept);
      kept = λ number. refl;
    } in
    subst (λ (ss : List Slot). StandsFor [] (record { session = session; batches = batches_in ss })) (sym none) nothing

-- each slot has a kept packet
pub slots-le : (session : SessionData) (slots : List Slot) (rows : ℕ) → AreWithin session slots rows → length slots ≤ max_kept
slots-le session slots rows within =
    let some : All (λ (b : HeldBatch). 0 < length b.kept) (batches_in slots) = All-map (λ (b : HeldBatch). 0 < length b.kept) batch_in slots
    (All-weaker (IsSlot session) (λ (slot : Slot). 0 < length slot.basis.kept) (λ slot is. is.some) slots within.are.each) in
    omega (arith, length-row_count (batches_in slots) some, length-map slots batch_in, within.count, within.limit)

-- the basis of the batch that stands at a place
pub basis-at : (session : SessionData) (slots : List Slot) (number place : ℕ) (slot : Slot) → AreSlots session slots
    → StandsAt (batches_in slots) number place
    → let basis = (get_or slots place slot).basis in
    (basis ≡ basis_with session (kept_at (batches_in slots) number)) × (0 < length basis.kept)
basis-at session slots number place slot are stands =
    let found : Slot = get_or slots place slot in
    let within : place < length slots = omega (arith, stands.within, length-map slots batch_in) in
    let is : IsSlot session found = are.each place slot within in
    let kept : found.basis.kept ≡ kept_at (batches_in slots) number =
    sym (ap (λ (b : HeldBatch). b.kept) (get_or-map batch_in slots place slot no_batch within))
    ∙ sym (kept_at-stands (batches_in slots) are.rising number place stands) in
    (λ i. record { m = is.m i; t = is.t i; kept = kept i }, is.some)

-- the basis at a place keeps packets of the batch there alone, and all that are held of it
pub basis-of_place : (session : SessionData) (slots : List Slot) (place : ℕ) (slot : Slot) → AreSlots session slots → place < length slots
    → let basis = (get_or slots place slot).basis in
    let number = (batch_at (batches_in slots) place).number in
    AreOf number basis.kept × (kept_at (batches_in slots) number ≡ basis.kept)
basis-of_place session slots place slot are within =
    let found : Slot = get_or slots place slot in
    let there : batch_at (batches_in slots) place ≡ batch_in found = get_or-map batch_in slots place slot no_batch within in
    let stands : StandsAt (batches_in slots) (batch_at (batches_in slots) place).number place = record {
      within = omega (arith, within, length-map slots batch_in);
      same = refl;
    } in (
      subst (λ (b : HeldBatch). AreOf b.number found.basis.kept) (sym there) (are.each place slot within).own,
      kept_at-stands (batches_in slots) are.rising (batch_at (batches_in slots) place).number place stands ∙ ap (λ (b : HeldBatch). b.kept) there,
    )
