-- What was sent on a hop, one packet after another.
use Rattle.std.proofs.Common.{ℕ, zero, suc, ◌≡◌, ◌<◌, ◌≤◌, ◌+◌, ◌*◌, ◌==◌, ◌∙◌, Bool, true, false, if◌then◌else◌, List, [], ◌∷◌, ◌++◌, length, map, flat_map, Result, sym, ap, refl, subst, arith, length-append, append_assoc}
use Rattle.std.specs.Prelude.{OnOk}
use Rattle.std.specs.List.{range_with_len}
use Rattle.std.proofs.lemmas.List.{append-nil}
use Rattle.std.proofs.lemmas.List.Concat.{flat_map-append}
use Rattle.std.proofs.lemmas.Nat.{row_fits}
use Rattle.std.proofs.lemmas.List.FromFn.{length-map-range_with_len, map-range_with_len_more}
use Rattle.bats_batch.specs.Held.{HeldData, kept_at}
use Rattle.bats_model.specs.Relay.{relay_output}
use Rattle.bats_model.specs.declared.packet.Packet.{Packet}
use Rattle.bats_relay.specs.Mixer.{MixerData}
use Rattle.bats_relay.specs.Rule.{fixed_count}
use Rattle.bats_words.specs.declared.trial_options.TrialOptions.{TrialOptions}
use Rattle.tool_replay.specs.Trial.{surviving, is_lost, loss_key}
use Rattle.tool_replay.specs.declared.hops.Hop.{Hop}
use Rattle.tool_replay.specs.steps.Hops.{Sends, surviving_by, held_outputs, is_lost_by, output_of}
use Rattle.tool_run.proofs.Ranges.{range-append}

-- ---- what arrives of some packets

if_append : (lost : Bool) (packet : Packet) (us vs ws : List Packet) → us ≡ vs ++ ws
    → (if lost then us else packet ∷ us) ≡ (if lost then vs else packet ∷ vs) ++ ws
if_append true packet us vs ws e = e
if_append false packet us vs ws e = ap (λ (ps : List Packet). packet ∷ ps) e

surviving_by-append : (key : List ℕ) (loss place : ℕ) (front back : List Packet)
    → surviving_by key loss place (front ++ back)
    ≡ surviving_by key loss place front ++ surviving_by key loss (place + length front) back
unfolding surviving_by
surviving_by-append key loss place [] back =
    let first : place ≡ place + 0 = omega arith in
    ap (λ (p : ℕ). surviving_by key loss p back) first
surviving_by-append key loss place (packet ∷ front) back =
    let next : place + 1 + length front ≡ place + length (packet ∷ front) = omega arith in
    if_append (is_lost_by key loss place) packet (surviving_by key loss (place + 1) (front ++ back)) (surviving_by key loss (place + 1) front)
    (surviving_by key loss (place + length (packet ∷ front)) back)
    (surviving_by-append key loss (place + 1) front back
    ∙ ap (λ (p : ℕ). surviving_by key loss (place + 1) front ++ surviving_by key loss p back) next)

surviving_by-lost : (key : List ℕ) (loss place : ℕ) (packet : Packet) → is_lost_by key loss place ≡ true
    → surviving_by key loss place (packet ∷ []) ≡ []
unfolding surviving_by
surviving_by-lost key loss place packet e =
    ap (λ (lost : Bool). if lost then [] else packet ∷ []) e

surviving_by-kept : (key : List ℕ) (loss place : ℕ) (packet : Packet) → is_lost_by key loss place ≡ false
    → surviving_by key loss place (packet ∷ []) ≡ packet ∷ []
unfolding surviving_by
surviving_by-kept key loss place packet e =
    ap (λ (lost : Bool). if lost then [] else packet ∷ []) e

surviving-by : (options : TrialOptions) (hop place : ℕ) (packets : List Packet)
    → surviving options hop place packets ≡ surviving_by (loss_key options.number hop) options.loss place packets
unfolding surviving surviving_by
surviving-by options hop place [] = refl
surviving-by options hop place (packet ∷ packets) =
    ap (λ (ps : List Packet). if is_lost options hop place then ps else packet ∷ ps) (surviving-by options hop (place + 1) packets)

-- ---- one packet

pub Sends-lost : (packet : Packet) (before after : Hop) → is_lost_by before.key before.loss before.sent ≡ true → after.key ≡ before.key
    → after.loss ≡ before.loss → after.sent ≡ before.sent + 1 → after.arrived.items ≡ before.arrived.items → Sends (packet ∷ []) before after
Sends-lost packet before after lost key loss sent arrived = record {
  key = key;
  loss = loss;
  sent = sent;
  arrived = arrived ∙ sym (append-nil before.arrived.items)
      ∙ ap (λ (ps : List Packet). before.arrived.items ++ ps) (sym (surviving_by-lost before.key before.loss before.sent packet lost));
}

pub Sends-kept : (packet : Packet) (before after : Hop) → is_lost_by before.key before.loss before.sent ≡ false → after.key ≡ before.key
    → after.loss ≡ before.loss → after.sent ≡ before.sent + 1 → after.arrived.items ≡ before.arrived.items ++ packet ∷ []
    → Sends (packet ∷ []) before after
Sends-kept packet before after kept key loss sent arrived = record {
  key = key;
  loss = loss;
  sent = sent;
  arrived = arrived
      ∙ ap (λ (ps : List Packet). before.arrived.items ++ ps) (sym (surviving_by-kept before.key before.loss before.sent packet kept));
}

-- ---- one packet after another

pub Sends-nothing : (hop : Hop) → Sends [] hop hop
unfolding surviving_by
Sends-nothing hop = record { key = refl; loss = refl; sent = omega arith; arrived = sym (append-nil hop.arrived.items) }

pub Sends-after : {a b c : Hop} {front back : List Packet} → Sends front a b → Sends back b c → Sends (front ++ back) a c
Sends-after {a} {b} {c} {front} {back} p q =
    let same : surviving_by b.key b.loss b.sent back ≡ surviving_by a.key a.loss (a.sent + length front) back =
    ap (λ (key : List ℕ). surviving_by key b.loss b.sent back) p.key
    ∙ ap (λ (loss : ℕ). surviving_by a.key loss b.sent back) p.loss
    ∙ ap (λ (sent : ℕ). surviving_by a.key a.loss sent back) p.sent in
    let whole : List Packet = surviving_by a.key a.loss a.sent front in
    record {
      key = q.key ∙ p.key;
      loss = q.loss ∙ p.loss;
      sent = omega (arith, p.sent, q.sent, length-append front back);
      arrived = q.arrived ∙ ap (λ (ps : List Packet). ps ++ surviving_by b.key b.loss b.sent back) p.arrived
          ∙ ap (λ (ps : List Packet). (a.arrived.items ++ whole) ++ ps) same
          ∙ append_assoc a.arrived.items whole (surviving_by a.key a.loss (a.sent + length front) back)
          ∙ ap (λ (ps : List Packet). a.arrived.items ++ ps) (sym (surviving_by-append a.key a.loss a.sent front back));
    }

pub Sends-same : {a b : Hop} {xs ys : List Packet} → ys ≡ xs → Sends xs a b → Sends ys a b
Sends-same {a} {b} {xs} {ys} e p = subst (λ (zs : List Packet). Sends zs a b) (sym e) p

pub OnOk-sends : {T E : Type 0} (a b : Hop) (xs ys : List Packet) (r : Result T E) → ys ≡ xs → OnOk r (Sends xs a b) → OnOk r (Sends ys a b)
OnOk-sends a b xs ys r e p = subst (λ (zs : List Packet). OnOk r (Sends zs a b)) (sym e) p

-- one more of the packets with numbers from 0 on
pub Sends-more : {a b c : Hop} (f : ℕ → Packet) (i : ℕ) → Sends (map f (range_with_len 0 i)) a b → Sends (f i ∷ []) b c
    → Sends (map f (range_with_len 0 (i + 1))) a c
Sends-more f i p q = Sends-same (map-range_with_len_more f 0 i i (omega arith)) (Sends-after p q)

-- the packets of one more batch
pub flat_map-range_next : (f : ℕ → List Packet) (n : ℕ) → flat_map f (range_with_len 0 (n + 1)) ≡ flat_map f (range_with_len 0 n) ++ f n
flat_map-range_next f n =
    let first : 0 + n ≡ n = omega arith in
    ap (flat_map f) (range-append 0 n 1) ∙ flat_map-append f (range_with_len 0 n) (range_with_len (0 + n) 1)
    ∙ ap (λ (ps : List Packet). flat_map f (range_with_len 0 n) ++ ps) (append-nil (f (0 + n)))
    ∙ ap (λ (k : ℕ). flat_map f (range_with_len 0 n) ++ f k) first

pub Sends-batch : {a b c : Hop} (f : ℕ → List Packet) (n : ℕ) → Sends (flat_map f (range_with_len 0 n)) a b → Sends (f n) b c
    → Sends (flat_map f (range_with_len 0 (n + 1))) a c
Sends-batch f n p q = Sends-same (flat_map-range_next f n) (Sends-after p q)

-- ---- how many were sent

pub sent-before : {a b : Hop} (f : ℕ → Packet) (i : ℕ) → Sends (map f (range_with_len 0 i)) a b → b.sent ≡ a.sent + i
sent-before f i p = omega (arith, p.sent, length-map-range_with_len f 0 i)

times-more : (n m : ℕ) → (n + 1) * m ≡ n * m + m
times-more n m = omega arith

-- each batch has m packets at most
pub length-batches : (f : ℕ → List Packet) (m n : ℕ) → ((batch : ℕ) → length (f batch) ≤ m) → length (flat_map f (range_with_len 0 n)) ≤ n * m
length-batches f m zero few = omega arith
length-batches f m (suc n) few =
    let next : suc n ≡ n + 1 = omega arith in
    let count : length (flat_map f (range_with_len 0 (n + 1))) ≡ length (flat_map f (range_with_len 0 n)) + length (f n) =
    ap (λ (ps : List Packet). length ps) (flat_map-range_next f n) ∙ length-append (flat_map f (range_with_len 0 n)) (f n) in
    let most : length (flat_map f (range_with_len 0 (n + 1))) ≤ (n + 1) * m =
    omega (arith, count, few n, length-batches f m n few, times-more n m) in
    subst (λ (k : ℕ). length (flat_map f (range_with_len 0 k)) ≤ k * m) (sym next) most

-- there is room for one more batch
pub room-batch : {a b : Hop} (f : ℕ → List Packet) (m i n most : ℕ) → ((batch : ℕ) → length (f batch) ≤ m) → a.sent ≡ 0 → i < n → n * m ≤ most
    → Sends (flat_map f (range_with_len 0 i)) a b → b.sent + m ≤ most
room-batch f m i n most few none within all p =
    omega (arith, p.sent, none, length-batches f m i few, row_fits i m n m within (omega arith), all)

-- ---- what a relay sends of a batch

none-or : (none : Bool) (m : ℕ) → (if none then 0 else m) ≤ m
none-or true m = omega arith
none-or false m = omega arith

pub fixed_count-le : (m rank : ℕ) → fixed_count m rank ≤ m
fixed_count-le m rank = none-or (rank == 0) m

-- a mixer that holds the same sends the same
pub output_of-same : (a b : MixerData) (batch number : ℕ) → a.held ≡ b.held → a.seed ≡ b.seed → output_of a batch number ≡ output_of b batch number
output_of-same a b batch number held seed =
    ap (λ (h : HeldData). relay_output h.session a.seed batch number (kept_at h.batches batch)) held
    ∙ ap (λ (s : List ℕ). relay_output b.held.session s batch number (kept_at b.held.batches batch)) seed

pub held_outputs-same : (a b : MixerData) (m batch : ℕ) → a.held ≡ b.held → a.seed ≡ b.seed → held_outputs a m batch ≡ held_outputs b m batch
unfolding held_outputs
held_outputs-same a b m batch held seed =
    let outputs : HeldData → List ℕ → List Packet = λ h s.
    map (λ (number : ℕ). relay_output h.session s batch number (kept_at h.batches batch))
    (range_with_len 0 (fixed_count m (length (kept_at h.batches batch)))) in
    ap (λ (h : HeldData). outputs h a.seed) held ∙ ap (λ (s : List ℕ). outputs b.held s) seed

pub length-held_outputs : (mixer : MixerData) (m batch : ℕ) → length (held_outputs mixer m batch) ≤ m
unfolding held_outputs
length-held_outputs mixer m batch =
    let count : ℕ = fixed_count m (length (kept_at mixer.held.batches batch)) in
    omega (arith, length-map-range_with_len (output_of mixer batch) 0 count, fixed_count-le m (length (kept_at mixer.held.batches batch)))

-- ---- what arrived on a hop

pub arrived-sent : (options : TrialOptions) (hop : ℕ) (packets : List Packet) (before after : Hop) → before.key ≡ loss_key options.number hop
    → before.loss ≡ options.loss → before.sent ≡ 0 → before.arrived.items ≡ [] → Sends packets before after
    → after.arrived.items ≡ surviving options hop 0 packets
arrived-sent options hop packets before after key loss sent none p =
    p.arrived ∙ ap (λ (ps : List Packet). ps ++ surviving_by before.key before.loss before.sent packets) none
    ∙ ap (λ (k : List ℕ). surviving_by k before.loss before.sent packets) key
    ∙ ap (λ (l : ℕ). surviving_by (loss_key options.number hop) l before.sent packets) loss
    ∙ ap (λ (s : ℕ). surviving_by (loss_key options.number hop) options.loss s packets) sent
    ∙ sym (surviving-by options hop 0 packets)
