-- What `relay` sends is a packet file of outputs, and a file that agrees with the packets it took agrees with all of them.
use Rattle.std.proofs.Common.{ℕ, suc, Some, ◌≡◌, ◌+◌, ◌*◌, ◌<◌, ◌≤◌, ◌==◌, ◌∙◌, sym, ap, refl, subst, inl, inr, Bool, true, false, cond, List, [], ◌∷◌, length, get_or, arith}
use Rattle.std.specs.Prelude.{not, min, if◌then◌else◌, filter}
use Rattle.std.specs.List.{All, AllPairs, flat_map, range_with_len}
use Rattle.std.proofs.lemmas.Bool.{cases_Bool, eqb-true}
use Rattle.std.proofs.lemmas.List.{length-append}
use Rattle.std.proofs.lemmas.List.Elements.{All-nil, All-cons, All-append, All-head, All-tail, All-map, Contains-get_or}
use Rattle.std.proofs.lemmas.List.Filters.{length-filter_both}
use Rattle.std.proofs.lemmas.List.FromFn.{length-map-range_with_len}
use Rattle.std.proofs.lemmas.List.Kept.{AllPairs-from_increasing}
use Rattle.bats_model.specs.Session.{SessionData}
use Rattle.bats_model.specs.Agreement.{AgreesWithAll}
use Rattle.bats_model.specs.Kept.{kept_of, kept_count, new_after, packets_in, AreHeld}
use Rattle.bats_model.specs.PacketFile.{IsPacketFile, HasShape, AreItemsFrom, record_of, packets_of}
use Rattle.bats_model.specs.Relay.{relay_output, IsOutputOf}
use Rattle.bats_model.specs.declared.packet.Packet.{Packet}
use Rattle.bats_model.specs.declared.item.Item.{Item}
use Rattle.bats_model.specs.declared.item.Item.TheVariants as items
use Rattle.bats_format.proofs.PacketFiles.{same_file}
use Rattle.bats_format.proofs.Refusals.{no_file_refused}
use Rattle.bats_relay.proofs.OutputRows.{batch-output}
use Rattle.bats_relay.proofs.RelayedPackets.{Agrees-outputs_of, HasShape-outputs_of}
use Rattle.tool_run.specs.Ending.{Ending}
use Rattle.tool_run.specs.declared.status.Status.TheVariants as statuses
use Rattle.tool_records.specs.Keeping.{AreFew}
use Rattle.tool_stream.specs.Relay.{RelaySends, IsRelayEnding, most_outputs, output_count, batch_outputs, sent_packets, relayed_ending}
use Rattle.tool_records.proofs.RefusedReadings.{IsRefused-few}
use Rattle.tool_laws.proofs.SentPackets.{IsFileOf, file_of}

-- ---- the packets that were taken

-- the packets among items of a session have its shape
pub shapes_from : (session : SessionData) (offset : ℕ) (list : List Item) → AreItemsFrom session offset list
    → All (HasShape session) (packets_of list)
unfolding AreItemsFrom packets_of
shapes_from session offset [] h = All-nil (HasShape session)
shapes_from session offset (items.Header at ∷ list) h =
    shapes_from session (offset + length (record_of session (items.Header at))) list h.1
shapes_from session offset (items.Packet at packet ∷ list) h =
    All-cons (HasShape session) packet (packets_of list) h.0.1
    (shapes_from session (offset + length (record_of session (items.Packet at packet))) list h.1)

-- ---- each packet that is sent is an output

All-flat_map : (P : Packet → Type 0) (f : ℕ → List Packet) (numbers : List ℕ) → All (λ n. All P (f n)) numbers
    → All P (flat_map f numbers)
All-flat_map P f [] h = All-nil P
All-flat_map P f (n ∷ numbers) h =
    All-append P (f n) (flat_map f numbers) (All-head (λ x. All P (f x)) n numbers h)
    (All-flat_map P f numbers (All-tail (λ x. All P (f x)) n numbers h))

-- an output of a held batch
IsOutputOf-batch : (session : SessionData) (seed : List ℕ) (packets : List Packet) (batch number : ℕ)
    → 0 < length (kept_of batch packets)
    → IsOutputOf session packets (relay_output session seed batch number (kept_of batch packets))
IsOutputOf-batch session seed packets batch number some =
    let of_batch = batch-output session seed batch number (kept_of batch packets) in
    record {
      seed = seed;
      number = number;
      held = subst (λ (b : ℕ). 0 < length (kept_of b packets)) (sym of_batch) some;
      is_output = sym (ap (λ (b : ℕ). relay_output session seed b number (kept_of b packets)) of_batch);
    }

-- a number of a held batch has kept packets
held_at : (packets : List Packet) (numbers : List ℕ) → AreHeld packets numbers
    → All (λ number. 0 < length (kept_of number packets)) numbers
held_at packets numbers held k d within = (held.held (get_or numbers k d)).0 (Contains-get_or numbers k d within)

are_outputs : (session : SessionData) (seed : List ℕ) (rule : ℕ → ℕ) (packets : List Packet) (numbers : List ℕ)
    → AreHeld packets numbers → All (IsOutputOf session packets) (sent_packets session seed rule packets numbers)
unfolding sent_packets
are_outputs session seed rule packets numbers held =
    All-flat_map (IsOutputOf session packets) (batch_outputs session seed rule packets) numbers
    (λ k d within. All-map (IsOutputOf session packets)
    (λ (number : ℕ). relay_output session seed (get_or numbers k d) number (kept_of (get_or numbers k d) packets))
    (range_with_len 0 (rule (length (kept_of (get_or numbers k d) packets))))
    (λ i e inside. IsOutputOf-batch session seed packets (get_or numbers k d)
    (get_or (range_with_len 0 (rule (length (kept_of (get_or numbers k d) packets)))) i e)
    (held_at packets numbers held k d within)))

-- ---- no more batches are held than packets are kept

-- the packets of other batches than this one
abbrev others_than : ℕ → List Packet → List Packet
others_than batch packets = filter (λ packet. not (packet.batch == batch)) packets

-- packets that a test doesn't pass may be left out before it
skip : (q : Packet → Bool) (b : Bool) (packet : Packet) (us vs : List Packet) → (b ≡ true → q packet ≡ false)
    → filter q us ≡ filter q vs → filter q (cond (not b) (packet ∷ us) us) ≡ filter q (packet ∷ vs)
skip q true packet us vs f e = e ∙ sym (ap (λ (c : Bool). cond c (packet ∷ filter q vs) (filter q vs)) (f refl))
skip q false packet us vs f e = ap (λ (l : List Packet). cond (q packet) (packet ∷ l) l) e

apart : (a b n : ℕ) → n < b → (a == n) ≡ true → (a == b) ≡ false
apart a b n below own = elim (cases_Bool (a == b)) [
  | inl same ↦ absurd (omega (arith, below, eqb-true a n own, eqb-true a b same))
  | inr other ↦ other
]

-- without the packets of one batch, another one's stay
others_stay : (batch other : ℕ) (packets : List Packet) → batch < other
    → packets_in other (others_than batch packets) ≡ packets_in other packets
others_stay batch other [] below = refl
others_stay batch other (packet ∷ packets) below =
    skip (λ p. p.batch == other) (packet.batch == batch) packet (others_than batch packets) packets
    (apart packet.batch other batch below) (others_stay batch other packets below)

-- rising numbers, each of which some packet has, are no more than the packets
few_numbers : (numbers : List ℕ) (packets : List Packet) → AllPairs (λ x y. x < y) numbers
    → All (λ number. 0 < length (packets_in number packets)) numbers → length numbers ≤ length packets
few_numbers [] packets rising some = omega arith
few_numbers (number ∷ numbers) packets rising some =
    omega (
      arith,
      length-filter_both (λ (p : Packet). p.batch == number) (λ (p : Packet). not (p.batch == number)) (λ p. refl) packets,
      some 0 number (omega arith),
      few_numbers numbers (others_than number packets) (λ i j d below within. rising (suc i) (suc j) d (omega arith) (omega arith))
          (λ k d within. subst (λ (ps : List Packet). 0 < length ps)
          (sym (others_stay number (get_or numbers k d) packets (rising 0 (suc k) d (omega arith) (omega arith))))
          (some (suc k) d (omega arith))),
    )

few_held : (packets : List Packet) (numbers : List ℕ) → AreHeld packets numbers → length numbers ≤ kept_count packets
few_held packets numbers held =
    few_numbers numbers (new_after [] packets) (AllPairs-from_increasing numbers held.rising) (held_at packets numbers held)

-- ---- how many packets are sent

count_flat : (f : ℕ → List Packet) (numbers : List ℕ) → ((n : ℕ) → length (f n) ≤ most_outputs)
    → length (flat_map f numbers) ≤ length numbers * most_outputs
count_flat f [] h = omega arith
count_flat f (n ∷ numbers) h = omega (arith, h n, count_flat f numbers h, length-append (f n) (flat_map f numbers))

least : (a b : ℕ) → min a b ≤ b
least a b = omega arith

fixed_most : (count : ℕ) (b : Bool) → count ≤ 64 → (if b then 0 else count) ≤ most_outputs
fixed_most count true h = omega arith
fixed_most count false h = omega arith

extra_most : (m count rank : ℕ) (b : Bool) → m ≤ 32 → count ≤ 64 → (if b then 0 else min rank m + count) ≤ most_outputs
extra_most m count rank true l h = omega arith
extra_most m count rank false l h = omega (arith, least rank m)

most_of_rule : (session : SessionData) (extra : Bool) (count rank : ℕ) → session.m ≤ 32 → count ≤ 64
    → output_count session extra count rank ≤ most_outputs
most_of_rule session true count rank l h = extra_most session.m count rank (rank == 0) l h
most_of_rule session false count rank l h = fixed_most count (rank == 0) h

count_sent : (session : SessionData) (seed : List ℕ) (extra : Bool) (count : ℕ) (packets : List Packet) (numbers : List ℕ)
    → session.m ≤ 32 → count ≤ 64
    → length (sent_packets session seed (output_count session extra count) packets numbers) ≤ length numbers * most_outputs
unfolding sent_packets
count_sent session seed extra count packets numbers l h =
    count_flat (batch_outputs session seed (output_count session extra count) packets) numbers
    (λ n. omega (
      arith,
      most_of_rule session extra count (length (kept_of n packets)) l h,
      length-map-range_with_len (λ (number : ℕ). relay_output session seed n number (kept_of n packets)) 0
          (output_count session extra count (length (kept_of n packets))),
    ))

-- ---- what is sent

-- packets of a packet file that are outputs for other packets, and with which each file agrees that agrees with those
abbrev pub SendsOutputs : SessionData → List Packet → List ℕ → Type 0
SendsOutputs session packets output =
    (sent : List Item) × (IsPacketFile session sent output
    × All (IsOutputOf session packets) (packets_of sent)
    × ((file : List ℕ) → AgreesWithAll session packets file → AgreesWithAll session (packets_of sent) file))

sends_outputs : (session : SessionData) (packets sent : List Packet) (output : List ℕ) → All (HasShape session) packets
    → All (IsOutputOf session packets) sent → IsFileOf session sent output → SendsOutputs session packets output
sends_outputs session packets sent output shapes are file =
    let outputs : All (IsOutputOf session packets) (packets_of file.list) =
    subst (λ (ps : List Packet). All (IsOutputOf session packets) ps) (sym file.of_packets) are in (
      file.list,
      (file.file, outputs, λ other agrees. Agrees-outputs_of session packets (packets_of file.list) other shapes outputs agrees),
    )

relayed_file : (seed : List ℕ) (extra : Bool) (count : ℕ) (session : SessionData) (list : List Item) (input : List ℕ)
    (numbers : List ℕ) → count ≤ 64 → IsPacketFile session list input → AreFew list
    → AreHeld (packets_of list) numbers
    → SendsOutputs session (packets_of list)
    (relayed_ending session seed (output_count session extra count) (packets_of list) numbers).output
relayed_file seed extra count session list input numbers small file few held =
    let packets = packets_of list in
    let sent = sent_packets session seed (output_count session extra count) packets numbers in
    let shapes = shapes_from session 0 list file.places in
    let are = are_outputs session seed (output_count session extra count) packets numbers held in
    sends_outputs session packets sent
    (relayed_ending session seed (output_count session extra count) packets numbers).output shapes are
    (file_of session sent file.is_session (HasShape-outputs_of session packets sent shapes are)
    (omega (arith, few, few_held packets numbers held, count_sent session seed extra count packets numbers file.is_session.m_high small)))

-- ---- endings with status 0

-- the input's reading is the one that the ending tells of
sends_as_read : (seed : List ℕ) (extra : Bool) (count : ℕ) (session : SessionData) (list : List Item) (input : List ℕ)
    (ending : Ending) → count ≤ 64 → IsPacketFile session list input → RelaySends seed extra count input ending
    → SendsOutputs session (packets_of list) ending.output
sends_as_read seed extra count session list input ending small file h =
    let same = same_file h.session session h.list list input h.file file in
    let out = relayed_file seed extra count h.session h.list input h.numbers small h.file h.few h.held in
    let own = subst (λ (e : Ending). SendsOutputs h.session (packets_of h.list) e.output) (sym h.ending_is) out in
    let here = subst (λ (s : SessionData). SendsOutputs s (packets_of h.list) ending.output) same.0 own in
    subst (λ (l : List Item). SendsOutputs session (packets_of l) ending.output) same.1 here

pub limit_not_done : statuses.Limit ≡ statuses.Done → ⊥
limit_not_done e = cc

-- a packet file isn't refused, and an input with too many new packets isn't done
pub sends_what_agrees : (seed : List ℕ) (extra : Bool) (count : ℕ) (session : SessionData) (list : List Item) (input : List ℕ)
    (ending : Ending) → count ≤ 64 → IsPacketFile session list input → IsRelayEnding seed extra count input ending
    → ending.status ≡ statuses.Done → SendsOutputs session (packets_of list) ending.output
sends_what_agrees seed extra count session list input ending small file (inl h) done =
    sends_as_read seed extra count session list input ending small file h
sends_what_agrees seed extra count session list input ending small file (inr (inl h)) done =
    absurd (no_file_refused session list input h.end file (IsRefused-few input ending h))
sends_what_agrees seed extra count session list input ending small file (inr (inr h)) done =
    absurd (limit_not_done (sym (ap (λ (x : Ending). x.status) h.ending_is) ∙ done))
