-- What arrives on the hops of a trial: packets of its session that its file agrees with, and never too many.
use Rattle.std.proofs.Common.{ℕ, zero, suc, ◌≡◌, ◌<◌, ◌≤◌, ◌+◌, ◌^◌, ◌∙◌, Bool, true, false, if◌then◌else◌, List, [], ◌∷◌, ◌++◌, length, get_or, flat_map, sym, ap, refl, subst, arith}
use Rattle.std.specs.Prelude.{All}
use Rattle.std.specs.List.{range_with_len}
use Rattle.std.proofs.lemmas.List.Elements.{All-nil, All-head, All-tail, All-cons, All-append, All-map, All-weaker}
use Rattle.std.proofs.lemmas.List.FromFn.{length-range_with_len, get_or-range_with_len, length-map-range_with_len}
use Rattle.bats_model.specs.Session.{SessionData}
use Rattle.bats_model.specs.Agreement.{IsFile, Agrees, AgreesWithAll}
use Rattle.bats_model.specs.Kept.{is_new, kept_count, kept_of, new_after}
use Rattle.bats_model.specs.PacketFile.{HasShape}
use Rattle.bats_batch.specs.Held.{StandsFor, kept_at}
use Rattle.bats_model.specs.Relay.{relay_output, relay_outputs}
use Rattle.bats_model.specs.declared.packet.Packet.{Packet}
use Rattle.bats_model.proofs.EachBatch.{key_byte-lt}
use Rattle.bats_model.proofs.KeptSpans.{All-kept_of}
use Rattle.bats_relay.proofs.OutputRows.{HasShape-output}
use Rattle.bats_relay.proofs.OutputAgreement.{Agrees-taken}
use Rattle.bats_relay.specs.Mixer.{MixerData}
use Rattle.bats_relay.specs.Rule.{fixed_count}
use Rattle.bats_script.specs.Trial.{trial_file, trial_file_key}
use Rattle.bats_model.specs.Key.{key_byte}
use Rattle.bats_words.specs.Options.{HasTrialRanges}
use Rattle.bats_words.specs.declared.trial_options.TrialOptions.{TrialOptions}
use Rattle.bats_world.specs.World.{source_packet}
use Rattle.bats_world.proofs.Honest.{IsHonest, HasShape-source, Agrees-source}
use Rattle.tool_replay.specs.Trial.{arrived, surviving, is_lost, of_batches, relay_batch, relay_seed, source_batch, trial_session}
use Rattle.tool_replay.specs.steps.Hops.{coded_batch, held_outputs}
use Rattle.tool_replay.proofs.SentPackets.{flat_map-range_next, fixed_count-le, length-batches}

-- ---- what arrives of some packets

all_if : (P : Packet → Type 0) (lost : Bool) (packet : Packet) (rest : List Packet) → P packet → All P rest
    → All P (if lost then rest else packet ∷ rest)
all_if P true packet rest is all = all
all_if P false packet rest is all = All-cons P packet rest is all

pub All-surviving : (P : Packet → Type 0) (options : TrialOptions) (hop place : ℕ) (packets : List Packet) → All P packets
    → All P (surviving options hop place packets)
unfolding surviving
All-surviving P options hop place [] all = All-nil P
All-surviving P options hop place (packet ∷ packets) all =
    all_if P (is_lost options hop place) packet (surviving options hop (place + 1) packets) (All-head P packet packets all)
    (All-surviving P options hop (place + 1) packets (All-tail P packet packets all))

length_if : (lost : Bool) (packet : Packet) (rest : List Packet) → length (if lost then rest else packet ∷ rest) ≤ 1 + length rest
length_if true packet rest = omega arith
length_if false packet rest = omega arith

pub length-surviving : (options : TrialOptions) (hop place : ℕ) (packets : List Packet) → length (surviving options hop place packets) ≤ length packets
unfolding surviving
length-surviving options hop place [] = omega arith
length-surviving options hop place (packet ∷ packets) =
    omega (
      arith,
      length_if (is_lost options hop place) packet (surviving options hop (place + 1) packets),
      length-surviving options hop (place + 1) packets,
    )

-- ---- what is sent of all batches

All-batches : (P : Packet → Type 0) (f : ℕ → List Packet) (n : ℕ) → ((batch : ℕ) → batch < n → All P (f batch))
    → All P (flat_map f (range_with_len 0 n))
All-batches P f zero each = All-nil P
All-batches P f (suc n) each =
    let next : n + 1 ≡ suc n = omega arith in
    subst (λ (k : ℕ). All P (flat_map f (range_with_len 0 k))) next
    (subst (All P) (sym (flat_map-range_next f n))
    (All-append P (flat_map f (range_with_len 0 n)) (f n) (All-batches P f n (λ batch low. each batch (omega (arith, low)))) (each n (omega arith))))

-- ---- the file agrees with all of it

abbrev pub file_of : TrialOptions → List ℕ
file_of options = trial_file options.number options.length

pub IsFile-trial : (options : TrialOptions) → IsFile (trial_session options) (file_of options)
unfolding trial_file
IsFile-trial options =
    let key : List ℕ = trial_file_key options.number in
    record {
      size = length-map-range_with_len (λ i. key_byte key i) 0 options.length;
      bytes = All-map (λ byte. byte < 256) (λ (i : ℕ). key_byte key i) (range_with_len 0 options.length)
          (λ k d within. key_byte-lt key (get_or (range_with_len 0 options.length) k d));
    }

abbrev pub HonestIn : TrialOptions → Packet → Type 0
HonestIn options = IsHonest (trial_session options) (file_of options)

column-lt : (m k d : ℕ) → k < length (range_with_len 0 m) → get_or (range_with_len 0 m) k d < m
column-lt m k d within = omega (arith, within, length-range_with_len 0 m, get_or-range_with_len 0 m k d (omega (arith, within, length-range_with_len 0 m)))

honest-source : (options : TrialOptions) (batch : ℕ) → batch < 2 ^ 32 → All (HonestIn options) (source_batch options batch)
unfolding source_batch
honest-source options batch range =
    let session : SessionData = trial_session options in
    All-map (HonestIn options) (source_packet session (file_of options) batch) (range_with_len 0 options.m)
    (λ k d within. record {
      shape = HasShape-source session (file_of options) batch (get_or (range_with_len 0 options.m) k d) range (IsFile-trial options);
      agrees = Agrees-source session (file_of options) batch (get_or (range_with_len 0 options.m) k d) (IsFile-trial options)
          (column-lt options.m k d within);
    })

module _ (options : TrialOptions) (packets : List Packet) (honest : All (HonestIn options) packets) where
  pub shapes-honest : All (HasShape (trial_session options)) packets
  shapes-honest = All-weaker (HonestIn options) (HasShape (trial_session options)) (λ p is. is.shape) packets honest

  pub agrees-honest : AgreesWithAll (trial_session options) packets (file_of options)
  agrees-honest = record {
    is_file = IsFile-trial options;
    each = All-weaker (HonestIn options) (Agrees (trial_session options) (file_of options)) (λ p is. is.agrees) packets honest;
  }

  honest-relay : (relay batch : ℕ) → batch < 2 ^ 32 → All (HonestIn options) (relay_batch options relay packets batch)
  unfolding relay_batch
  honest-relay relay batch range =
      let session : SessionData = trial_session options in
      let seed : List ℕ = relay_seed options.number relay in
      let numbers : List ℕ = range_with_len 0 (fixed_count options.m (length (kept_of batch packets))) in
      All-map (HonestIn options) (λ (number : ℕ). relay_output session seed batch number (kept_of batch packets)) numbers
      (λ k d within. record {
        shape = HasShape-output session seed batch (get_or numbers k d) (kept_of batch packets) range
            (All-kept_of (HasShape session) batch packets shapes-honest);
        agrees = Agrees-taken session seed batch (get_or numbers k d) packets (file_of options) range shapes-honest agrees-honest;
      })

pub honest-arrived : (options : TrialOptions) → HasTrialRanges options → (hop : ℕ) → All (HonestIn options) (arrived options hop)
unfolding arrived
honest-arrived options ranges zero =
    All-surviving (HonestIn options) options 0 0 (of_batches options (source_batch options))
    (All-batches (HonestIn options) (source_batch options) options.batches
    (λ batch low. honest-source options batch (omega (arith, low, ranges.batches_high))))
honest-arrived options ranges (suc hop) =
    All-surviving (HonestIn options) options (hop + 1) 0 (of_batches options (relay_batch options (hop + 1) (arrived options hop)))
    (All-batches (HonestIn options) (relay_batch options (hop + 1) (arrived options hop)) options.batches
    (λ batch low. honest-relay options (arrived options hop) (honest-arrived options ranges hop) (hop + 1) batch
    (omega (arith, low, ranges.batches_high))))

-- ---- and no more than are sent

length-source : (options : TrialOptions) (batch : ℕ) → length (source_batch options batch) ≤ options.m
unfolding source_batch
length-source options batch =
    omega (arith, length-map-range_with_len (source_packet (trial_session options) (file_of options) batch) 0 options.m)

length-relay : (options : TrialOptions) (relay : ℕ) (packets : List Packet) (batch : ℕ) → length (relay_batch options relay packets batch) ≤ options.m
unfolding relay_batch
length-relay options relay packets batch =
    let count : ℕ = fixed_count options.m (length (kept_of batch packets)) in
    omega (
      arith,
      length-map-range_with_len (λ (number : ℕ). relay_output (trial_session options) (relay_seed options.number relay) batch number (kept_of batch packets)) 0 count,
      fixed_count-le options.m (length (kept_of batch packets)),
    )

pub few-arrived : (options : TrialOptions) → HasTrialRanges options → (hop : ℕ) → length (arrived options hop) ≤ 8192
unfolding arrived
few-arrived options ranges zero =
    omega (
      arith,
      length-surviving options 0 0 (of_batches options (source_batch options)),
      length-batches (source_batch options) options.m options.batches (length-source options),
      ranges.few_packets,
    )
few-arrived options ranges (suc hop) =
    let relayed : ℕ → List Packet = relay_batch options (hop + 1) (arrived options hop) in
    omega (
      arith,
      length-surviving options (hop + 1) 0 (of_batches options relayed),
      length-batches relayed options.m options.batches (length-relay options (hop + 1) (arrived options hop)),
      ranges.few_packets,
    )

-- ---- no more of some packets are kept than there are

new_one : (new : Bool) (packet : Packet) (rest : List Packet)
    → length ((if new then packet ∷ [] else []) ++ rest) ≤ 1 + length rest
new_one true packet rest = omega arith
new_one false packet rest = omega arith

length-new_after : (earlier packets : List Packet) → length (new_after earlier packets) ≤ length packets
unfolding new_after
length-new_after earlier [] = omega arith
length-new_after earlier (packet ∷ packets) =
    omega (
      arith,
      new_one (is_new earlier packet) packet (new_after (earlier ++ packet ∷ []) packets),
      length-new_after (earlier ++ packet ∷ []) packets,
    )

pub kept_count-le : (packets : List Packet) → kept_count packets ≤ length packets
kept_count-le packets = length-new_after [] packets

pub shapes-arrived : (options : TrialOptions) → HasTrialRanges options → (hop : ℕ) (session : SessionData) (packets : List Packet)
    → session ≡ trial_session options → packets ≡ arrived options hop → All (HasShape session) packets
shapes-arrived options ranges hop session packets same are =
    subst (All (HasShape session)) (sym are)
    (subst (λ (s : SessionData). All (HasShape s) (arrived options hop)) (sym same)
    (shapes-honest options (arrived options hop) (honest-arrived options ranges hop)))

-- ---- as it is sent

map-same : (f g : ℕ → List Packet) (numbers : List ℕ) → ((n : ℕ) → f n ≡ g n) → flat_map f numbers ≡ flat_map g numbers
map-same f g [] same = refl
map-same f g (n ∷ numbers) same =
    ap (λ (ps : List Packet). ps ++ flat_map f numbers) (same n) ∙ ap (λ (ps : List Packet). g n ++ ps) (map-same f g numbers same)

source-is : (options : TrialOptions) (batch : ℕ) → coded_batch (trial_session options) (file_of options) batch ≡ source_batch options batch
unfolding source_batch
source-is options batch = refl

pub arrived-source : (options : TrialOptions) (session : SessionData) (file : List ℕ) (packets : List Packet) → session ≡ trial_session options
    → file ≡ file_of options
    → packets ≡ surviving options 0 0 (flat_map (coded_batch session file) (range_with_len 0 options.batches)) → packets ≡ arrived options 0
unfolding arrived
arrived-source options session file packets same is sent =
    sent ∙ ap (λ (s : SessionData). surviving options 0 0 (flat_map (coded_batch s file) (range_with_len 0 options.batches))) same
    ∙ ap (λ (f : List ℕ). surviving options 0 0 (flat_map (coded_batch (trial_session options) f) (range_with_len 0 options.batches))) is
    ∙ ap (surviving options 0 0)
    (map-same (coded_batch (trial_session options) (file_of options)) (source_batch options) (range_with_len 0 options.batches) (source-is options))

relay-is : (options : TrialOptions) (relay : ℕ) (packets : List Packet) (mixer : MixerData) → StandsFor packets mixer.held
    → mixer.held.session ≡ trial_session options → mixer.seed ≡ relay_seed options.number relay
    → (batch : ℕ) → held_outputs mixer options.m batch ≡ relay_batch options relay packets batch
unfolding held_outputs relay_batch
relay-is options relay packets mixer stands session seed batch =
    let outputs : SessionData → List ℕ → List Packet → List Packet = λ s key kept.
    relay_outputs s key batch 0 (fixed_count options.m (length kept)) kept in
    ap (λ (s : SessionData). outputs s mixer.seed (kept_at mixer.held.batches batch)) session
    ∙ ap (λ (key : List ℕ). outputs (trial_session options) key (kept_at mixer.held.batches batch)) seed
    ∙ ap (λ (kept : List Packet). outputs (trial_session options) (relay_seed options.number relay) kept) (stands.kept batch)

pub arrived-relay : (options : TrialOptions) (relay : ℕ) (packets : List Packet) (mixer : MixerData) (sent : List Packet)
    → StandsFor packets mixer.held → mixer.held.session ≡ trial_session options → mixer.seed ≡ relay_seed options.number relay
    → sent ≡ surviving options relay 0 (flat_map (held_outputs mixer options.m) (range_with_len 0 options.batches))
    → sent ≡ surviving options relay 0 (of_batches options (relay_batch options relay packets))
arrived-relay options relay packets mixer sent stands session seed is =
    is ∙ ap (surviving options relay 0)
    (map-same (held_outputs mixer options.m) (relay_batch options relay packets) (range_with_len 0 options.batches)
    (relay-is options relay packets mixer stands session seed))

arrived-suc : (options : TrialOptions) (hop : ℕ)
    → surviving options (hop + 1) 0 (of_batches options (relay_batch options (hop + 1) (arrived options hop))) ≡ arrived options (hop + 1)
unfolding arrived
arrived-suc options hop =
    let next : suc hop ≡ hop + 1 = omega arith in
    ap (arrived options) next

pub arrived-next : (options : TrialOptions) (hop : ℕ) (packets sent : List Packet) → packets ≡ arrived options hop
    → sent ≡ surviving options (hop + 1) 0 (of_batches options (relay_batch options (hop + 1) packets)) → sent ≡ arrived options (hop + 1)
arrived-next options hop packets sent are is =
    is ∙ ap (λ (ps : List Packet). surviving options (hop + 1) 0 (of_batches options (relay_batch options (hop + 1) ps))) are
    ∙ arrived-suc options hop
