-- From the packets of all symbols of a file, in systematic batches, `sink` gives the file.
use Rattle.std.proofs.Common.{ℕ, zero, suc, get_or, ◌≡◌, ◌+◌, ◌*◌, ◌/◌, ◌%◌, ◌<◌, ◌≤◌, ◌∙◌, inl, inr, sym, ap, subst, true, Bool, List, length, map, arith}
use Rattle.std.specs.Int.{div_ceil}
use Rattle.std.specs.List.{All, Contains, flat_map, range_with_len}
use Rattle.std.proofs.lemmas.Bool.{cases_lt}
use Rattle.std.proofs.lemmas.List.Elements.{All-contains, All-weaker, All-contains_itself, Contains-append_left, Contains-append_right}
use Rattle.std.proofs.lemmas.List.FromFn.{length-map-range_with_len, get_or-map-range_with_len}
use Rattle.std.proofs.lemmas.Grind.{same_number_lists, div_ceil_times}
use Rattle.std.proofs.lemmas.Nat.{div-add-mod', mul-le}
use Rattle.std.proofs.Math.Nat.{mod-lt}
use Rattle.bats_model.specs.Bytes.{AreBytes}
use Rattle.bats_model.specs.Session.{SessionData, IsSession, symbols_of, max_symbols}
use Rattle.bats_model.specs.Symbol.{symbol_byte}
use Rattle.bats_model.specs.Batch.{is_systematic_batch}
use Rattle.bats_model.specs.Coded.{unit_vector}
use Rattle.bats_model.specs.Kept.{kept_count}
use Rattle.bats_model.specs.PacketFile.{HasShape, IsPacketFile, packets_of}
use Rattle.bats_model.specs.Agreement.{Agrees, AgreesWithAll}
use Rattle.bats_model.specs.RightAnswer.{IsOnlyFile}
use Rattle.bats_model.specs.declared.packet.Packet.{Packet}
use Rattle.bats_model.specs.declared.item.Item.{Item}
use Rattle.bats_model.proofs.KeptSpans.{HasVector}
use Rattle.bats_model.proofs.PlainAgreement.{Agrees-plain}
use Rattle.bats_model.proofs.SystematicBatches.{is_systematic_batch-within}
use Rattle.bats_model.proofs.UnitVectors.{IsUnitAt, length-unit_vector}
use Rattle.bats_words.specs.declared.source_options.SourceOptions.{SourceOptions}
use Rattle.tool_run.specs.declared.status.Status.TheVariants as statuses
use Rattle.bats_words.specs.Options.{HasRanges}
use Rattle.tool_source.specs.FileSession.{session_for}
use Rattle.tool_run.specs.Ending.{Ending}
use Rattle.tool_source.specs.Source.{source_ending}
use Rattle.tool_sink.specs.Sink.{IsSinkEnding}
use Rattle.bats_batch.specs.Held.{max_kept}
use Rattle.tool_source.proofs.Counts.{length-within}
use Rattle.tool_laws.proofs.SentPackets.{Sends, sent_packet, batch_packets, sent_packets, packets_for, shapes_for, count-sent, file_for}
use Rattle.tool_laws.specs.GivesBack.{GivesBack}
use Rattle.tool_laws.proofs.FewKept.{few_among}
use Rattle.tool_laws.proofs.GivenBack.{sent_of, AgreesWithAll-among, gives_back_among}
use Rattle.tool_laws.proofs.RelayedFiles.{shapes_from}

-- ---- the packets that are sent

Contains-columns : (f : ℕ → Packet) (n j : ℕ) → j < n → Contains (map f (range_with_len 0 n)) (f j)
Contains-columns f n j h = (
  j,
  omega (arith, length-map-range_with_len f 0 n),
  get_or-map-range_with_len f 0 n j j (f j) h (omega arith),
)

Contains-batches : (f : ℕ → List Packet) (a n k : ℕ) (packet : Packet) → a ≤ k → k < a + n → Contains (f k) packet
    → Contains (flat_map f (range_with_len a n)) packet
Contains-batches f a zero k packet low high there = absurd (omega arith)
Contains-batches f a (suc n) k packet low high there = elim (cases_lt a k) [
  | inl further ↦
      Contains-append_right (f a) (flat_map f (range_with_len (a + 1) n)) packet
      (Contains-batches f (a + 1) n k packet (omega arith) (omega arith) there)
  | inr here ↦
      let first : k ≡ a = omega arith in
      Contains-append_left (f a) (flat_map f (range_with_len (a + 1) n)) packet
      (subst (λ (x : ℕ). Contains (f x) packet) first there)
]

-- each coded packet of the batches is sent
Contains-sent : (session : SessionData) (file : List ℕ) (first batches number j : ℕ) → first ≤ number → number < first + batches
    → j < session.m → Contains (sent_packets session file first batches) (sent_packet session file number j)
Contains-sent session file first batches number j low high column =
    Contains-batches (batch_packets session file) first batches number (sent_packet session file number j) low high
    (Contains-columns (sent_packet session file number) session.m j column)

IsUnitAt-sent : (session : SessionData) (file : List ℕ) (number j : ℕ) → j < session.m
    → IsUnitAt (sent_packet session file number j).coefs j
IsUnitAt-sent session file number j column =
    let size = length-unit_vector session.m j in
    record { within = omega (arith, size); entries = ap (λ (n : ℕ). unit_vector n j) (sym size) }

factor-lt : (a b t : ℕ) → a * t < b * t → a < b
factor-lt a b t h = elim (cases_lt a b) [
  | inl less ↦ less
  | inr more ↦ let k : b * t ≤ a * t = mul-le b t a t more (omega arith) in absurd (omega arith)
]

-- two files that agree with the packet of a symbol have its bytes in common
same_symbol : (session : SessionData) (file other : List ℕ) (packet : Packet) (j c : ℕ)
    → is_systematic_batch session packet.batch ≡ true → IsUnitAt packet.coefs j → length packet.coefs ≡ session.m → 0 < session.t → c < session.t
    → Agrees session file packet → Agrees session other packet
    → symbol_byte session other (packet.batch * session.m + j) c ≡ symbol_byte session file (packet.batch * session.m + j) c
same_symbol session file other packet j c systematic unit size some h a b =
    sym ((Agrees-plain session other packet j b.is_file systematic unit size some).0 b c h)
    ∙ (Agrees-plain session file packet j a.is_file systematic unit size some).0 a c h

-- the packets have each coded packet of the batches that the symbols fill
record Covers (session : SessionData) (file : List ℕ) (packets : List Packet) : Type 0 where
  is_session : IsSession session
  systematic : session.systematic ≡ true
  there : (number j : ℕ) → number * session.m < symbols_of session → j < session.m
      → Contains packets (sent_packet session file number j)

same_byte : (session : SessionData) (file other : List ℕ) (packets : List Packet) → Covers session file packets
    → AgreesWithAll session packets file → AgreesWithAll session packets other → (i : ℕ) → i < session.file_length
    → get_or other i 0 ≡ get_or file i 0
same_byte session file other packets h a b i within =
    let t : ℕ = session.t in
    let m : ℕ = session.m in
    let s : ℕ = i / t in
    let c : ℕ = i % t in
    let number : ℕ = s / m in
    let j : ℕ = s % m in
    let t_some : 0 < t = omega (arith, h.is_session.t_low) in
    let m_some : 0 < m = omega (arith, h.is_session.m_low) in
    let byte : c < t = mod-lt i t_some in
    let column : j < m = mod-lt s m_some in
    let of_symbol : s * t + c ≡ i = div-add-mod' i t in
    let of_batch : number * m + j ≡ s = div-add-mod' s m in
    let covered : session.file_length ≤ symbols_of session * t = (div_ceil_times session.file_length t t_some).0 in
    let symbol : s < symbols_of session = factor-lt s (symbols_of session) t (omega arith) in
    let batch : number * m < symbols_of session = omega arith in
    let packet : Packet = sent_packet session file number j in
    let there : Contains packets packet = h.there number j batch column in
    let place : (number * m + j) * t + c ≡ i = ap (λ (x : ℕ). x * t + c) of_batch ∙ of_symbol in
    let same : symbol_byte session other (number * m + j) c ≡ symbol_byte session file (number * m + j) c =
    same_symbol session file other packet j c (is_systematic_batch-within session number h.systematic batch)
    (IsUnitAt-sent session file number j column) (length-unit_vector m j) t_some byte
    (All-contains (Agrees session file) packets packet a.each there) (All-contains (Agrees session other) packets packet b.each there) in
    subst (λ (x : ℕ). get_or other x 0 ≡ get_or file x 0) place same

IsOnlyFile-covered : (session : SessionData) (file : List ℕ) (packets : List Packet) → Covers session file packets
    → AgreesWithAll session packets file → IsOnlyFile session packets file
IsOnlyFile-covered session file packets h a = record {
  agrees = a;
  only = λ other b. same_number_lists other file (b.is_file.size ∙ sym a.is_file.size)
      (λ i l. same_byte session file other packets h a b i (omega (arith, b.is_file.size)));
}

-- each symbol is sent once: the session is systematic, and its batches are those that the symbols fill
pub record SendsAllOnce (o : SourceOptions) (file : List ℕ) : Type 0 where
  pub systematic : o.systematic ≡ true
  pub first : o.first ≡ 0
  pub batches : o.batches ≡ div_ceil (symbols_of (session_for o (length file))) o.m

-- rounded up to whole batches
rounded_up : (symbols m batches : ℕ) → 0 < m → symbols ≤ max_symbols → batches ≡ div_ceil symbols m → batches * m < max_symbols + m
rounded_up symbols m batches some most is =
    let up : div_ceil symbols m * m < symbols + m = (div_ceil_times symbols m some).1 in
    let same : batches * m ≡ div_ceil symbols m * m = ap (λ (x : ℕ). x * m) is in
    omega (arith, up, same, most)

Covers-sent : (o : SourceOptions) (file : List ℕ) (sent : List Item) (packets : List Packet) → HasRanges o → AreBytes file → SendsAllOnce o file
    → IsPacketFile (session_for o (length file)) sent (source_ending o file).output
    → All (Contains packets) (packets_of sent) → Covers (session_for o (length file)) file packets
Covers-sent o file sent packets ranges bytes once k covers =
    let session = session_for o (length file) in
    let all : symbols_of session ≤ o.batches * o.m =
    length-within (symbols_of session) o.m o.batches (omega (arith, ranges.m_low)) (omega (arith, once.batches)) in
    record {
      is_session = k.is_session;
      systematic = once.systematic;
      there = λ number j batch column.
          let few : number < o.batches = factor-lt number o.batches o.m (omega arith) in
          All-contains (Contains packets) (packets_for o file) (sent_packet session file number j)
          (subst (All (Contains packets)) (sent_of o file sent ranges bytes k) covers)
          (Contains-sent session file o.first o.batches number j (omega (arith, once.first)) (omega arith) column);
    }

-- so few packets are sent that all of them may be kept
few_sent : (o : SourceOptions) (file : List ℕ) (sent : List Item) (packets : List Packet) → HasRanges o → AreBytes file → SendsAllOnce o file
    → IsPacketFile (session_for o (length file)) sent (source_ending o file).output
    → All (HasShape (session_for o (length file))) packets → All (Contains (packets_of sent)) packets → kept_count packets ≤ max_kept
few_sent o file sent packets ranges bytes once k shapes among =
    let session = session_for o (length file) in
    let vectors : (list : List Packet) → All (HasShape session) list → All (HasVector session.m) list =
    λ list. All-weaker (HasShape session) (HasVector session.m) (λ p h. record { size = h.coefs; bytes = h.coef_bytes }) list in
    let all : packets_of sent ≡ packets_for o file = sent_of o file sent ranges bytes k in
    let chosen : All (Contains (packets_for o file)) packets = subst (λ (xs : List Packet). All (Contains xs) packets) all among in
    let kept : kept_count packets ≤ length (packets_for o file) =
    few_among session.m packets (packets_for o file) (vectors packets shapes) (vectors (packets_for o file) (shapes_for o file ranges bytes)) chosen in
    let count : length (packets_for o file) ≡ o.batches * o.m = count-sent session file o.first o.batches in
    let most : o.batches * o.m < max_symbols + o.m = rounded_up (symbols_of session) o.m o.batches (omega (arith, ranges.m_low)) k.is_session.symbols once.batches in
    omega (arith, kept, count, most, ranges.m_high)

is_done : (session : SessionData) (packets : List Packet) (file : List ℕ) (ending : Ending) → GivesBack session packets file ending
    → IsOnlyFile session packets file → kept_count packets ≤ max_kept → (ending.status ≡ statuses.Done) × (ending.output ≡ file)
is_done session packets file ending (inl (_, inl h)) only few = (h.0, h.1)
is_done session packets file ending (inl (_, inr h)) only few = absurd (h.1 only)
is_done session packets file ending (inr h) only few = absurd (h.1 few)

-- from the packets of all symbols, in any order, the file comes back
pub comes_back : (o : SourceOptions) (file : List ℕ) (sent list : List Item) (input : List ℕ) (both : Bool) (ending : Ending)
    → HasRanges o → AreBytes file → SendsAllOnce o file
    → IsPacketFile (session_for o (length file)) sent (source_ending o file).output
    → IsPacketFile (session_for o (length file)) list input → All (Contains (packets_of sent)) (packets_of list)
    → All (Contains (packets_of list)) (packets_of sent) → IsSinkEnding both input ending
    → (ending.status ≡ statuses.Done) × (ending.output ≡ file)
comes_back o file sent list input both ending ranges bytes once k h among covers is =
    let session = session_for o (length file) in
    let agrees = AgreesWithAll-among o file sent (packets_of list) ranges bytes k among in
    is_done session (packets_of list) file ending
    (gives_back_among o file sent list input both ending ranges bytes k h among is)
    (IsOnlyFile-covered session file (packets_of list) (Covers-sent o file sent (packets_of list) ranges bytes once k covers) agrees)
    (few_sent o file sent (packets_of list) ranges bytes once k (shapes_from session 0 list h.places) among)

pub output_comes_back : (o : SourceOptions) (file : List ℕ) (both : Bool) (ending : Ending) → Sends o file → SendsAllOnce o file
    → IsSinkEnding both (source_ending o file).output ending → (ending.status ≡ statuses.Done) × (ending.output ≡ file)
output_comes_back o file both ending h once is =
    let f = file_for o file h in
    comes_back o file f.list f.list (source_ending o file).output both ending h.ranges h.bytes once f.file f.file
    (All-contains_itself (packets_of f.list)) (All-contains_itself (packets_of f.list)) is
