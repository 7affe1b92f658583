-- What `sink` gives back of packets with which a file agrees, and of those that `source` sends of it.
use Rattle.std.proofs.Common.{ℕ, ◌≡◌, ◌≤◌, ◌⊎◌, ◌∙◌, inl, inr, sym, ap, refl, subst, Bool, false, List, [], length}
use Rattle.std.specs.List.{All, Contains}
use Rattle.std.proofs.lemmas.List.Elements.{All-contains, All-weaker, All-contains_itself}
use Rattle.bats_model.specs.Bytes.{AreBytes}
use Rattle.bats_model.specs.Session.{SessionData}
use Rattle.bats_model.specs.Symbol.{symbol_byte}
use Rattle.bats_model.specs.Kept.{kept_count}
use Rattle.bats_model.specs.PacketFile.{IsPacketFile, packets_of}
use Rattle.bats_model.specs.Agreement.{Agrees, AgreesWithAll}
use Rattle.bats_model.specs.RightAnswer.{IsRightAnswer}
use Rattle.bats_model.specs.declared.packet.Packet.{Packet}
use Rattle.bats_model.specs.declared.item.Item.{Item}
use Rattle.bats_model.specs.declared.answer.Answer.{Answer}
use Rattle.bats_model.specs.declared.answer.Answer.TheVariants.{File, Inconsistent, NeedMore}
use Rattle.bats_format.proofs.PacketFiles.{same_file}
use Rattle.bats_format.proofs.Refusals.{no_file_refused}
use Rattle.bats_words.specs.declared.source_options.SourceOptions.{SourceOptions}
use Rattle.tool_run.specs.declared.status.Status.TheVariants as statuses
use Rattle.bats_words.specs.Options.{HasRanges, IsSeed}
use Rattle.tool_source.specs.FileSession.{session_for}
use Rattle.tool_run.specs.Ending.{Ending}
use Rattle.tool_source.specs.Source.{source_ending, source_promise}
use Rattle.bats_batch.specs.Held.{max_kept}
use Rattle.tool_sink.specs.Sink.{IsSinkEnding, answer_ending}
use Rattle.tool_laws.specs.GivesBack.{GivesBack}
use Rattle.tool_records.proofs.RefusedReadings.{IsRefused-few}
use Rattle.tool_records.proofs.KeptEndings.{no_stop}
use Rattle.tool_laws.proofs.SentPackets.{Sends, packets_for, AgreesWithAll-sent, IsFile-for, file_for}

-- ---- packets with which a file agrees

GivesBack-answer : (both : Bool) (session other : SessionData) (packets others : List Packet) (inactive : ℕ) (file : List ℕ) (answer : Answer)
    → kept_count packets ≤ max_kept → IsRightAnswer session packets answer → AgreesWithAll session packets file
    → GivesBack session packets file (answer_ending both other others inactive answer)
GivesBack-answer both session other packets others inactive file (File f) few right a =
    let same : f ≡ file = sym (right.only file a) in
    inl (few, inl (refl, same, record { agrees = a; only = λ g b. right.only g b ∙ same }))
GivesBack-answer both session other packets others inactive file Inconsistent few right a = absurd (right.none file a)
GivesBack-answer both session other packets others inactive file (NeedMore s first second) few right a =
    inl (
      few,
      inr (
        refl,
        λ h.
            let same : first ≡ second = h.only first right.first_agrees ∙ sym (h.only second right.second_agrees) in
            right.differ (λ c l. ap (λ (x : List ℕ). symbol_byte session x s c) same),
      ),
    )

pub gives_back : (session : SessionData) (list : List Item) (input file : List ℕ) (both : Bool) (ending : Ending)
    → IsPacketFile session list input → AgreesWithAll session (packets_of list) file → IsSinkEnding both input ending
    → GivesBack session (packets_of list) file ending
gives_back session list input file both ending h a (inl k) =
    let same = same_file session k.session list k.list input h k.file in
    let right : IsRightAnswer session (packets_of list) k.answer =
    subst (λ (x : SessionData). IsRightAnswer x (packets_of list) k.answer) (sym same.0)
    (subst (λ (x : List Item). IsRightAnswer k.session (packets_of x) k.answer) (sym same.1) k.right) in
    let few : kept_count (packets_of list) ≤ max_kept =
    subst (λ (x : List Item). kept_count (packets_of x) ≤ max_kept) (sym same.1) k.few in
    subst (GivesBack session (packets_of list) file) (sym k.ending_is)
    (GivesBack-answer both session k.session (packets_of list) (packets_of k.list) (length k.inactive) file k.answer few right a)
gives_back session list input file both ending h a (inr (inl k)) =
    absurd (no_file_refused session list input k.end h (IsRefused-few input ending k))
gives_back session list input file both ending h a (inr (inr k)) =
    inr (ap (λ (x : Ending). x.status) k.ending_is, λ few. no_stop input session list ending h few (inr k))

-- where both files aren't asked for, what isn't done writes nothing
NoOutput-answer : (session : SessionData) (others : List Packet) (inactive : ℕ) (answer : Answer)
    → ((answer_ending false session others inactive answer).status ≡ statuses.Done)
    ⊎ ((answer_ending false session others inactive answer).output ≡ [])
NoOutput-answer session others inactive (File f) = inl refl
NoOutput-answer session others inactive Inconsistent = inr refl
NoOutput-answer session others inactive (NeedMore s first second) = inr refl

pub done_or_nothing : (input : List ℕ) (ending : Ending) → IsSinkEnding false input ending
    → (ending.status ≡ statuses.Done) ⊎ (ending.output ≡ [])
done_or_nothing input ending (inl k) =
    subst (λ (x : Ending). (x.status ≡ statuses.Done) ⊎ (x.output ≡ [])) (sym k.ending_is) (NoOutput-answer k.session (packets_of k.list) (length k.inactive) k.answer)
done_or_nothing input ending (inr (inl k)) = inr (ap (λ (x : Ending). x.output) k.ending_is)
done_or_nothing input ending (inr (inr k)) = inr (ap (λ (x : Ending). x.output) k.ending_is)

-- ---- packets that `source` sends

-- what was sent is the ending on the file
pub of_sent : (o : SourceOptions) (file : List ℕ) (sent : Ending) (records : List Item) → (source_promise o).ends file sent
    → IsPacketFile (session_for o (length file)) records sent.output
    → IsPacketFile (session_for o (length file)) records (source_ending o file).output
of_sent o file sent records is k = subst (λ (x : Ending). IsPacketFile (session_for o (length file)) records x.output) is k

-- a packet file of the output has the packets that are sent
pub sent_of : (o : SourceOptions) (file : List ℕ) (sent : List Item) → HasRanges o → AreBytes file
    → IsPacketFile (session_for o (length file)) sent (source_ending o file).output → packets_of sent ≡ packets_for o file
sent_of o file sent ranges bytes k =
    let session = session_for o (length file) in
    let seed : IsSeed o.seed = record { size = k.is_session.seed; bytes = k.is_session.seed_bytes } in
    let h : Sends o file = record { ranges = ranges; seed = seed; bytes = bytes; symbols = k.is_session.symbols } in
    let f = file_for o file h in
    ap packets_of (same_file session session sent f.list (source_ending o file).output k f.file).1 ∙ f.of_packets

-- the file agrees with packets among those that are sent
pub AgreesWithAll-among : (o : SourceOptions) (file : List ℕ) (sent : List Item) (packets : List Packet) → HasRanges o → AreBytes file
    → IsPacketFile (session_for o (length file)) sent (source_ending o file).output
    → All (Contains (packets_of sent)) packets → AgreesWithAll (session_for o (length file)) packets file
AgreesWithAll-among o file sent packets ranges bytes k among =
    let session = session_for o (length file) in
    let f = IsFile-for o file bytes in
    let agrees : AgreesWithAll session (packets_of sent) file =
    subst (λ (x : List Packet). AgreesWithAll session x file) (sym (sent_of o file sent ranges bytes k))
    (AgreesWithAll-sent session file o.first o.batches f) in
    record {
      is_file = f;
      each = All-weaker (Contains (packets_of sent)) (Agrees session file)
          (λ packet there. All-contains (Agrees session file) (packets_of sent) packet agrees.each there) packets among;
    }

pub gives_back_among : (o : SourceOptions) (file : List ℕ) (sent list : List Item) (input : List ℕ) (both : Bool) (ending : Ending)
    → HasRanges o → AreBytes file → IsPacketFile (session_for o (length file)) sent (source_ending o file).output
    → IsPacketFile (session_for o (length file)) list input → All (Contains (packets_of sent)) (packets_of list)
    → IsSinkEnding both input ending → GivesBack (session_for o (length file)) (packets_of list) file ending
gives_back_among o file sent list input both ending ranges bytes k h among is =
    gives_back (session_for o (length file)) list input file both ending h
    (AgreesWithAll-among o file sent (packets_of list) ranges bytes k among) is

-- ---- the output of `source` itself

-- the file, or none yet
abbrev pub IsFileOrNone : List ℕ → Ending → Type 0
IsFileOrNone file ending =
    ((ending.status ≡ statuses.Done) × (ending.output ≡ file))
    ⊎ ((ending.status ≡ statuses.NeedMore) ⊎ (ending.status ≡ statuses.Limit))

IsFileOrNone-gives : (session : SessionData) (packets : List Packet) (file : List ℕ) (ending : Ending)
    → GivesBack session packets file ending → IsFileOrNone file ending
IsFileOrNone-gives session packets file ending (inl (few, inl h)) = inl (h.0, h.1)
IsFileOrNone-gives session packets file ending (inl (few, inr h)) = inr (inl h.0)
IsFileOrNone-gives session packets file ending (inr h) = inr (inr h.0)

pub output_given_back : (o : SourceOptions) (file : List ℕ) (both : Bool) (ending : Ending) → Sends o file
    → IsSinkEnding both (source_ending o file).output ending → IsFileOrNone file ending
output_given_back o file both ending h is =
    let session = session_for o (length file) in
    let f = file_for o file h in
    IsFileOrNone-gives session (packets_of f.list) file ending
    (gives_back_among o file f.list f.list (source_ending o file).output both ending h.ranges h.bytes f.file f.file
    (All-contains_itself (packets_of f.list)) is)
