-- The packets of items, and how many of them are kept.
use Rattle.std.proofs.Common.{ℕ, ◌≡◌, ◌≤◌, ◌<◌, ◌+◌, Bool, true, false, cond, refl, List, [], ◌∷◌, ◌++◌, length, sym, ap, ◌∙◌, subst, arith}
use Rattle.std.proofs.lemmas.List.{length-append}
use Rattle.std.proofs.lemmas.List.Elements.{All-weaker}
use Rattle.bats_model.specs.Session.{SessionData}
use Rattle.bats_model.specs.PacketFile.{HasShape, IsItemAt, IsPacketFile, most_records, packets_of}
use Rattle.bats_model.specs.Kept.{IsCombination, coefs_of, kept_of, is_new, new_after, kept_count}
use Rattle.bats_model.specs.declared.packet.Packet.{Packet}
use Rattle.bats_model.specs.declared.item.Item.{Item}
use Rattle.bats_model.specs.declared.item.Item.TheVariants as items
use Rattle.bats_model.specs.declared.taken.Taken.TheVariants.{Kept}
use Rattle.bats_model.proofs.KeptSpans.{HasVector, HasVector-shape, is_new-kept}
use Rattle.bats_model.proofs.NewPackets.{if_new, kept_count-push}
use Rattle.bats_format.proofs.JoinedFiles.{packets_of-append}
use Rattle.bats_batch.specs.Basis.{IsTaken}
use Rattle.bats_batch.specs.Held.{HeldData, StandsFor, kept_at, row_count, max_kept}
use Rattle.bats_batch.proofs.Offers.{row_count-stands}
use Rattle.tool_records.specs.Keeping.{AreFew}
use Rattle.tool_records.specs.steps.Came.{HasShapeOf, CameAfterFew, EndsFull}
use Rattle.tool_records.proofs.WalksRead.{same_last}

-- ---- items

-- the item that follows has the session's shape
pub HasShapeOf-place : (session : SessionData) (offset : ℕ) (item : Item) → IsItemAt session offset item → HasShapeOf session item
HasShapeOf-place session offset (items.Header at) h = tt
HasShapeOf-place session offset (items.Packet at packet) h = h.1

-- the packets of items, and one more
pub packets_of-more : (list : List Item) (at : ℕ) (packet : Packet)
    → packets_of (list ++ items.Packet at packet ∷ []) ≡ packets_of list ++ packet ∷ []
unfolding packets_of
packets_of-more list at packet = packets_of-append list (items.Packet at packet ∷ [])

-- there are no more packets than records
pub packets_of-within : (list : List Item) → length (packets_of list) ≤ length list
unfolding packets_of
packets_of-within [] = omega arith
packets_of-within (items.Header at ∷ list) = omega (arith, packets_of-within list)
packets_of-within (items.Packet at packet ∷ list) = omega (arith, packets_of-within list)

-- where one record more stands in a packet file, fewer packets came than there may be records
pub packets_of-room : (session : SessionData) (list : List Item) (item : Item) (bytes : List ℕ)
    → IsPacketFile session (list ++ item ∷ []) bytes → length (packets_of list) + 1 ≤ most_records
packets_of-room session list item bytes file =
    omega (arith, packets_of-within list, file.few, length-append list (item ∷ []))

-- ---- few are kept

-- of no items
pub AreFew-nothing : (list : List Item) → list ≡ [] → AreFew list
unfolding packets_of new_after
AreFew-nothing [] e = omega arith
AreFew-nothing (item ∷ list) e = cc

kept_more : (earlier packets more : List Packet) → length (new_after earlier packets) ≤ length (new_after earlier (packets ++ more))
unfolding new_after
kept_more earlier [] more = omega arith
kept_more earlier (packet ∷ packets) more =
    let rest = kept_more (earlier ++ packet ∷ []) packets more in
    omega (
      arith,
      rest,
      length-append (if_new earlier packet) (new_after (earlier ++ packet ∷ []) packets),
      length-append (if_new earlier packet) (new_after (earlier ++ packet ∷ []) (packets ++ more)),
    )

-- where few of some items' packets are kept, few of the first items' are
pub AreFew-before : (list more : List Item) → AreFew (list ++ more) → AreFew list
AreFew-before list more few =
    let both = ap kept_count (packets_of-append list more) in
    omega (arith, few, both, kept_more [] (packets_of list) (packets_of more))

-- ---- a packet too many

-- a new packet when no more may be kept would be one too many
pub is_too_many : (packet : Packet) (held : HeldData) (list : List Packet) → HasShape held.session packet
    → row_count held.batches ≡ max_kept → IsTaken (kept_at held.batches packet.batch) packet Kept → StandsFor list held
    → ¬ (kept_count (list ++ packet ∷ []) ≤ max_kept)
is_too_many packet held list shape full is stands few =
    let counted : kept_count list ≡ max_kept = sym (row_count-stands list held stands) ∙ full in
    let apart : ¬ IsCombination (coefs_of (kept_at held.batches packet.batch)) packet.coefs = is in
    let new : is_new list packet ≡ true =
    (is_new-kept held.session.m list packet
    (All-weaker (HasShape held.session) (HasVector held.session.m) (HasVector-shape held.session) list stands.shapes)
    (HasVector-shape held.session packet shape)).1
    (subst (λ (ps : List Packet). ¬ IsCombination (coefs_of ps) packet.coefs) (stands.kept packet.batch) apart) in
    let more : kept_count (list ++ packet ∷ []) ≡ kept_count list + 1 =
    kept_count-push list packet ∙ ap (λ b. kept_count list + cond b 1 0) new in
    omega (arith, few, more, counted)

few_by : (packet : Packet) (held : HeldData) (list : List Packet) → HasShape held.session packet → StandsFor list held
    → (IsTaken (kept_at held.batches packet.batch) packet Kept → row_count held.batches < max_kept) → kept_count list ≤ max_kept
    → (b : Bool) → is_new list packet ≡ b → kept_count (list ++ packet ∷ []) ≤ max_kept
few_by packet held list shape stands room few true new =
    let apart : ¬ IsCombination (coefs_of (kept_of packet.batch list)) packet.coefs =
    (is_new-kept held.session.m list packet
    (All-weaker (HasShape held.session) (HasVector held.session.m) (HasVector-shape held.session) list stands.shapes)
    (HasVector-shape held.session packet shape)).0 new in
    let is : IsTaken (kept_at held.batches packet.batch) packet Kept =
    subst (λ (ps : List Packet). ¬ IsCombination (coefs_of ps) packet.coefs) (sym (stands.kept packet.batch)) apart in
    let more : kept_count (list ++ packet ∷ []) ≡ kept_count list + 1 =
    kept_count-push list packet ∙ ap (λ b. kept_count list + cond b 1 0) new in
    omega (arith, more, row_count-stands list held stands, room is)
few_by packet held list shape stands room few false old =
    let same : kept_count (list ++ packet ∷ []) ≡ kept_count list + 0 =
    kept_count-push list packet ∙ ap (λ b. kept_count list + cond b 1 0) old in
    omega (arith, same, few)

-- few are kept with one packet more, where a new one is taken only as long as there is room
pub few_with : (packet : Packet) (held : HeldData) (list : List Packet) → HasShape held.session packet → StandsFor list held
    → (IsTaken (kept_at held.batches packet.batch) packet Kept → row_count held.batches < max_kept) → kept_count list ≤ max_kept
    → kept_count (list ++ packet ∷ []) ≤ max_kept
few_with packet held list shape stands room few = few_by packet held list shape stands room few (is_new list packet) refl

-- ---- the last of the items

-- few were kept before the last item
pub few_before_last : (session : SessionData) (list : List Item) (item : Item) → CameAfterFew session (list ++ item ∷ [])
    → AreFew list
few_before_last session list item came =
    let same = same_last list came.before item came.item came.list_is in
    subst (λ (xs : List Item). AreFew xs) (sym same.0) came.few

-- the item after these is a packet that would be kept when no more may be
pub record MeetsFull (session : SessionData) (list : List Item) (item : Item) : Type 0 where
  pub at : ℕ
  pub packet : Packet
  pub item_is : item ≡ items.Packet at packet
  pub few : AreFew list
  pub full : ¬ AreFew (list ++ item ∷ [])

pub MeetsFull-ends : (session : SessionData) (list : List Item) (item : Item) → EndsFull session (list ++ item ∷ []) → MeetsFull session list item
MeetsFull-ends session list item ends =
    let same = same_last list ends.before item (items.Packet ends.at ends.packet) ends.list_is in
    record {
      at = ends.at;
      packet = ends.packet;
      item_is = same.1;
      few = subst (λ (xs : List Item). AreFew xs) (sym same.0) ends.few;
      full = ends.full;
    }
