-- Packets that a node takes one after another.
use Rattle.std.proofs.Common.{ℕ, ◌≡◌, ◌<◌, ◌≤◌, ◌+◌, ◌*◌, List, length, subst, arith}
use Rattle.bats_batch.specs.Held.{HeldData, row_count}
use Rattle.bats_batch.specs.Held.{StandsFor as HoldsFor}
use Rattle.bats_batch.proofs.Offers.{row_count-stands}
use Rattle.bats_decode.specs.Decoder.{DecoderData}
use Rattle.bats_decode.specs.Decoder.{StandsFor as DecodesFor}
use Rattle.bats_decode.specs.declared.decoder.Solved.{Solved}
use Rattle.bats_model.specs.Kept.{kept_count}
use Rattle.bats_model.specs.Peeling.{IsInactiveList, largest_degree}
use Rattle.bats_model.specs.RightAnswer.{IsRightAnswer}
use Rattle.bats_model.specs.Session.{SessionData}
use Rattle.bats_model.specs.declared.packet.Packet.{Packet}
use Rattle.tool_replay.proofs.ArrivedPackets.{kept_count-le}
use Rattle.tool_replay.specs.steps.Solving.{Solves}
use Rattle.tool_sink.proofs.ToldEndings.{sum_of_work}

-- who has taken fewer packets than may be kept has room for one more
pub has_room : (packets : List Packet) (held : HeldData) → HoldsFor packets held → length packets < 8192 → row_count held.batches < 8192
has_room packets held stands few = omega (arith, row_count-stands packets held stands, kept_count-le packets, few)

-- m operations more, at most, for one packet more
pub work-more : (start before after m i : ℕ) → before ≤ start + i * m → after ≤ before + m → after ≤ start + (i + 1) * m
work-more start before after m i so_far now =
    let times : (i + 1) * m ≡ i * m + m = omega arith in
    omega (arith, so_far, now, times)

pub Solves-solved : (packets : List Packet) (decoder : DecoderData) (session : SessionData) (solved : Solved) (first mid last plan : ℕ)
    → decoder.held.session ≡ session → DecodesFor packets decoder → IsRightAnswer decoder.held.session packets solved.answer
    → solved.kept ≡ kept_count packets → (list : List ℕ) × (IsInactiveList decoder.held.session packets list × (solved.inactive ≡ length list))
    → plan ≤ row_count decoder.held.batches * (largest_degree decoder.held.session packets + solved.inactive)
    → mid ≤ first + length packets * session.m → last ≡ mid + plan → Solves session packets first last solved
Solves-solved packets decoder session solved first mid last plan same stands right kept inactive bound offers rise =
    let degree : ℕ = largest_degree session packets in
    let rows : row_count decoder.held.batches ≡ kept_count packets = row_count-stands packets decoder.held stands.holds in
    let of_session : plan ≤ row_count decoder.held.batches * (degree + solved.inactive) =
    subst (λ (s : SessionData). plan ≤ row_count decoder.held.batches * (largest_degree s packets + solved.inactive)) same bound in
    let most : plan ≤ kept_count packets * (degree + length inactive.0) =
    subst (λ (n : ℕ). plan ≤ n * (degree + length inactive.0)) rows
    (subst (λ (n : ℕ). plan ≤ row_count decoder.held.batches * (degree + n)) inactive.1.1 of_session) in
    record {
      right = subst (λ (s : SessionData). IsRightAnswer s packets solved.answer) same right;
      kept = kept;
      inactive = inactive.0;
      is_inactive = subst (λ (s : SessionData). IsInactiveList s packets inactive.0) same inactive.1.0;
      counted = inactive.1.1;
      worked = sum_of_work first mid last plan (length packets * session.m) (kept_count packets * (degree + length inactive.0)) offers most rise;
    }
