-- What was solved of packets, and the parts of the line on it.
use Rattle.std.specs.Prelude.{ℕ, ◌≡◌, ◌≤◌, ◌+◌, List, ◌++◌, codes, length}
use Rattle.std.specs.Fmt.{decimal}
use Rattle.bats_decode.specs.declared.decoder.Solved.{Solved}
use Rattle.bats_model.specs.Kept.{kept_count}
use Rattle.bats_model.specs.Peeling.{IsInactiveList, largest_degree, payload_bound}
use Rattle.bats_model.specs.RightAnswer.{IsRightAnswer}
use Rattle.bats_model.specs.Session.{SessionData}
use Rattle.bats_model.specs.declared.packet.Packet.{Packet}

-- this was solved of the packets, by operations on payloads of a counter that was first and is last so
pub record Solves (session : SessionData) (packets : List Packet) (first last : ℕ) (solved : Solved) : Type 0 where
  pub right : IsRightAnswer session packets solved.answer
  pub kept : solved.kept ≡ kept_count packets
  pub inactive : List ℕ
  pub is_inactive : IsInactiveList session packets inactive
  pub counted : solved.inactive ≡ length inactive
  pub worked : last ≤ first + payload_bound (length packets) session.m (kept_count packets) (largest_degree session packets) (length inactive)

-- the line, up to the batches
abbrev pub numbers_part : ℕ → ℕ → ℕ → List ℕ
numbers_part number symbols batches =
    codes "trial number=" ++ (decimal number ++ (codes " symbols=" ++ (decimal symbols ++ (codes " batches=" ++ decimal batches))))

-- from there up to the answer
abbrev pub arrivals_part : ℕ → ℕ → ℕ → List ℕ
arrivals_part arrivals kept inactive =
    codes " arrived=" ++ (decimal arrivals ++ (codes " kept=" ++ (decimal kept ++ (codes " inactive="
    ++ (decimal inactive ++ codes " ")))))
