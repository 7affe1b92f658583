use Rattle.std.proofs.Common.{ℕ, ◌≡◌, ◌∙◌, List, false, true, length, ap, sym}
use Rattle.bats_model.specs.Session.{SessionData}
use Rattle.tool_replay.proofs.ArrivedPackets.{IsFile-trial}
use Rattle.tool_replay.proofs.chain.encoder_of.Goals as goal

pub unreachable-requires : goal.unreachable-requires
unreachable-requires c =
    let accepted : false ≡ true = c.in-Err.ensures.accepted.1
    (ap (λ (bytes : List ℕ). length bytes) c.in_ok-file.ensures ∙ (IsFile-trial c.args.options.now).size
    ∙ ap (λ (s : SessionData). s.file_length) (sym c.requires.session)) in
    cc
