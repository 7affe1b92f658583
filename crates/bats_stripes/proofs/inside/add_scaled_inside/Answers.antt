use Rattle.std.proofs.Common.{◌≤◌, ◌+◌, inl, inr, arith}
use Rattle.gf_rows.proofs.BufferLemmas.{add_scaled_in_front, add_scaled_in_back}
use Rattle.bats_stripes.proofs.inside.add_scaled_inside.Goals as goal

pub returns-then-dst-src : goal.returns-then-dst-src
returns-then-dst-src c =
    let apart : c.args.dst + c.args.width ≤ c.args.src = elim c.requires.apart [ inl h ↦ h | inr h ↦ omega arith ] in
    add_scaled_in_front c.args.bytes.now c.split_at_mut-front.result.0.now c.split_at_mut-front.result.1.now c.add_scaled.new.dst c.args.width c.args.dst c.args.c c.args.src
    c.split_at_mut-front.ensures.front c.split_at_mut-front.ensures.back apart c.requires.src c.add_scaled.ensures

pub returns-else-dst-src : goal.returns-else-dst-src
returns-else-dst-src c =
    let apart : c.args.src + c.args.width ≤ c.args.dst = elim c.requires.apart [ inl h ↦ omega arith | inr h ↦ h ] in
    add_scaled_in_back c.args.bytes.now c.split_at_mut-front-else-dst-src.result.0.now c.split_at_mut-front-else-dst-src.result.1.now c.add_scaled-else-dst-src.new.dst c.args.width c.args.dst c.args.c c.args.src
    c.split_at_mut-front-else-dst-src.ensures.front c.split_at_mut-front-else-dst-src.ensures.back apart c.requires.dst c.add_scaled-else-dst-src.ensures
