use Rattle.std.proofs.Common.{ap, arith, inl, inr, Err}
use Rattle.tool_replay.proofs.TrialSessions.{none-bad, not-many}
use Rattle.tool_replay.proofs.trialing.session_of.Goals as goal

pub unreachable-requires : goal.unreachable-requires
unreachable-requires c =
    let r = c.requires in
    none-bad c.in-Err.field-0
    (λ h. elim (c.in-Err.ensures.batch_size.0 (ap Err h)) [ inl zero_m ↦ omega (arith, r.m_low) | inr large ↦ omega (arith, r.m_high) ])
    (λ h. let w = c.in-Err.ensures.symbol_size.0 (ap Err h) in
    elim w.2 [ inl zero_t ↦ omega (arith, r.t_low) | inr large ↦ omega (arith, r.t_high) ])
    (λ h. let w = c.in-Err.ensures.table.0 (ap Err h) in omega (arith, w.4, r.table_high))
    (λ n h. let w = (c.in-Err.ensures.too_long n).0 (ap Err h) in
    not-many c.args.options.now.length c.args.options.now.t n r.t_low r.few_symbols w.5 w.6)
