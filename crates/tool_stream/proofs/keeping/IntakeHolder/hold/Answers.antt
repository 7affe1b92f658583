use Rattle.std.proofs.Common.{◌+◌, arith, refl, subst, sym}
use Rattle.bats_batch.specs.Held.{HeldData, StandsFor}
use Rattle.tool_stream.specs.declared.keeping.Intake.{Intake}
use Rattle.tool_stream.proofs.KeptItems.{HasTakenIn-packet, not_taken_in}
use Rattle.tool_stream.proofs.keeping.IntakeHolder.hold.Goals as goal

pub returns-in-Ok-clause-held : goal.returns-in-Ok-clause-held
returns-in-Ok-clause-held g c first session packets can =
    let after : Intake = record { session = c.args.self.now.session; mixer = c.offer.new.self; packets = c.args.self.now.packets + 1 } in
    HasTakenIn-packet first.mixer.seed session packets c.args.packet.now c.args.self.now after can refl c.in-Ok.ensures.offers.session
    c.in-Ok.ensures.seed refl c.in-Ok.ensures.offers.stands
    (λ list stands. omega (
      arith,
      c.rows-few.ensures.limit,
      c.rows-few.ensures.kept list (subst (λ (held : HeldData). StandsFor list held) (sym c.held.ensures) stands),
    ))
    c.in-Ok.ensures.sent

pub returns-in-Err-clause-held : goal.returns-in-Err-clause-held
returns-in-Err-clause-held g c first session packets can =
    let after : Intake = record { session = c.args.self.now.session; mixer = c.offer.new.self; packets = c.args.self.now.packets + 1 } in
    not_taken_in first.mixer.seed session packets c.args.packet.now c.args.self.now after can c.in-Err.end c.in-Err.ensures.offers.full
