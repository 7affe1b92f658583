use Rattle.std.proofs.Common.{ℕ, ◌≡◌, ◌≤◌, ◌+◌, ◌*◌, ◌∙◌, ap, sym, subst, arith, List, All, length}
use Rattle.gf_rows.specs.declared.operation.Op.{Op}
use Rattle.gf_rows.specs.Operation.{FitsRows}
use Rattle.bats_model.specs.Session.{SessionData}
use Rattle.bats_model.specs.Peeling.{IsInactiveList, largest_degree}
use Rattle.bats_model.specs.PacketFile.{HasShape}
use Rattle.bats_model.specs.RightAnswer.{IsRightAnswer}
use Rattle.bats_model.specs.declared.packet.Packet.{Packet}
use Rattle.bats_stripes.specs.Columns.{IsReplayed}
use Rattle.bats_batch.specs.Held.{HeldData, row_count, kept_packets}
use Rattle.bats_decode.specs.Decoder.{DecoderData, StandsFor}
use Rattle.bats_decode.specs.SolvingPlan.{PlanFollows}
use Rattle.bats_decode.specs.declared.elimination.Origin.{Origin}
use Rattle.bats_decode.specs.steps.Eliminated.{IsShaped}
use Rattle.bats_decode.specs.steps.Replayed.{payload_grid}
use Rattle.bats_decode.specs.steps.SymbolRows.{rows_with}
use Rattle.bats_decode.proofs.AnswersRight.{answers-right}
use Rattle.bats_decode.proofs.LeftLemmas.{cols-inactive}
use Rattle.bats_batch.proofs.HeldNumbers.{length-kept_packets}
use Rattle.bats_decode.proofs.Solving.{shapes-kept, right-contradicted, right-of_kept, replayed-payloads, length-replayed, plan-follows, steps-bounded}
use Rattle.bats_decode.proofs.decoder.Decoder.solve_with.Goals as goal

pub returns-then-self-clause-right : goal.returns-then-self-clause-right
returns-then-self-clause-right g c packets h =
    right-contradicted packets c.args.self (ap (λ (d : DecoderData). d.contradicted) (sym c.self.view_is) ∙ c.if-self.true) h

pub returns-then-self-clause-inactive : goal.returns-then-self-clause-inactive
returns-then-self-clause-inactive g c packets h =
    let inside = c.self.inside in
    let peeled = c.in_ok-peeled.peeled in
    let stands = subst (StandsFor packets) (sym c.self.view_is) h in
    let session : inside.session ≡ c.args.self.held.session =
    sym c.self.invariant.0 ∙ ap (λ (d : DecoderData). d.held.session) c.self.view_is in (
      peeled.inactive,
      (
        subst (λ (s : SessionData). IsInactiveList s packets peeled.inactive) session (c.in_ok-peeled.ensures.inactive packets stands.holds),
        c.cols.ensures
            ∙ cols-inactive inside.session (length (kept_packets inside.held.batches)) peeled
            (c.in_ok-peeled.ensures.peeled packets stands.holds).placed,
      ),
    )

pub returns-then-self-clause-bound : goal.returns-then-self-clause-bound
returns-then-self-clause-bound g c packets h =
    let none : length c.new.result ≡ 0 = ap (λ (ops : List Op). length ops) c.new.ensures in
    omega (arith, none)

pub returns-clause-inactive : goal.returns-clause-inactive
returns-clause-inactive g c packets h =
    let inside = c.self.inside in
    let stands = subst (StandsFor packets) (sym c.self.view_is) h in
    let session : inside.session ≡ c.args.self.held.session =
    sym c.self.invariant.0 ∙ ap (λ (d : DecoderData). d.held.session) c.self.view_is in
    let found = c.in_ok-e.ensures.inactive packets stands.holds in (
      found.0,
      (
        subst (λ (s : SessionData). IsInactiveList s packets found.0) session found.1.0,
        c.cols-2.ensures ∙ found.1.1,
      ),
    )

pub returns-clause-bound : goal.returns-clause-bound
returns-clause-bound g c packets h =
    let inside = c.self.inside in
    let plan : List Op = c.in_ok-e.e.plan in
    let stands = subst (StandsFor packets) (sym c.self.view_is) h in
    let Within : HeldData → ℕ → Type 0 =
    λ held inactive. length plan ≤ row_count held.batches * (largest_degree held.session packets + inactive) in
    let found : Within inside.held c.in_ok-e.e.matrix.cols =
    subst (λ (s : SessionData). length plan ≤ row_count inside.held.batches * (largest_degree s packets + c.in_ok-e.e.matrix.cols))
    (sym c.self.invariant.0) (c.in_ok-e.ensures.bound packets stands.holds) in
    subst (λ (d : DecoderData). Within d.held c.cols-2.result) c.self.view_is (subst (Within inside.held) (sym c.cols-2.ensures) found)

pub answer-requires-clause-shape : goal.answer-requires-clause-shape
answer-requires-clause-shape g c κs lives =
    let kept : List Packet = kept_packets c.self.inside.held.batches in
    let replayed : IsReplayed c.in_ok-e.e.plan (payload_grid c.self.inside.session.t kept) c.replay.new.self =
    replayed-payloads c.self.inside.session.t kept c.in_ok-e.e.plan c.in_ok-payload.payload c.replay.new.self c.in_ok-payload.ensures
    c.replay.ensures.replayed in
    subst (λ (n : ℕ). IsShaped c.self.inside.session n c.in_ok-e.e)
    (sym (length-replayed c.self.inside.session.t kept c.in_ok-e.e.plan c.replay.new.self replayed)) c.in_ok-e.ensures.eliminated.shape

pub returns-clause-right : goal.returns-clause-right
returns-clause-right g c packets h =
    let inside = c.self.inside in
    let old : DecoderData = record { held = inside.held; contradicted = inside.contradicted; packets = inside.packets } in
    let stands : StandsFor packets old = subst (StandsFor packets) (sym c.self.view_is) h in
    let kept : List Packet = kept_packets inside.held.batches in
    let answer = c.in_ok-answer.answer in
    let shapes : All (HasShape inside.session) kept =
    subst (λ (s : SessionData). All (HasShape s) kept) c.self.invariant.0 (shapes-kept packets inside.held stands.holds) in
    let replayed : IsReplayed c.in_ok-e.e.plan (payload_grid inside.session.t kept) c.replay.new.self =
    replayed-payloads inside.session.t kept c.in_ok-e.e.plan c.in_ok-payload.payload c.replay.new.self c.in_ok-payload.ensures
    c.replay.ensures.replayed in
    let right : IsRightAnswer inside.session kept answer =
    answers-right inside.session kept c.in_ok-e.e c.replay.new.self answer c.t-within.ensures.within shapes c.in_ok-e.ensures.eliminated replayed
    c.in_ok-answer.ensures in
    subst (λ (d : DecoderData). IsRightAnswer d.held.session packets answer) c.self.view_is
    (right-of_kept packets old answer c.if-self.false stands
    (subst (λ (s : SessionData). IsRightAnswer s kept answer) (sym c.self.invariant.0) right))

pub returns-clause-kept : goal.returns-clause-kept
returns-clause-kept g c packets h =
    let stands = subst (StandsFor packets) (sym c.self.view_is) h in
    c.rows-kept.ensures.kept packets stands.holds

pub returns-clause-fits : goal.returns-clause-fits
returns-clause-fits g c =
    let plan = c.in_ok-e.e.plan in
    subst (λ (d : DecoderData). All (FitsRows (row_count d.held.batches)) plan) c.self.view_is
    (subst (λ (n : ℕ). All (FitsRows n) plan) (length-kept_packets c.self.inside.held.batches) c.in_ok-e.ensures.eliminated.shape.fits)

pub returns-clause-plan : goal.returns-clause-plan
returns-clause-plan g c packets h =
    let inside = c.self.inside in
    let e = c.in_ok-e.e in
    let answer = c.in_ok-answer.answer in
    let rows : c.in_ok-rows.rows ≡ rows_with e.origins.items answer =
    c.in_ok-rows.ensures ∙ ap (λ (origins : List Origin). rows_with origins answer) c.deref.ensures.value in
    let follows : PlanFollows inside.session (kept_packets inside.held.batches) e.plan c.in_ok-rows.rows answer =
    plan-follows inside.session (kept_packets inside.held.batches) e c.replay.new.self answer c.in_ok-rows.rows c.in_ok-e.ensures.eliminated
    c.in_ok-answer.ensures rows in
    subst (λ (d : DecoderData). PlanFollows d.held.session (kept_packets d.held.batches) e.plan c.in_ok-rows.rows answer) c.self.view_is
    (subst (λ (s : SessionData). PlanFollows s (kept_packets inside.held.batches) e.plan c.in_ok-rows.rows answer) (sym c.self.invariant.0) follows)

pub returns-in_err-answer-clause-steps : goal.returns-in_err-answer-clause-steps
returns-in_err-answer-clause-steps g c =
    steps-bounded c.self.inside.session c.self.inside.held c.args.self c.in_ok-e.e.plan c.in_ok-e.e.matrix.cols c.args.steps.now
    c.replay.new.steps c.self.invariant.0 (ap (λ (d : DecoderData). d.held) c.self.view_is) c.in_ok-e.ensures.inactive
    c.in_ok-e.ensures.bound c.replay.ensures.counted

pub returns-in_err-rows-clause-steps : goal.returns-in_err-rows-clause-steps
returns-in_err-rows-clause-steps g c =
    steps-bounded c.self.inside.session c.self.inside.held c.args.self c.in_ok-e.e.plan c.in_ok-e.e.matrix.cols c.args.steps.now
    c.replay.new.steps c.self.invariant.0 (ap (λ (d : DecoderData). d.held) c.self.view_is) c.in_ok-e.ensures.inactive
    c.in_ok-e.ensures.bound c.replay.ensures.counted

pub returns-clause-steps : goal.returns-clause-steps
returns-clause-steps g c =
    steps-bounded c.self.inside.session c.self.inside.held c.args.self c.in_ok-e.e.plan c.in_ok-e.e.matrix.cols c.args.steps.now
    c.replay.new.steps c.self.invariant.0 (ap (λ (d : DecoderData). d.held) c.self.view_is) c.in_ok-e.ensures.inactive
    c.in_ok-e.ensures.bound c.replay.ensures.counted
