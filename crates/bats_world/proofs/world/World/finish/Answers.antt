use Rattle.std.proofs.Common.{sym, subst, List}
use Rattle.bats_model.specs.Session.{SessionData}
use Rattle.bats_model.specs.Agreement.{IsFile}
use Rattle.bats_model.specs.Peeling.{IsInactiveList}
use Rattle.bats_model.specs.RightAnswer.{IsRightAnswer}
use Rattle.bats_model.specs.declared.packet.Packet.{Packet}
use Rattle.bats_world.specs.World.{sink_of, received_by}
use Rattle.bats_world.specs.Standing.{StandsFor}
use Rattle.bats_world.proofs.Honest.{AreHonest-reached, received-agree}
use Rattle.bats_world.proofs.Finishing.{IfOk-map, honest-right, IsFile-same}
use Rattle.bats_world.proofs.world.World.finish.Goals as goal

pub returns-clause-right : goal.returns-clause-right
returns-clause-right g c =
    IfOk-map c.solve.result _ _
    (λ solved right state stands.
    let w = subst (StandsFor state) (sym c.self.view_is) stands in
    let packets : List Packet = received_by (sink_of state) state.given in
    subst (λ (s : SessionData). IsRightAnswer s packets solved.answer) w.sink_session (right packets w.sink))
    c.solve.ensures.right

pub returns-clause-honest : goal.returns-clause-honest
returns-clause-honest g c =
    IfOk-map c.solve.result _ _
    (λ solved right state stands reached.
    let w = subst (StandsFor state) (sym c.self.view_is) stands in
    let packets : List Packet = received_by (sink_of state) state.given in
    let f : IsFile state.session state.file =
    IsFile-same c.self.inside.session state.session c.self.inside.encoder.file state.file w.session w.file c.self.invariant.1.file in
    honest-right state.session packets state.file solved.answer
    (received-agree state (AreHonest-reached state f reached) (sink_of state))
    (subst (λ (s : SessionData). IsRightAnswer s packets solved.answer) w.sink_session (right packets w.sink)))
    c.solve.ensures.right

pub returns-clause-kept : goal.returns-clause-kept
returns-clause-kept g c =
    IfOk-map c.solve.result _ _
    (λ solved kept state stands.
    let w = subst (StandsFor state) (sym c.self.view_is) stands in
    kept (received_by (sink_of state) state.given) w.sink)
    c.solve.ensures.kept

pub returns-clause-inactive : goal.returns-clause-inactive
returns-clause-inactive g c =
    IfOk-map c.solve.result _ _
    (λ solved inactive state stands.
    let w = subst (StandsFor state) (sym c.self.view_is) stands in
    let packets : List Packet = received_by (sink_of state) state.given in
    let found = inactive packets w.sink in
    (found.0, (subst (λ (s : SessionData). IsInactiveList s packets found.0) w.sink_session found.1.0, found.1.1)))
    c.solve.ensures.inactive
