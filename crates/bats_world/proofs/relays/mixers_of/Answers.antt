use Rattle.std.proofs.Common.{◌∙◌, sym, ap, List, [], ◌∷◌, ◌++◌, get_or}
use Rattle.std.proofs.lemmas.List.{map_more, take_all}
use Rattle.bats_relay.specs.Mixer.{MixerData}
use Rattle.bats_world.specs.steps.Relays.{new_relay, new_relays}
use Rattle.bats_world.proofs.relays.mixers_of.Goals as goal

pub seeds-init : goal.seeds-init
seeds-init c = c.new-mixers.ensures.items

pub seeds-preserved : goal.seeds-preserved
seeds-preserved c =
    c.in_ok-push.ensures.items
    ∙ (ap (λ (r : MixerData). c.seeds.mixers.items ++ r ∷ []) c.new.ensures.value
    ∙ (ap (λ (l : List MixerData). l ++ new_relay c.args.session (get_or c.args.seeds.now c.seeds.seed-index []) ∷ []) c.seeds.invariant
    ∙ sym (map_more (new_relay c.args.session) c.args.seeds.now c.seeds.seed-index [] c.seeds-test.true)))

pub returns : goal.returns
returns c = c.seeds.invariant ∙ ap (new_relays c.args.session) (take_all c.seeds.seed-index c.args.seeds.now c.seeds-test.false)
