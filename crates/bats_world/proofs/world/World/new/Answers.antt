use Rattle.std.proofs.Common.{◌≡◌, ◌∙◌, ap, sym, subst, refl}
use Rattle.bats_encoder.specs.Encoder.{EncoderData}
use Rattle.bats_world.specs.Standing.{IsTableOf}
use Rattle.bats_world.specs.steps.Relays.{new_relays}
use Rattle.bats_world.proofs.Finishing.{IsFile-same}
use Rattle.bats_world.proofs.StateSteps.{StandsFor-opening}
use Rattle.bats_world.proofs.WorldSteps.{IsWorld-opening}
use Rattle.bats_world.proofs.world.World.new.Goals as goal

pub invariant_of-result : goal.invariant_of-result
invariant_of-result c =
    let file : c.in-Ok.encoder.file ≡ c.args.file = ap (λ (e : EncoderData). e.file) c.in-Ok.ensures.ok in
    let relays : c.in_ok-mixers.mixers.items ≡ new_relays c.args.session c.args.relay_seeds =
    c.in_ok-mixers.ensures ∙ ap (new_relays c.args.session) c.as_slice.ensures in
    let table : IsTableOf c.args.links c.in_ok-linked.linked.items =
    subst (λ links. IsTableOf links c.in_ok-linked.linked.items) c.as_slice-2.ensures c.in_ok-linked.ensures in (
      ap (λ (e : EncoderData). e.session) c.in-Ok.ensures.ok,
      IsWorld-opening c.args.relay_seeds c.args.links (record {
        session = c.args.session;
        file = c.in-Ok.encoder.file;
        relays = c.in_ok-mixers.mixers.items;
        linked = c.in_ok-linked.linked.items;
        pool = c.new-2.result.items;
        sink = c.new-3.result;
      })
          (IsFile-same c.args.session c.args.session c.args.file c.in-Ok.encoder.file refl (sym file) (record {
            size = c.in-Ok.ensures.accepted.0 refl;
            bytes = c.as_slice-bytes.ensures.bytes;
          }))
          c.requires.relays c.requires.links relays table c.new-2.ensures.items c.new-3.ensures.session,
    )

pub returns-clause-stands : goal.returns-clause-stands
returns-clause-stands c =
    let file : c.in-Ok.encoder.file ≡ c.args.file = ap (λ (e : EncoderData). e.file) c.in-Ok.ensures.ok in
    let relays : c.in_ok-mixers.mixers.items ≡ new_relays c.args.session c.args.relay_seeds =
    c.in_ok-mixers.ensures ∙ ap (new_relays c.args.session) c.as_slice.ensures in
    let table : IsTableOf c.args.links c.in_ok-linked.linked.items =
    subst (λ links. IsTableOf links c.in_ok-linked.linked.items) c.as_slice-2.ensures c.in_ok-linked.ensures in
    StandsFor-opening c.args.session c.args.file c.args.relay_seeds c.args.links (record {
      session = c.args.session;
      file = c.in-Ok.encoder.file;
      relays = c.in_ok-mixers.mixers.items;
      linked = c.in_ok-linked.linked.items;
      pool = c.new-2.result.items;
      sink = c.new-3.result;
    }) refl file relays table c.new-2.ensures.items c.new-3.ensures.session c.new-3.ensures.empty
