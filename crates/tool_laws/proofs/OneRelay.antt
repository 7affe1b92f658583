-- A relay has one ending on an input.
use Rattle.std.proofs.Common.{ℕ, ◌≡◌, ◌∙◌, inl, inr, sym, ap, subst, Bool, List}
use Rattle.bats_model.specs.Session.{SessionData}
use Rattle.bats_model.specs.PacketFile.{packets_of}
use Rattle.bats_model.specs.declared.item.Item.{Item}
use Rattle.bats_format.proofs.PacketFiles.{same_file}
use Rattle.bats_model.specs.Kept.{AreHeld}
use Rattle.tool_run.specs.Ending.{Ending}
use Rattle.tool_stream.specs.Relay.{RelaySends, IsRelayEnding, output_count, relayed_ending}
use Rattle.bats_model.proofs.RisingNumbers.{one_held}
use Rattle.tool_records.proofs.KeptEndings.{no_stop, one_stop}

one_sent : (seed : List ℕ) (extra : Bool) (count : ℕ) (input : List ℕ) (ending other : Ending)
    → RelaySends seed extra count input ending → RelaySends seed extra count input other → ending ≡ other
one_sent seed extra count input ending other h k =
    let same = same_file h.session k.session h.list k.list input h.file k.file in
    let held : AreHeld (packets_of h.list) k.numbers =
    subst (λ (x : List Item). AreHeld (packets_of x) k.numbers) (sym same.1) k.held in
    let numbers = one_held (packets_of h.list) h.numbers k.numbers h.held held in
    let made : SessionData → List Item → List ℕ → Ending =
    λ session list numbers. relayed_ending session seed (output_count session extra count) (packets_of list) numbers in
    h.ending_is
    ∙ ap (λ (x : SessionData). made x h.list h.numbers) same.0
    ∙ ap (λ (x : List Item). made k.session x h.numbers) same.1
    ∙ ap (λ (x : List ℕ). made k.session k.list x) numbers
    ∙ sym k.ending_is

pub one_relay : (seed : List ℕ) (extra : Bool) (count : ℕ) (input : List ℕ) (ending other : Ending)
    → IsRelayEnding seed extra count input ending → IsRelayEnding seed extra count input other → ending ≡ other
one_relay seed extra count input ending other (inl h) (inl k) = one_sent seed extra count input ending other h k
one_relay seed extra count input ending other (inl h) (inr k) = absurd (no_stop input h.session h.list other h.file h.few k)
one_relay seed extra count input ending other (inr h) (inl k) = absurd (no_stop input k.session k.list ending k.file k.few h)
one_relay seed extra count input ending other (inr h) (inr k) = one_stop input ending other h k
