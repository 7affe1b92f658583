use Rattle.bats_relay.proofs.RelayedPackets.{HasShape-relayed, Agrees-relayed, HasShape-outputs_of, Agrees-outputs_of}
use Rattle.bats_relay.proofs.laws.relayed_packets_agree.Goals as goal

pub returns-clause-shape : goal.returns-clause-shape
returns-clause-shape c session sent relays packet shapes is = HasShape-relayed session sent shapes relays packet is

pub returns-clause-any : goal.returns-clause-any
returns-clause-any c session sent relays packet file shapes agrees is =
    Agrees-relayed session sent shapes file agrees relays packet is

pub returns-clause-two : goal.returns-clause-two
returns-clause-two c session sent first second file shapes one two agrees =
    Agrees-outputs_of session first second file (HasShape-outputs_of session sent first shapes one) two
    (Agrees-outputs_of session sent first file shapes one agrees)
