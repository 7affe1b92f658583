use Rattle.tool_laws.proofs.SentPackets.{sends_as_promised}
use Rattle.tool_laws.proofs.laws.source_sends_a_packet_file.Goals as goal

pub returns : goal.returns
returns c = λ options file ending ranges seed bytes symbols.
    sends_as_promised options file ending (record { ranges = ranges; seed = seed; bytes = bytes; symbols = symbols })
