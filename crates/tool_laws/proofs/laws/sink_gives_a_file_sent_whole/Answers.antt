use Rattle.tool_laws.proofs.GivenBack.{of_sent}
use Rattle.tool_laws.proofs.AllSymbols.{comes_back}
use Rattle.tool_laws.proofs.laws.sink_gives_a_file_sent_whole.Goals as goal

pub returns : goal.returns
returns c = λ options file sent ending records list input both ranges bytes systematic first batches is_sent all.
    comes_back options file records list input both ending ranges bytes (record { systematic = systematic; first = first; batches = batches })
    (of_sent options file sent records is_sent all)
