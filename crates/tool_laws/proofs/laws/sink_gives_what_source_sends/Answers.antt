use Rattle.tool_laws.proofs.GivenBack.{of_sent, gives_back_among}
use Rattle.tool_laws.proofs.laws.sink_gives_what_source_sends.Goals as goal

pub returns : goal.returns
returns c = λ options file sent ending records list input both ranges bytes is_sent all.
    gives_back_among options file records list input both ending ranges bytes (of_sent options file sent records is_sent all)
