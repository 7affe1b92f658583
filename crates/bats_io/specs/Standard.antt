-- What the sources and sinks over std's readers and writers hold.
use Rattle.std.specs.Prelude.{ℕ, Bool}
use Rattle.bats_io.specs.declared.standard.StdSource.{StdSource}
use Rattle.bats_io.specs.declared.standard.StdSink.{StdSink}

abbrev pub reader_of : {R : Type 0} → StdSource R → R
reader_of source = source.inner

abbrev pub source_faults : {R : Type 0} → StdSource R → ℕ
source_faults source = source.faults

abbrev pub writer_of : {W : Type 0} → StdSink W → W
writer_of sink = sink.inner

abbrev pub sink_faults : {W : Type 0} → StdSink W → ℕ
sink_faults sink = sink.faults

abbrev pub sink_flushed : {W : Type 0} → StdSink W → Bool
sink_flushed sink = sink.flushed
