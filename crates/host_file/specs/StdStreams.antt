-- How often a stream of the system has failed.
use Rattle.std.specs.Prelude.{ℕ}
use Rattle.host_file.specs.declared.std_sink.StdSink.{StdSink}
use Rattle.host_file.specs.declared.std_source.StdSource.{StdSource}

abbrev pub std_sink_faults : {W : Type 0} → StdSink W → ℕ
std_sink_faults s = s.faults

abbrev pub std_source_faults : {R : Type 0} → StdSource R → ℕ
std_source_faults s = s.faults
