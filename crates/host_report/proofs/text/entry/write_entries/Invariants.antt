use Rattle.std.proofs.Common.{take, flat_map}
use Rattle.host_report.specs.{memory_entry_line}
use Rattle.host_text.specs.{AppendsText}
use Rattle.host_report.proofs.text.entry.write_entries.Given as goal

abbrev pub invariant-loop-entry : goal.invariant-loop-entry
invariant-loop-entry g l = AppendsText g.K.Sink.tells g.K.Sink.faults g.K.Sink.appended l.initial.out l.initial.held l.out l.held (flat_map memory_entry_line (take l.entry-index l.entries))
