use Rattle.std.proofs.Common.{take, flat_map}
use Rattle.std.specs.List.{enumerate_from}
use Rattle.host_report.specs.{row_line}
use Rattle.host_text.specs.{AppendsText}
use Rattle.host_report.proofs.text.row.write_rows.Given as goal

abbrev pub invariant-loop-index : goal.invariant-loop-index
invariant-loop-index g l = AppendsText g.K.Sink.tells g.K.Sink.faults g.K.Sink.appended l.initial.out l.initial.held l.out l.held (flat_map row_line (take l.index (enumerate_from 0 l.rows)))
