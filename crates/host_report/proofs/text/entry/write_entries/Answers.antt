use Rattle.std.proofs.Common.{arith}
use Rattle.host_report.specs.{memory_entry_line}
use Rattle.host_text.proofs.Putting.{adds_at, puts_exit, stops_at}
use Rattle.host_report.proofs.text.entry.write_entries.Goals as goal

pub returns-in_err-write_entry : goal.returns-in_err-write_entry
returns-in_err-write_entry g c =
    puts_exit _ _ c.from_residual.ensures.0
    (stops_at memory_entry_line c.args.entries.now c.loop-entry.entry-index c.entry-item.result c.entry-item.result (omega arith) c.entry-item.is c.loop-entry.invariant c.in_err-write_entry.ensures)

pub loop-entry-preserved : goal.loop-entry-preserved
loop-entry-preserved g c =
    adds_at memory_entry_line c.args.entries.now c.loop-entry.entry-index c.entry-item.result c.entry-item.result (omega arith) c.entry-item.is c.loop-entry.invariant c.in_ok-write_entry.ensures
