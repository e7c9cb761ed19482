use Rattle.std.proofs.Common.{[], get_or, refl, arith}
use Rattle.host_gpt.specs.{Entry}
use Rattle.host_list.specs.{entry_line}
use Rattle.host_text.proofs.Putting.{adds_at, puts_exit, stops_at}
use Rattle.host_list.proofs.entry.write_entries.Goals as goal

abbrev fallback : Entry
fallback = record { number = 0; type_id = []; id = []; first = 0; last = 0; attributes = 0; name = [] }

pub returns-in_err-write_entry : goal.returns-in_err-write_entry
returns-in_err-write_entry g c =
    let entry = get_or c.args.entries.now c.loop-entry.entry-index fallback in
    puts_exit _ _ c.from_residual.ensures.0
    (stops_at (entry_line c.args.parts.now) c.args.entries.now c.loop-entry.entry-index entry fallback (omega arith) refl c.loop-entry.invariant c.in_err-write_entry.ensures)

pub loop-entry-preserved : goal.loop-entry-preserved
loop-entry-preserved g c =
    let entry = get_or c.args.entries.now c.loop-entry.entry-index fallback in
    adds_at (entry_line c.args.parts.now) c.args.entries.now c.loop-entry.entry-index entry fallback (omega arith) refl c.loop-entry.invariant c.in_ok-write_entry.ensures
