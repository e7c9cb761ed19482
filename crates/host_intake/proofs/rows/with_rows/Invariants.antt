use Rattle.std.proofs.Common.{◌≡◌, take}
use Rattle.host_intake.proofs.rows.with_rows.Given as goal

abbrev pub invariant-loop-row : goal.invariant-loop-row
invariant-loop-row l = (l.all.items ≡ take l.row-index l.fn.rows.items) × (l.all.room ≡ l.fn.all.room)
