use Rattle.std.proofs.Common.{ℕ, ◌↔◌, ◌<◌, IsTrue}
use Rattle.buffer_check.specs.{HasEntriesBy}
use Rattle.buffer_check.proofs.entries.all_have_entries.Given as goal

abbrev pub invariant-loop-i : goal.invariant-loop-i
invariant-loop-i l = IsTrue l.all ↔ ((k : ℕ) → k < l.i → HasEntriesBy l.rs l.rows l.steps l.history k)
