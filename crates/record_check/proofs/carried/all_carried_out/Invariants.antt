use Rattle.std.proofs.Common.{ℕ, ◌↔◌, ◌<◌, IsTrue}
use Rattle.record_check.specs.{IsCarriedBy}
use Rattle.record_check.proofs.carried.all_carried_out.Given as goal

abbrev pub invariant-loop-i : goal.invariant-loop-i
invariant-loop-i l = IsTrue l.all ↔ ((k : ℕ) → k < l.i → IsCarriedBy l.part l.rs l.rows l.steps k)
