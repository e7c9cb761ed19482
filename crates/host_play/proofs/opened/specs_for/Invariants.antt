use Rattle.std.proofs.Common.{◌≡◌, ◌≤◌, take, vec_capacity, length}
use Rattle.std.specs.Prelude.{map}
use Rattle.script_model.specs.{plan_of}
use Rattle.host_play.specs.{specs_from}
use Rattle.host_play.proofs.opened.specs_for.Given as goal

abbrev pub invariant-loop-k : goal.invariant-loop-k
invariant-loop-k l = (l.specs.items ≡ specs_from 1 (map plan_of (take l.k l.sessions)) (take l.k l.ranges) l.size l.depth) × (length l.sessions ≤ vec_capacity l.specs)
