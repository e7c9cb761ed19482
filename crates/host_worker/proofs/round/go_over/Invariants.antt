use Rattle.std.specs.Prelude.{◌≡◌}
use Rattle.host_worker.specs.{HasWorked, IsHandOf, AreOthersSame, IsFound, begun_in}
use Rattle.host_worker.proofs.round.go_over.Given as goal

abbrev pub invariant-loop-k : goal.invariant-loop-k
invariant-loop-k g l = IsHandOf l.server l.hand × HasWorked l.fn.hand l.hand × AreOthersSame l.from l.k l.fn.hand l.hand × IsFound l.from l.k l.hand l.found × (begun_in l.hand ≡ begun_in l.fn.hand)
