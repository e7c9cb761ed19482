use Rattle.std.proofs.Common.{◌≡◌, drop}
use Rattle.host_io.specs.{part_listed}
use Rattle.host_io.proofs.fails.failing_part.Given as goal

abbrev pub invariant-loop-fail : goal.invariant-loop-fail
invariant-loop-fail l = part_listed (drop l.fail-index l.fails) l.kind l.nr ≡ part_listed l.fails l.kind l.nr
