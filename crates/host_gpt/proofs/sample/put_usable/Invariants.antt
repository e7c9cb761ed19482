use Rattle.std.proofs.Common.{◌≡◌, ◌++◌}
use Rattle.host_gpt.specs.{usable_blocks}
use Rattle.host_gpt.proofs.sample.put_usable.Given as goal

abbrev pub invariant-loop-i : goal.invariant-loop-i
invariant-loop-i l = l.image.items ≡ l.initial.image.items ++ usable_blocks l.fill 34 l.i
