use Rattle.std.proofs.Common.{◌≡◌, ◌++◌, take}
use Rattle.host_gpt.specs.{wide}
use Rattle.host_gpt.proofs.sample.put_name.Given as goal

abbrev pub invariant-loop-letter : goal.invariant-loop-letter
invariant-loop-letter l = l.out.items ≡ l.initial.out.items ++ wide (take l.letter-index l.name)
