use Rattle.std.proofs.Common.{◌≡◌, ◌++◌}
use Rattle.host_gpt.specs.{filled}
use Rattle.host_gpt.proofs.sample.put_filled.Given as goal

abbrev pub invariant-loop : goal.invariant-loop
invariant-loop l = l.out.items ≡ l.initial.out.items ++ filled l.counter l.byte
