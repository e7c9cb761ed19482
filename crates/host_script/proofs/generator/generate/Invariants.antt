use Rattle.std.proofs.Common.{◌≡◌, ◌+◌, ◌-◌, map, ◌++◌}
use Rattle.script_model.specs.{plan_of, sessions_from, generated}
use Rattle.host_script.proofs.generator.generate.Given as goal

abbrev pub invariant-loop-index : goal.invariant-loop-index
invariant-loop-index l = map plan_of l.made.items ++ sessions_from l.draws.state (l.index + 1) l.requests (l.sessions - l.index) ≡ generated l.seed l.sessions l.requests
