use Rattle.std.proofs.Common.{◌≡◌}
use Rattle.host_cache.specs.{shape_of}
use Rattle.disk_client.proofs.cache.tests.write_first.Given as goal

abbrev pub invariant-loop-b : goal.invariant-loop-b
invariant-loop-b g l = shape_of l.cache ≡ shape_of l.initial.cache
