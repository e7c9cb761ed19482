use Rattle.std.proofs.Common.{◌≡◌}
use Rattle.host_cache.specs.{shape_of}
use Rattle.disk_client.proofs.cache.tests.random_calls.play.Given as goal

abbrev pub invariant-loop : goal.invariant-loop
invariant-loop g l = shape_of l.cache ≡ shape_of l.initial.cache
