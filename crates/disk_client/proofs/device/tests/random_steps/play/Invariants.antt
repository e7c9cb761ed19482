use Rattle.std.proofs.Common.{◌≡◌}
use Rattle.host_device.specs.{shape_of}
use Rattle.disk_client.proofs.device.tests.random_steps.play.Given as goal

abbrev pub invariant-loop : goal.invariant-loop
invariant-loop g l = shape_of l.device ≡ shape_of l.initial.device
