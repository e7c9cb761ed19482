use Rattle.std.proofs.Common.{◌≡◌}
use Rattle.disk_client.proofs.device.tests.crashes.image_of.Given as goal

abbrev pub invariant-loop-b : goal.invariant-loop-b
invariant-loop-b g l = g.D.Disk.shape l.disk ≡ g.D.Disk.shape l.initial.disk
