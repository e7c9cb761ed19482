use Rattle.std.proofs.Common.{arith}
use Rattle.host_group.proofs.cells.Cells.put_device_front.Goals as goal
use Rattle.host_group.proofs.RightSteps.{puts_device_front}

pub fetch_max-requires : goal.fetch_max-requires
fetch_max-requires c = let words = c.args.self.now.words in let small = c.requires.0.4 in (c.requires.0.0, omega arith, puts_device_front _ _ _ _ c.requires.0.4 c.requires.0.2 c.requires.0.3 _ c.requires.1 c.requires.2)
