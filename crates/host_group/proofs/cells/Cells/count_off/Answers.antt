use Rattle.std.proofs.Common.{arith}
use Rattle.host_group.proofs.cells.Cells.count_off.Goals as goal
use Rattle.host_group.proofs.RightSteps.{settles}

pub fetch_sub-left-requires : goal.fetch_sub-left-requires
fetch_sub-left-requires c = let words = c.args.self.now.words in let small = c.requires.0.4 in (c.requires.0.0, omega arith, settles _ _ _ _ c.requires.0.4 c.requires.0.2 c.requires.0.3 c.requires.1)
