use Rattle.std.proofs.Common.{arith}
use Rattle.host_group.proofs.cells.Cells.close.Goals as goal
use Rattle.host_group.proofs.Closing.{closing}

pub free-requires : goal.free-requires
free-requires c k lt = let none = c.args.self.slots in let count = c.close_with.ensures.counts.1 in absurd (omega arith)

pub returns-clause-rows : goal.returns-clause-rows
returns-clause-rows c = (closing _ _ _ _ c.requires.0.1 c.requires.0.3 c.requires.1 c.close_with.ensures.values.2).0

pub returns-clause-those : goal.returns-clause-those
returns-clause-those c = (closing _ _ _ _ c.requires.0.1 c.requires.0.3 c.requires.1 c.close_with.ensures.values.2).1

pub returns-clause-ends : goal.returns-clause-ends
returns-clause-ends c = (closing _ _ _ _ c.requires.0.1 c.requires.0.3 c.requires.1 c.close_with.ensures.values.2).2
