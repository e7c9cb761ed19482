use Rattle.std.proofs.Common.{arith}
use Rattle.host_group.proofs.cells.Cells.look.Goals as goal
use Rattle.host_group.proofs.AdmitSteps.{looks}

pub compare_exchange-left-requires : goal.compare_exchange-left-requires
compare_exchange-left-requires c = let words = c.args.self.now.words in let small = c.requires.1 in (c.requires.0.0, omega arith, looks _ _ _ _ (omega arith) c.requires.0.1 _ c.requires.0.3)
