use Rattle.std.proofs.Common.{arith, sym}
use Rattle.host_group.proofs.cells.Cells.place.Goals as goal
use Rattle.host_group.proofs.AdmitSteps.{places}

pub swap-requires : goal.swap-requires
swap-requires c = let words = c.args.self.now.words in let small = c.requires.1 in let is = c.requires.0 in (is.0.0, omega arith, places _ _ _ _ (omega arith) is.0.1 _ (sym c.requires.2) (is.0.3, is.1, is.2))
