use Rattle.std.proofs.Common.{arith}
use Rattle.host_group.proofs.cells.Cells.admit.Goals as goal
use Rattle.host_group.proofs.Seating.{hands}

pub split_seat-right-requires : goal.split_seat-right-requires
split_seat-right-requires c = let words = c.args.self.now.words in let is = c.add.ensures.0 in (is.0, omega arith, hands _ _ is.1 is.3)
