use Rattle.std.proofs.Common.{refl, arith}
use Rattle.host_group.proofs.PlainLemmas.{rows_empty, blank_cells}
use Rattle.host_group.proofs.plain_cells.PlainCells.new.Goals as goal

pub returns : goal.returns
returns c = (refl, λ g. rows_empty g _ (blank_cells g) (omega arith))
