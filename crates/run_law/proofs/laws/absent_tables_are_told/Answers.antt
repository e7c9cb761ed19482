use Rattle.run_law.proofs.Images.{absent_tables_are_told}
use Rattle.run_law.proofs.laws.absent_tables_are_told.Goals as goal

pub returns : goal.returns
returns c = absent_tables_are_told
