use Rattle.run_rows.proofs.NoTable.{no_table_is_told}
use Rattle.run_rows.proofs.rows.a_missing_table_is_told.Goals as goal

pub returns : goal.returns
returns c = no_table_is_told
