use Rattle.model_rows.proofs.Table.{table_is_read}
use Rattle.model_rows.proofs.rows.a_table_is_read.Goals as goal

pub returns : goal.returns
returns c = table_is_read
