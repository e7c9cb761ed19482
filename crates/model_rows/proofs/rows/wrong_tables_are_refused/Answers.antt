use Rattle.model_rows.proofs.WrongTables.{wrong_tables_are_refused}
use Rattle.model_rows.proofs.rows.wrong_tables_are_refused.Goals as goal

pub returns : goal.returns
returns c = wrong_tables_are_refused
