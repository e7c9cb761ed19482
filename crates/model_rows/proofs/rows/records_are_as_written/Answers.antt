use Rattle.model_rows.proofs.Records.{records_are_as_written}
use Rattle.model_rows.proofs.rows.records_are_as_written.Goals as goal

pub returns : goal.returns
returns c = records_are_as_written
