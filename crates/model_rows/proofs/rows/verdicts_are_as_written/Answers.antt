use Rattle.model_rows.proofs.Verdicts.{verdicts_are_as_written}
use Rattle.model_rows.proofs.rows.verdicts_are_as_written.Goals as goal

pub returns : goal.returns
returns c = verdicts_are_as_written
