use Rattle.model_rows.proofs.Intakes.{intakes_are_as_written}
use Rattle.model_rows.proofs.rows.intakes_are_as_written.Goals as goal

pub returns : goal.returns
returns c = intakes_are_as_written
