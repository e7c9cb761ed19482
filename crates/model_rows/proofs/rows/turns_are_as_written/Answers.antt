use Rattle.model_rows.proofs.Turns.{turns_are_as_written}
use Rattle.model_rows.proofs.rows.turns_are_as_written.Goals as goal

pub returns : goal.returns
returns c = turns_are_as_written
