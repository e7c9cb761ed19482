use Rattle.run_rows.proofs.WrongEnds.{wrong_ends_are_refused}
use Rattle.run_rows.proofs.rows.wrong_ends_are_refused.Goals as goal

pub returns : goal.returns
returns c = wrong_ends_are_refused
