use Rattle.run_rows.proofs.Endings.{endings_are_as_written}
use Rattle.run_rows.proofs.rows.endings_are_as_written.Goals as goal

pub returns : goal.returns
returns c = endings_are_as_written
