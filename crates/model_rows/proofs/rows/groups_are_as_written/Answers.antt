use Rattle.model_rows.proofs.Groups.{groups_are_as_written}
use Rattle.model_rows.proofs.rows.groups_are_as_written.Goals as goal

pub returns : goal.returns
returns c = groups_are_as_written
