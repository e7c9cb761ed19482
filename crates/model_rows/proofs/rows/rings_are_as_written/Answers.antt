use Rattle.model_rows.proofs.Rings.{rings_are_as_written}
use Rattle.model_rows.proofs.rows.rings_are_as_written.Goals as goal

pub returns : goal.returns
returns c = rings_are_as_written
