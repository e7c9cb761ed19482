use Rattle.model_rows.proofs.Partitions.{partitions_are_served}
use Rattle.model_rows.proofs.rows.partitions_are_served.Goals as goal

pub returns : goal.returns
returns c = partitions_are_served
