use Rattle.model_rows.proofs.Disk.{disks_are_as_written}
use Rattle.model_rows.proofs.rows.disks_are_as_written.Goals as goal

pub returns : goal.returns
returns c = disks_are_as_written
