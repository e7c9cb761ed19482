use Rattle.model_rows.proofs.MemoryDisks.{memory_disks_are_as_written}
use Rattle.model_rows.proofs.rows.memory_disks_are_as_written.Goals as goal

pub returns : goal.returns
returns c = memory_disks_are_as_written
