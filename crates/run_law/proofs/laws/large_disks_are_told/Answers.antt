use Rattle.run_law.proofs.Images.{large_disks_are_told}
use Rattle.run_law.proofs.laws.large_disks_are_told.Goals as goal

pub returns : goal.returns
returns c = large_disks_are_told
