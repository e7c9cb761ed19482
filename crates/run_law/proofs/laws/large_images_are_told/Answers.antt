use Rattle.run_law.proofs.Images.{large_images_are_told}
use Rattle.run_law.proofs.laws.large_images_are_told.Goals as goal

pub returns : goal.returns
returns c = large_images_are_told
