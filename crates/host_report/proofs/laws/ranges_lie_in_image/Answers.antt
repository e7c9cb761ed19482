use Rattle.host_report.proofs.Ranges.{ranges_lie_in_image}
use Rattle.host_report.proofs.laws.ranges_lie_in_image.Goals as goal

pub returns : goal.returns
returns c = ranges_lie_in_image
