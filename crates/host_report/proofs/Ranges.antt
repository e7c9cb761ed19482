-- The ranges of served partitions lie in the image.
use Rattle.std.proofs.Common.{◌+◌, ◌≤◌, List, [], ◌∷◌, arith}
use Rattle.std.specs.List.{AllByRecursion}
use Rattle.host_part.specs.{IsRangeOf, Layout}
use Rattle.host_report.specs.{RangesLieInImage, SessionReport}

each_lies : (layout : Layout) (sessions : List SessionReport) → AllByRecursion (λ s. IsRangeOf layout s.part s.range) sessions
    → AllByRecursion (λ s. s.range.first + s.range.count ≤ layout.blocks) sessions
each_lies layout [] h = tt
each_lies layout (s ∷ sessions) h =
    (omega (arith, (h.0).starts, (h.0).counts, (h.0).served.order, (h.0).served.below, (h.0).served.inside), each_lies layout sessions h.1)

pub ranges_lie_in_image : RangesLieInImage
ranges_lie_in_image image report h = each_lies _ report.sessions.items h.ranges
