-- Laws over lawful reports, as sentences.
use Rattle.std.specs.Prelude.{ℕ, ◌+◌, ◌≤◌, List, length}
use Rattle.std.specs.List.{AllByRecursion}
use Rattle.host_report.specs.Lawful.{IsOnTable}
use Rattle.host_report.specs.declared.report.Report.{Report}

-- the ranges of a report that is on the image's table lie in the image
abbrev pub RangesLieInImage : Type 0
RangesLieInImage = (image : List (List ℕ)) (report : Report) → IsOnTable image report
    → AllByRecursion (λ s. s.range.first + s.range.count ≤ length image) report.sessions.items
