-- A gathered report is lawful for an image.
use Rattle.std.specs.Prelude.{ℕ, List}
use Rattle.host_block.specs.Changes.{IsLegal}
use Rattle.host_model.specs.Changes.{changes_of}
use Rattle.host_report.specs.declared.report.Report.{Report}
use Rattle.host_report.specs.Lawful.{IsLawful, IsOfImage, IsOnTable}
use Rattle.host_worker.specs.Ends.{EndsState}
use Rattle.host_worker.specs.Gathered.{IsReportGathered}

-- where its blocks and their size are the image's, its ranges are those of the image's table, and
-- its steps are one legal history of the image
abbrev pub GatheredReportsAreLawful : Type 0
GatheredReportsAreLawful =
    (image : List (List ℕ)) (ends : EndsState) (report : Report) → IsReportGathered ends report
    → IsOfImage image report → IsOnTable image report
    → IsLegal image (changes_of report.steps.items) → IsLawful image report
