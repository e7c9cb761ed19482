-- Each session of a gathered report is lawful.
use Rattle.std.specs.List.{AllByRecursion}
use Rattle.host_model.specs.LawfulSession.{IsLawfulSession}
use Rattle.host_report.specs.declared.report.Report.{Report}
use Rattle.host_report.specs.Lawful.{session_of}
use Rattle.host_worker.specs.Ends.{EndsState}
use Rattle.host_worker.specs.Gathered.{IsReportGathered}

abbrev pub GatheredSessionsAreLawful : Type 0
GatheredSessionsAreLawful =
    (ends : EndsState) (report : Report) → IsReportGathered ends report
    → AllByRecursion (λ s. IsLawfulSession (session_of report s)) report.sessions.items
