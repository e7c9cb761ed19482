-- What is lawful of a gathered report on whatever disk its sessions were played.
use Rattle.std.specs.Prelude.{◌≡◌, ◌++◌, map, length, filter, nat_lt, IsTrue}
use Rattle.std.specs.List.{AllByRecursion, range_with_len}
use Rattle.host_model.specs.LawfulSession.{IsLawfulSession}
use Rattle.host_model.specs.Lists.{implies}
use Rattle.host_report.specs.declared.report.Report.{Report}
use Rattle.host_report.specs.Lawful.{closing_steps, is_of_sessions, pages_asked, ran_short}
use Rattle.host_report.specs.Lawful.{session_of}
use Rattle.host_worker.specs.Ends.{EndsState}
use Rattle.host_worker.specs.Gathered.{IsReportGathered}

-- All that makes a report lawful but what its image says: sessions are numbered from 1, and each is
-- lawful; the steps are those of the sessions and the closing flush; frames ran short only where
-- more than the pool has were asked for, and all are home.
pub record IsLawfulOnAnyDisk (report : Report) : Type 0 where
  pub numbers : map (λ s. s.number) report.sessions.items
      ≡ range_with_len 1 (length report.sessions.items)
  pub sessions : AllByRecursion (λ s. IsLawfulSession (session_of report s)) report.sessions.items
  pub closing : report.steps.items
      ≡ filter (is_of_sessions (length report.sessions.items)) report.steps.items
      ++ closing_steps report.closing
  pub frames : IsTrue (implies (ran_short report.sessions.items)
      (nat_lt 4096 (pages_asked report.sessions.items)))
  pub home : report.frames_home ≡ 4096

abbrev pub GatheredRunsAreLawful : Type 0
GatheredRunsAreLawful =
    (ends : EndsState) (report : Report) → IsReportGathered ends report → IsLawfulOnAnyDisk report
