-- What the parts that a judge tells of a session and of a run say.
use Rattle.std.specs.Prelude.{◌≡◌, ◌↔◌, ℕ, List, length, filter, map, ◌++◌, nat_lt, IsTrue}
use Rattle.std.specs.List.{AllByRecursion, range_with_len}
use Rattle.host_block.specs.Changes.{IsLegal}
use Rattle.host_model.specs.Answers.{AreDueAnswers}
use Rattle.host_model.specs.Buffers.{IsBufferHistory}
use Rattle.host_model.specs.Carrying.{AreCarriedOut}
use Rattle.host_model.specs.Changes.{changes_of}
use Rattle.host_model.specs.LawfulSession.{IsLawfulSession}
use Rattle.host_model.specs.Lists.{implies}
use Rattle.host_model.specs.Order.{KeepsOrder}
use Rattle.host_model.specs.Session.{Session}
use Rattle.host_model.specs.Taking.{IsTakenInOrder}
use Rattle.host_report.specs.Lawful.{closing_steps, is_of_sessions, pages_asked, ran_short}
use Rattle.host_report.specs.Lawful.{session_of}
use Rattle.host_report.specs.declared.report.Report.{Report}
use Rattle.host_check.specs.declared.parts.RunParts.{RunParts}
use Rattle.host_check.specs.declared.parts.SessionParts.{SessionParts}

-- each part of the session holds where it is told
pub record TellsSession (s : Session) (p : SessionParts) : Type 0 where
  pub taken : IsTrue p.taken ↔ IsTakenInOrder s
  pub carried : IsTrue p.carried ↔ AreCarriedOut s
  pub answered : IsTrue p.answered ↔ AreDueAnswers s
  pub buffers : IsTrue p.buffers ↔ IsBufferHistory s
  pub ordered : IsTrue p.ordered ↔ KeepsOrder s

-- each part of the run holds where it is told
pub record TellsParts (image : List (List ℕ)) (report : Report) (p : RunParts) : Type 0 where
  pub numbers : IsTrue p.numbers
      ↔ (map (λ s. s.number) report.sessions.items
      ≡ range_with_len 1 (length report.sessions.items))
  pub sessions : IsTrue p.sessions
      ↔ AllByRecursion (λ s. IsLawfulSession (session_of report s)) report.sessions.items
  pub closing : IsTrue p.closing
      ↔ (report.steps.items
      ≡ filter (is_of_sessions (length report.sessions.items)) report.steps.items
      ++ closing_steps report.closing)
  pub legal : IsTrue p.legal ↔ IsLegal image (changes_of report.steps.items)
  pub frames : p.frames
      ≡ implies (ran_short report.sessions.items) (nat_lt 4096 (pages_asked report.sessions.items))
  pub home : IsTrue p.home ↔ (report.frames_home ≡ 4096)
