-- What follows from a run having played a script.
use Rattle.std.specs.Prelude.{◌≡◌, ℕ, ◌≤◌, List, ◌++◌, length, map}
use Rattle.std.specs.List.{AllZip}
use Rattle.host_model.specs.declared.event.Event.{Event}
use Rattle.host_model.specs.Groups.{owed}
use Rattle.host_model.specs.Lists.{count}
use Rattle.host_model.specs.Log.{requests}
use Rattle.host_report.specs.declared.report.Report.{Report}
use Rattle.host_report.specs.declared.session.SessionReport.{SessionReport}
use Rattle.host_report.specs.Lawful.{IsLawfulRun}
use Rattle.host_report.specs.Played.{IsPlayedBy, before_call, calls_asked}
use Rattle.script_model.specs.declared.script.ScriptLine.{ScriptLine}
use Rattle.script_model.specs.Owed.{owed as owed_by}
use Rattle.script_model.specs.Plans.{PlannedSession}
use Rattle.script_played.specs.Played.{PlaysPlans, ask_of, asked_of}
use Rattle.script_played.specs.Room.{is_move, moves_in, steps_ahead}

-- what the log tells of before the call that follows these lines
abbrev pub log_after : List ScriptLine → List Event → List Event
log_after lines log = before_call (length (calls_asked (map ask_of lines))) log

-- before each line's call the records of the log owe as many answers as the lines before it
abbrev pub OwedAsWritten : Type 0
OwedAsWritten =
    (plan : PlannedSession) (s : SessionReport) (before rest : List ScriptLine)
    → IsPlayedBy (asked_of plan) s → plan.lines ≡ before ++ rest
    → length (owed (requests (log_after before s.log.items))) ≡ owed_by before

-- the device makes no more steps than this, and each session no more lifts and landings
pub record FitIn (plans : List PlannedSession) (report : Report) : Type 0 where
  pub steps : length report.steps.items ≤ steps_ahead plans
  pub moves : AllZip
      (λ plan s. count is_move (map (λ e. e.what) s.memory.items) ≤ moves_in plan.lines) plans
      report.sessions.items

-- the histories of a lawful run fit into the room that its script asks for
abbrev pub HistoriesFit : Type 0
HistoriesFit =
    (image : List (List ℕ)) (plans : List PlannedSession) (report : Report)
    → IsLawfulRun image report → PlaysPlans plans report → FitIn plans report
