-- What a script asks of the clients of a run, and whether a run played it.
use Rattle.std.specs.Prelude.{List, map}
use Rattle.host_report.specs.declared.report.Report.{Report}
use Rattle.host_report.specs.Played.{LineAsk, IsPlayedReport, Plan, attach, fill, send, show}
use Rattle.host_report.specs.Played.{wait_all, wait_for}
use Rattle.script_model.specs.declared.script.Script.{Script}
use Rattle.script_model.specs.declared.script.ScriptLine.{ScriptLine}
use Rattle.script_model.specs.declared.script.ScriptLine.TheVariants.{Attach, Fill, Show, Send}
use Rattle.script_model.specs.declared.script.ScriptLine.TheVariants.{WaitAll, WaitFor}
use Rattle.script_model.specs.Plans.{PlannedSession, plans_of}

-- what a line asks of its client
abbrev pub ask_of : ScriptLine → LineAsk
ask_of (Attach pages) = attach pages
ask_of (Fill id block count byte) = fill id block count byte
ask_of (Show id block count) = show id block count
ask_of (Send bytes) = send bytes
ask_of WaitAll = wait_all
ask_of (WaitFor total) = wait_for total

-- what the lines of one session ask of its client
abbrev pub asked_of : PlannedSession → Plan
asked_of s = record { part = s.part; asks = map ask_of s.lines; finish = s.finish }

-- the run played these plans
abbrev pub PlaysPlans : List PlannedSession → Report → Type 0
PlaysPlans plans report = IsPlayedReport (map asked_of plans) report

-- the run played the script
abbrev pub Plays : Script → Report → Type 0
Plays script report = PlaysPlans (plans_of script) report
