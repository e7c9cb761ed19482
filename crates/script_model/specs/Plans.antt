-- What a script says, without the room of its lists.
use Rattle.std.specs.Prelude.{ℕ, List, map}
use Rattle.host_record.specs.declared.finish.Finish.{Finish}
use Rattle.script_model.specs.declared.script.ScriptLine.{ScriptLine}
use Rattle.script_model.specs.declared.script.SessionScript.{SessionScript}
use Rattle.script_model.specs.declared.script.Script.{Script}

-- what one client is to do
pub record PlannedSession : Type 0 where
  pub part : ℕ
  pub lines : List ScriptLine
  pub finish : Finish

abbrev pub plan_of : SessionScript → PlannedSession
plan_of s = record { part = s.part; lines = s.lines.items; finish = s.finish }

abbrev pub plans_of : Script → List PlannedSession
plans_of script = map plan_of script.sessions.items
