-- A run on a script that can't be played ends with the status that says why.
use Rattle.std.specs.Prelude.{◌≡◌, ℕ, ◌<◌, IsTrue, List, length, Option, Some, None}
use Rattle.host_report.specs.declared.report.Report.{Report}
use Rattle.host_run.specs.Runs.{RunLeaves}
use Rattle.host_run.specs.Scene.{Scene}
use Rattle.host_run.specs.Words.{Making, plans_made}
use Rattle.host_run.specs.declared.status.RunStatus.{RunStatus}
use Rattle.host_run.specs.declared.status.RunStatus.TheVariants.{BadScript, TooLarge}
use Rattle.host_start.specs.Reading.{IsBadAt, IsPast, IsTextPast}
use Rattle.host_start.specs.declared.error.Limit.{Limit}
use Rattle.host_start.specs.declared.error.Limit.TheVariants as limit
use Rattle.script_model.specs.declared.cause.ScriptCause.{ScriptCause}
use Rattle.run_law.specs.Ends.{EndsWith, IsNoMemory, IsUnread}

-- the script is read from a source that tells, where this text was left
pub record IsReadFrom (scene : Scene) (text : List ℕ) : Type 0 where
  pub read : scene.playing.making ≡ None
  pub tells : IsTrue scene.source.tells
  pub left : scene.source.left ≡ text

-- its first bad line is this one, for this cause first: the run ends with 4, unless the source
-- failed or memory was refused
abbrev pub BadScriptsAreTold : Type 0
BadScriptsAreTold =
    (scene : Scene) (status : RunStatus) (report : Option Report) (text : List ℕ) (line : ℕ)
    (cause : ScriptCause) → RunLeaves scene status report → IsReadFrom scene text
    → IsBadAt text line cause → EndsWith IsUnread (BadScript line cause) status report

-- it is too long: with 9 `script`
abbrev pub LongScriptsAreTold : Type 0
LongScriptsAreTold =
    (scene : Scene) (status : RunStatus) (report : Option Report) (text : List ℕ)
    → RunLeaves scene status report → IsReadFrom scene text → 1048576 < length text
    → EndsWith IsUnread (TooLarge limit.ScriptBytes) status report

-- it is a script that passes this limit first: with 9 and the limit
abbrev pub PassedLimitsAreTold : Type 0
PassedLimitsAreTold =
    (scene : Scene) (status : RunStatus) (report : Option Report) (text : List ℕ) (what : Limit)
    → RunLeaves scene status report → IsReadFrom scene text
    → IsTextPast scene.playing.size text what → EndsWith IsUnread (TooLarge what) status report

-- a generated script passes this limit first: with 9 and the limit, unless memory was refused
abbrev pub MadeLimitsAreTold : Type 0
MadeLimitsAreTold =
    (scene : Scene) (status : RunStatus) (report : Option Report) (making : Making) (what : Limit)
    → RunLeaves scene status report → scene.playing.making ≡ Some making
    → IsPast scene.playing.size (plans_made making) what
    → EndsWith IsNoMemory (TooLarge what) status report
